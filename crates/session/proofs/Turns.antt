-- One more line is answered.
use Rattle.session.proofs.Common.{ended_line, IsReadFault, ScriptFault, IsLine}
use Rattle.std.specs.List.{All, flat_map}
use Rattle.std.specs.Io.KnownBytes.{Appends}
use Rattle.session.specs.Hearing.{Hearing, Hears, IsEnded, IsTooLong}
use Rattle.std.proofs.Common.{◌≡◌, ◌≢◌, ◌≤◌, ◌⊎◌, ◌==◌, ◌∙◌, ◌+◌, ◌-◌, inl, inr, ℕ, zero, suc, true, List, [], ◌∷◌, ◌++◌, drop, filter, length, slice_get, take, Option, Some, refl, ap, ap₂, sym, subst}
use Rattle.std.proofs.KnownBytes.{Appends-nil, Appends-trans, Keeps-refl}
use Rattle.std.proofs.Math.Seq.{drop-append_seam, take-append_seam}
use Rattle.std.proofs.lemmas.List.{append-nil, append_assoc, flat_map_more, length-append, map-append}
use Rattle.std.proofs.lemmas.List.Elements.{All-append, All-cons, All-head, All-nil, All-tail, filter-append}
use Rattle.std.proofs.lemmas.List.Splits.{slice_split_at, slice_split_none}
use Rattle.interface.proofs.lemmas.{not_true}
use Rattle.script.proofs.lemmas.{first_bad}
use Rattle.script.specs.Script.{AskForAs, IsFirstBadAs, asks, is_passed_over, lines_of}
use Rattle.command_line.specs.declared.fault.ScriptFault.TheVariants as fault
use Rattle.session.specs.Turns.{AreLines, Breaks, GoesOn, IsAnswered, IsBadLine, IsCause, IsRefused, Leads, Prints, Replaying, Serves, Turn, answers_of, reading, script_of, session_of}
use Rattle.session.proofs.Lines.{by_read, hears_both, hears_none}

-- all lines have their ends
abbrev pub AreEnded : List Turn → Type 0
AreEnded turns = All (λ (t : Turn). IsEnded t.line) turns

-- ---- lines with their ends, and a last one

pub all_lines : (turns : List Turn) → AreEnded turns → AreLines turns
all_lines [] h = tt
all_lines (t ∷ []) h = inl (All-head (λ u. IsEnded u.line) t [] h)
all_lines (t ∷ u ∷ turns) h = (All-head (λ v. IsEnded v.line) t (u ∷ turns) h, all_lines (u ∷ turns) (All-tail (λ v. IsEnded v.line) t (u ∷ turns) h))

pub last_line : (turns : List Turn) (t : Turn) → AreEnded turns → IsLine t.line → t.line ≢ [] → AreLines (turns ++ t ∷ [])
last_line [] t h last some = inr (last, some)
last_line (u ∷ []) t h last some = (All-head (λ v. IsEnded v.line) u [] h, inr (last, some))
last_line (u ∷ v ∷ turns) t h last some =
    (All-head (λ w. IsEnded w.line) u (v ∷ turns) h, last_line (v ∷ turns) t (All-tail (λ w. IsEnded w.line) u (v ∷ turns) h) last some)

-- ---- the events that lines ask for

pub first_line : (line rest : List ℕ) → IsLine line → lines_of (ended_line line ++ rest) ≡ line ∷ lines_of rest
first_line line rest h = ap lines_of (append_assoc line (10 ∷ []) rest) ∙ slice_split_at (λ b. b == 10) line 10 rest h refl

pub first_lines : (lines : List (List ℕ)) (rest : List ℕ) → All IsLine lines → lines_of (flat_map ended_line lines ++ rest) ≡ lines ++ lines_of rest
first_lines [] rest h = refl
first_lines (l ∷ lines) rest h =
    ap lines_of (append_assoc (ended_line l) (flat_map ended_line lines) rest) ∙ first_line l (flat_map ended_line lines ++ rest) (All-head IsLine l lines h)
    ∙ ap (λ ls. l ∷ ls) (first_lines lines rest (All-tail IsLine l lines h))

-- lines without their ends, of which a script is made
record Made (script : List ℕ) (count : ℕ) : Type 0 where
  lines : List (List ℕ)
  are : All IsLine lines
  parts : script ≡ flat_map ended_line lines
  counted : length lines ≡ count

made : (turns : List Turn) → AreEnded turns → Made (script_of turns) (length turns)
made [] h = record { lines = []; are = All-nil IsLine; parts = refl; counted = refl }
made (t ∷ turns) h =
    let piece : IsEnded t.line = All-head (λ u. IsEnded u.line) t turns h in
    let rest : Made (script_of turns) (length turns) = made turns (All-tail (λ u. IsEnded u.line) t turns h) in
    record {
      lines = piece.0 ∷ rest.lines;
      are = All-cons IsLine piece.0 rest.lines piece.1 rest.are;
      parts = ap₂ (λ (xs ys : List ℕ). xs ++ ys) piece.2 rest.parts;
      counted = ap suc rest.counted;
    }

-- what lines ask for, and then what follows them asks for
asked_front : {script : List ℕ} {count : ℕ} (m : Made script count) → filter asks (lines_of script) ≡ filter asks m.lines
asked_front {script} m =
    ap (λ (xs : List ℕ). filter asks (lines_of xs)) (m.parts ∙ sym (append-nil (flat_map ended_line m.lines))) ∙ ap (filter asks) (first_lines m.lines [] m.are)
    ∙ filter-append asks m.lines ([] ∷ []) ∙ append-nil (filter asks m.lines)

all_front : {script : List ℕ} {count : ℕ} (m : Made script count) (more : List ℕ) → lines_of (script ++ more) ≡ m.lines ++ lines_of more
all_front m more = ap (λ (xs : List ℕ). lines_of (xs ++ more)) m.parts ∙ first_lines m.lines more m.are

asked_after : (turns : List Turn) (more : List ℕ) → AreEnded turns
    → filter asks (lines_of (script_of turns ++ more)) ≡ filter asks (lines_of (script_of turns)) ++ filter asks (lines_of more)
asked_after turns more h =
    let m = made turns h in
    ap (filter asks) (all_front m more) ∙ filter-append asks m.lines (lines_of more) ∙ ap (λ xs. xs ++ filter asks (lines_of more)) (sym (asked_front m))

-- ---- the line that is no event

one_asks : (own line : List ℕ) (n : ℕ) → slice_get (own ∷ []) n ≡ Some line → asks line ≡ true → line ≡ own
one_asks own line zero h a = cc
one_asks own line (suc n) h a = cc

first_asks : (own line : List ℕ) (n : ℕ) → slice_get (own ∷ [] ∷ []) n ≡ Some line → asks line ≡ true → line ≡ own
first_asks own line zero h a = cc
first_asks own line (suc zero) h a = cc
first_asks own line (suc (suc n)) h a = cc

module _ {E : Type 0} (spelled : E → List ℕ) (IsMeant : E → Type 0) where
  bad_own : (turns : List Turn) (line own : List ℕ) (rest : List (List ℕ)) (events : List E) (n : ℕ) → AreEnded turns
      → AskForAs spelled IsMeant events (lines_of (script_of turns)) → lines_of line ≡ own ∷ rest
      → ((b : List ℕ) (k : ℕ) → slice_get (own ∷ rest) k ≡ Some b → asks b ≡ true → b ≡ own)
      → IsFirstBadAs spelled IsMeant line n → IsFirstBadAs spelled IsMeant (script_of turns ++ line) (length turns + 1)
  bad_own turns line own rest events n ended asked is only h =
      let m = made turns ended in
      let text : List ℕ = script_of turns ++ line in
      let all : lines_of text ≡ m.lines ++ own ∷ rest = all_front m line ∙ ap (λ ls. m.lines ++ ls) is in
      let same : h.line ≡ own = only h.line (n - 1) (ap (λ ls. slice_get ls (n - 1)) (sym is) ∙ h.reached.there) h.reached.asks in
      let front : take (length turns) (lines_of text) ≡ m.lines = ap₂ (λ (k : ℕ) (ls : List (List ℕ)). take k ls) (sym m.counted) all ∙ take-append_seam m.lines (own ∷ rest) in
      let back : drop (length turns) (lines_of text) ≡ own ∷ rest = ap₂ (λ (k : ℕ) (ls : List (List ℕ)). drop k ls) (sym m.counted) all ∙ drop-append_seam m.lines (own ∷ rest) in
      first_bad spelled IsMeant text (length turns) own rest events back (not_true (is_passed_over own) (ap asks (sym same) ∙ h.reached.asks))
      (subst (λ xs. (e : E) → IsMeant e → xs ≢ spelled e) same h.bad)
      (record { spelled = asked.spelled ∙ asked_front m ∙ ap (filter asks) (sym front); meant = asked.meant })

  pub bad_after : (turns : List Turn) (line : List ℕ) (events : List E) (n : ℕ) → AreEnded turns
      → AskForAs spelled IsMeant events (lines_of (script_of turns)) → IsEnded line ⊎ IsLine line
      → IsFirstBadAs spelled IsMeant line n → IsFirstBadAs spelled IsMeant (script_of turns ++ line) (length turns + 1)
  bad_after turns line events n ended asked (inl whole) h = bad_own turns line whole.0 ([] ∷ []) events n ended asked
      (ap lines_of (whole.2 ∙ sym (append-nil (ended_line whole.0))) ∙ first_line whole.0 [] whole.1) (λ b k. first_asks whole.0 b k) h
  bad_after turns line events n ended asked (inr is_line) h =
      bad_own turns line line [] events n ended asked (slice_split_none (λ b. b == 10) line is_line) (λ b k. one_asks line b k) h

-- ---- the first turns of one more

pub take_none : (n : ℕ) → take {A = Turn} n [] ≡ []
take_none zero = refl
take_none (suc n) = refl

take_more : (turns : List Turn) (t : Turn) (n : ℕ) → (take n (turns ++ t ∷ []) ≡ take n turns) ⊎ (take n (turns ++ t ∷ []) ≡ turns ++ t ∷ [])
take_more turns t zero = inl refl
take_more [] t (suc n) = inr (ap (λ us. t ∷ us) (take_none n))
take_more (u ∷ turns) t (suc n) = elim (take_more turns t n) [
  | inl same ↦ inl (ap (λ us. u ∷ us) same)
  | inr same ↦ inr (ap (λ us. u ∷ us) same)
]

-- ---- why lines are not answered

pub cause_as : {R Q : ℕ → Type 0} {L M : Type 0} (f : ScriptFault) (said after : Option (List ℕ)) → ((number : ℕ) → R number → Q number) → (L → M)
    → IsCause R L f said after → IsCause Q M f said after
cause_as (fault.BadLine number) said after so long h = (so number h.0, h.1)
cause_as fault.TooLong said after so long h = (long h.0, h.1)
cause_as fault.CannotRead said after so long h = h
cause_as fault.OutOfMemory said after so long h = h
cause_as fault.CannotWrite said after so long h = h
cause_as fault.BadTopology said after so long h = h
cause_as fault.BadOptions said after so long h = h

-- ---- a session begins, continues and ends

-- this many lines so far have their ends and are answered, and the network is where their events lead
pub record Standing {S E : Type 0} (spelled : E → List ℕ) (IsMeant : E → Type 0) (Replays : Replaying S E) (opening now : S)
    (old here : Hearing) (before mid : Option (List ℕ)) (passed : ℕ) : Type 0 where
  pub serves : Serves (Prints spelled IsMeant Replays opening) old here before mid
  pub ended : AreEnded serves.turns
  pub counted : length serves.turns ≡ passed
  pub leads : Leads spelled IsMeant Replays opening now (script_of serves.turns) (answers_of serves.turns)

module _ {S E : Type 0} {spelled : E → List ℕ} {IsMeant : E → Type 0} {Replays : Replaying S E} where
  leads_more : GoesOn Replays → (opening mid new : S) (turns : List Turn) (t : Turn) → AreEnded turns
      → Leads spelled IsMeant Replays opening mid (script_of turns) (answers_of turns) → Leads spelled IsMeant Replays mid new t.line t.answer
      → Leads spelled IsMeant Replays opening new (script_of (turns ++ t ∷ [])) (answers_of (turns ++ t ∷ []))
  leads_more goes_on opening mid new turns t ended h k = record {
    events = h.events ++ k.events;
    asked = record {
      spelled = map-append spelled h.events k.events ∙ ap₂ (λ (xs ys : List (List ℕ)). xs ++ ys) h.asked.spelled k.asked.spelled
          ∙ sym (asked_after turns t.line ended) ∙ ap (λ (xs : List ℕ). filter asks (lines_of xs)) (flat_map_more (λ (u : Turn). u.line) [] turns t);
      meant = All-append IsMeant h.events k.events h.asked.meant k.asked.meant;
    };
    replayed = subst (Replays opening (h.events ++ k.events) new) (flat_map_more (λ (u : Turn). u.answer) [] turns t)
        (goes_on opening mid new h.events k.events (answers_of turns) t.answer h.replayed k.replayed);
  }

  pub stands : (opening : S) (here : Hearing) (before : Option (List ℕ)) → here.heard ≤ 268435456 → Replays opening [] opening []
      → Standing spelled IsMeant Replays opening opening here here before before 0
  stands opening here before short none =
      let leads : Leads spelled IsMeant Replays opening opening [] [] =
      record { events = []; asked = record { spelled = refl; meant = All-nil IsMeant }; replayed = none } in
      let P : List Turn → Type 0 = λ us. Prints spelled IsMeant Replays opening (script_of us) (answers_of us) in
      record {
        serves = record {
          turns = [];
          heard = hears_none here;
          answers = record { lines = tt; in_turn = λ n. subst P (sym (take_none n)) (opening, leads) };
          short = short;
          written = Appends-nil before;
        };
        ended = All-nil (λ (t : Turn). IsEnded t.line);
        counted = refl;
        leads = leads;
      }

  -- no more is heard
  pub breaks_unheard : {opening now : S} {old here : Hearing} {before mid : Option (List ℕ)} {passed : ℕ} (f : ScriptFault)
      → Standing spelled IsMeant Replays opening now old here before mid passed → IsReadFault f → (f ≡ fault.TooLong → IsTooLong here)
      → Breaks (reading spelled IsMeant Replays opening) old f before mid
  breaks_unheard {opening} {now} {old} {here} {before} {mid} f h read long =
      record { last = here; said = mid; serves = h.serves; cause = by_read (λ g. IsCause (IsRefused (IsFirstBadAs spelled IsMeant) (script_of h.serves.turns) here) (IsTooLong here) g mid mid) f read (λ e. (long e, Keeps-refl mid)) (Keeps-refl mid) ([], Appends-nil mid) }

  module _ {opening now : S} {old here next : Hearing} {line : List ℕ} {before mid : Option (List ℕ)} {passed : ℕ}
      (h : Standing spelled IsMeant Replays opening now old here before mid passed) (k : Hears here next line) (short : next.heard ≤ 268435456) where
    -- nothing more is heard
    pub serves_end : line ≡ [] → Serves (Prints spelled IsMeant Replays opening) old next before mid
    serves_end none = record {
      turns = h.serves.turns;
      heard = subst (Hears old next) (ap (λ xs. script_of h.serves.turns ++ xs) none ∙ append-nil (script_of h.serves.turns)) (hears_both h.serves.heard k);
      answers = h.serves.answers;
      short = short;
      written = h.serves.written;
    }

    module _ {new : S} {after : Option (List ℕ)} (goes_on : GoesOn Replays) (said : IsAnswered spelled IsMeant Replays now new line mid after) where
      abbrev answered : List Turn
      answered = h.serves.turns ++ record { line = line; answer = said.answer } ∷ []

      leads : Leads spelled IsMeant Replays opening new (script_of answered) (answers_of answered)
      leads = leads_more goes_on opening now new h.serves.turns (record { line = line; answer = said.answer }) h.ended h.leads said.leads

      serves_more : AreLines answered → Serves (Prints spelled IsMeant Replays opening) old next before after
      serves_more lines =
          let t : Turn = record { line = line; answer = said.answer } in
          let P : List Turn → Type 0 = λ us. Prints spelled IsMeant Replays opening (script_of us) (answers_of us) in
          record {
            turns = answered;
            heard = subst (Hears old next) (flat_map_more (λ (u : Turn). u.line) [] h.serves.turns t) (hears_both h.serves.heard k);
            answers = record {
              lines = lines;
              in_turn = λ n. elim (take_more h.serves.turns t n) [
                | inl same ↦ subst P (sym same) (h.serves.answers.in_turn n)
                | inr same ↦ subst P (sym same) (new, leads)
              ];
            };
            short = short;
            written = subst (Appends before after) (flat_map_more (λ (u : Turn). ended_line u.answer) [] h.serves.turns t)
                (Appends-trans before mid after (session_of h.serves.turns) (ended_line said.answer) h.serves.written said.written);
          }

      -- the line is answered
      pub stands_more : IsEnded line → Standing spelled IsMeant Replays opening new old next before after (passed + 1)
      unfolding serves_more
      stands_more ended =
          let t : Turn = record { line = line; answer = said.answer } in
          let all : AreEnded answered = All-append (λ (t : Turn). IsEnded t.line) h.serves.turns (t ∷ []) h.ended
          (All-cons (λ (t : Turn). IsEnded t.line) t [] ended (All-nil (λ (t : Turn). IsEnded t.line))) in
          record {
            serves = serves_more (all_lines answered all);
            ended = all;
            counted = length-append h.serves.turns (t ∷ []) ∙ ap (λ n. n + 1) h.counted;
            leads = leads;
          }

      -- so is the last one, which has no end
      pub serves_last : IsLine line → line ≢ [] → Serves (Prints spelled IsMeant Replays opening) old next before after
      serves_last last some = serves_more (last_line h.serves.turns (record { line = line; answer = said.answer }) h.ended last some)

    -- or it is no event
    pub refused : (number : ℕ) → IsEnded line ⊎ IsLine line → IsBadLine spelled IsMeant line passed number
        → IsRefused (IsFirstBadAs spelled IsMeant) (script_of h.serves.turns) here number
    refused number whole (is, n, bad) = (
      line,
      next,
      k,
      short,
      subst (IsFirstBadAs spelled IsMeant (script_of h.serves.turns ++ line)) (sym (is ∙ ap (λ m. m + 1) (sym h.counted)))
          (bad_after spelled IsMeant h.serves.turns line h.leads.events n h.ended h.leads.asked whole bad),
    )

    pub breaks_unanswered : (f : ScriptFault) (after : Option (List ℕ)) → IsEnded line ⊎ IsLine line → IsCause (IsBadLine spelled IsMeant line passed) ⊥ f mid after
        → Breaks (reading spelled IsMeant Replays opening) old f before after
    breaks_unanswered f after whole h_cause = record {
      last = here;
      said = mid;
      serves = h.serves;
      cause = cause_as f mid after (λ number bad. refused number whole bad) (λ bad. absurd bad) h_cause;
    }
