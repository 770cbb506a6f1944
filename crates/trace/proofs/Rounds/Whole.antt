-- What is traced of a calm says all of it: over any carrier whose calls leave a replay no choice.
use Rattle.trace.proofs.Common.{eqb-true, Calls, Shown, shown_crossings, shown_refusal, AreSettled, RawEvent, Element, Spot, Course, begins_in, by_round, events_of, rounds_from, Inside, IsStill, SaysAll, TellsElement, TellsEvent, TellsMoving, TellsRound, TellsRounds}
use Rattle.trace.specs.Traces.{TellsStill}
use Rattle.std.proofs.Common.{◌≡◌, ◌⊎◌, inl, inr, ◌==◌, ◌<◌, ℕ, zero, suc, Bool, true, false, List, [], ◌∷◌, ◌++◌, length, Result, Ok, Err, arith, refl, sym, ap, ◌∙◌, subst}
use Rattle.std.proofs.lemmas.List.{append_assoc, append-nil, map-append}
use Rattle.interface.specs.declared.CarrierFault.{CarrierFault}
use Rattle.replay.proofs.lemmas.{replays_once}
use Rattle.replay.specs.InTurn.{Happening, InTurn}
use Rattle.replay.specs.Replay.{GoesOn, Happens, Onward, Replays, Round, Rounds}
use Rattle.script.specs.declared.event.RawEvent.TheVariants as event
use Rattle.trace.proofs.Closed.{first_same, rest_same}
use Rattle.trace.proofs.Going.{AllRoundsGo, Goes, Run, Traced, crossings_are, run_none, run_then}
use Rattle.trace.proofs.Rounds.Listed.{AllIn, whole_round}

-- ---- rounds that are traced, the first of them apart

-- the first round is traced. It is still, and the last that is traced; or it isn't, and the others are traced after it
pub record Opened {C : Type 0} (calls : Calls C) (inside : Inside C) (spot : Spot) (old : C) (round : List Element)
    (rounds : List (List Element)) (new : C) (lines : List (List ℕ)) : Type 0 where
  pub mid : C
  pub first : List (List ℕ)
  pub rest : List (List ℕ)
  pub told : TellsRound calls inside spot old round mid first
  pub after : (IsStill calls inside old mid × (new ≡ mid) × (rest ≡ []))
      ⊎ ((IsStill calls inside old mid → ⊥) × TellsRounds calls inside spot mid rounds new rest)
  pub all : lines ≡ first ++ rest

pub opened_rounds : {C : Type 0} (calls : Calls C) (inside : Inside C) (spot : Spot) (old : C) (round : List Element)
    (rounds : List (List Element)) (new : C) (lines : List (List ℕ))
    → TellsRounds calls inside spot old (round ∷ rounds) new lines
    → Opened calls inside spot old round rounds new lines
opened_rounds calls inside spot old round rounds new lines (inl (mid, first, rest, (told, moved), later, all)) =
    record { mid = mid; first = first; rest = rest; told = told; after = inr (moved, inl later); all = all }
opened_rounds {C} calls inside spot old round rounds new lines (inr h) =
    by h.done h.last h.left h.parts h.mid h.front h.before h.own h.goes h.lines where
      by : (done : List (List Element)) (last : List Element) (left : List (List Element))
          → round ∷ rounds ≡ done ++ last ∷ left → (from : C) (front : List (List ℕ))
          → InTurn (TellsMoving calls inside spot) old done from front → (own : List (List ℕ))
          → TellsStill calls inside spot from last new own → lines ≡ front ++ own
          → Opened calls inside spot old round rounds new lines
      by [] last left parts from front before own goes is =
          let here : TellsStill calls inside spot old round new own =
          subst (λ (r : List Element). TellsStill calls inside spot old r new own) (sym (first_same parts))
          (subst (λ (c : C). TellsStill calls inside spot c last new own) before.0 goes) in
          record {
            mid = new;
            first = own;
            rest = [];
            told = here.0;
            after = inl (here.1, refl, refl);
            all = is ∙ ap (λ ls. ls ++ own) before.1 ∙ sym (append-nil own);
          }
      by (d ∷ done) last left parts from front (mid, first, rest, one, more, all) own goes is = record {
        mid = mid;
        first = first;
        rest = rest ++ own;
        told = subst (λ (r : List Element). TellsRound calls inside spot old r mid first)
            (sym (first_same parts)) one.0;
        after = inr (
          one.1,
          inr (record {
            done = done;
            last = last;
            left = left;
            parts = rest_same parts;
            mid =
                from;
            front = rest;
            before = more;
            own = own;
            goes = goes;
            lines = refl;
          }),
        );
        all = is ∙ ap (λ ls. ls ++ own) all ∙ append_assoc first rest own;
      }

-- none is left
pub none_told : {C : Type 0} (calls : Calls C) (inside : Inside C) (spot : Spot) (old new : C) (lines : List (List ℕ))
    → TellsRounds calls inside spot old [] new lines → (new ≡ old) × (lines ≡ [])
none_told calls inside spot old new lines (inl h) = h
none_told calls inside spot old new lines (inr h) = absurd (by h.done h.parts) where
  by : (done : List (List Element)) → [] ≡ done ++ h.last ∷ h.left → ⊥
  by [] parts = let long : 0 ≡ suc (length h.left) = ap length parts in omega (arith, long)
  by (d ∷ done) parts = let long : 0 ≡ suc (length (done ++ h.last ∷ h.left)) = ap length parts in omega (arith, long)

-- ---- what is traced replays

-- events one after the other, and then others
pub in_turn_then : {S E L : Type 0} (Happens : Happening S E L) (old mid new : S) (xs ys : List E) (first rest : List L)
    → InTurn Happens old xs mid first → InTurn Happens mid ys new rest
    → InTurn Happens old (xs ++ ys) new (first ++ rest)
in_turn_then {S} {E} {L} Happens old mid new [] ys first rest h k =
    subst (λ (ls : List L). InTurn Happens old ys new (ls ++ rest)) (sym h.1)
    (subst (λ (s : S). InTurn Happens s ys new rest) h.0 k)
in_turn_then Happens old mid new (x ∷ xs) ys first rest (next, begin, later, h, hs, all) k = (
  next,
  begin,
  later ++ rest,
  h,
  in_turn_then Happens next mid new xs ys later rest hs k,
  ap (λ ls. ls ++ rest) all
      ∙ append_assoc begin later rest,
)

pub round_replays : {C : Type 0} (calls : Calls C) (inside : Inside C) (spot : Spot) (old new : C)
    (round : List Element) (lines : List (List ℕ)) → TellsRound calls inside spot old round new lines
    → (shown : List Shown) × Replays calls old (events_of round) new shown
round_replays calls inside spot old new [] lines h = ([], (h.0, refl))
round_replays calls inside spot old new (x ∷ round) lines (mid, first, rest, (own, happens, is), later, all) =
    let (more, replays) = round_replays calls inside spot mid new round rest later in
    (own ++ more, (mid, own, more, happens, replays, refl))

-- ---- rounds of a carrier

-- what is known of a carrier's rounds: each is a course, whose elementary events have its number, its calls leave no
-- choice, and a still
-- round leaves the carrier as it was
pub record AreRounds {C S : Type 0} (x : Traced C S) (inside : Inside C) (whole : ℕ → S → Course S) : Type 0 where
  pub go : AllRoundsGo x whole
  pub settled : AreSettled x.calls
  pub numbered : (round : ℕ) (s : S) → AllIn round (whole round s).elements
  pub stays : (round : ℕ) (old new : C) → x.Holds old → Goes x old (whole round (x.view old)) (Ok tt) new
      → IsStill x.calls inside old new → new ≡ old
  pub calm : (c : C) (rounds : ℕ) → inside.calm c rounds ≡ (rounds_from whole 1 rounds (x.view c)).elements

-- no later round begins as an earlier one
other_begins : (round other : ℕ) (xs rest : List Element) → AllIn other xs → round < other
    → begins_in round rest ≡ false → begins_in round (xs ++ rest) ≡ false
other_begins round other [] rest all less none = none
other_begins round other (x ∷ xs) rest all less none = by (x.round == round) refl where
  by : (b : Bool) → (x.round == round) ≡ b → (x.round == round) ≡ false
  by true e = let same : x.round ≡ round = eqb-true x.round round e in let is : x.round ≡ other =
      all.0 in absurd (omega (arith, same, is, less))
  by false e = e

later_begins : {S : Type 0} (whole : ℕ → S → Course S) → ((round : ℕ) (s : S) → AllIn round (whole round s).elements)
    → (round other times : ℕ) (s : S) → round < other
    → begins_in round (rounds_from whole other times s).elements ≡ false
later_begins whole numbered round other zero s less = refl
later_begins whole numbered round other (suc times) s less =
    other_begins round other _
    _ (numbered other s) less
    (later_begins whole numbered round (suc other) times (whole other s).left (omega (arith, less)))

module _ {C S : Type 0} (x : Traced C S) (inside : Inside C) (whole : ℕ → S → Course S)
    (are : AreRounds x inside whole) where
  -- one round, and then others
  record Next (round times : ℕ) (old : C) (r : Result (Unit {0}) CarrierFault) (new : C) : Type 0 where
    mid : C
    goes : Goes x old (whole round (x.view old)) (Ok tt) mid
    more : Rounds x.calls times mid r new

  next : (round times : ℕ) (old : C) (r : Result (Unit {0}) CarrierFault) (new : C) → x.Holds old
      → Rounds x.calls (suc times) old r new → GoesOn r → Next round times old r new
  next round times old r new holds (q, mid, first, more) goes = by q first more where
    by : (q : Result (Unit {0}) CarrierFault) → Round x.calls old q mid → Onward (Rounds x.calls times) q mid r new
        → Next round times old r new
    by (Ok done) first more = record { mid = mid; goes = are.go round old (Ok done) mid holds first tt; more = more }
    by (Err f) first more = let bad : Err f ≡ Ok tt =
        (are.go round old (Err f) mid holds first (subst GoesOn more.0 goes)).ok in absurd (cc)

  -- after a round that left everything as it was, so do all
  nothing_more : (round times : ℕ) (old : C) (r : Result (Unit {0}) CarrierFault) (new : C) → x.Holds old
      → Goes x old (whole round (x.view old)) (Ok tt) old → Rounds x.calls times old r new → GoesOn r → (r ≡ Ok tt)
      × (new ≡ old)
  nothing_more round zero old r new holds still k goes = k
  nothing_more round (suc times) old r new holds still k goes =
      by (λ more. nothing_more round times old r new holds still more goes) h.mid h.goes h.more where
        h : Next round times old r new
        h = next round times old r new holds k goes

        by : (Rounds x.calls times old r new → (r ≡ Ok tt) × (new ≡ old)) → (mid : C)
            → Goes x old (whole round (x.view old)) (Ok tt) mid → Rounds x.calls times mid r new → (r ≡ Ok tt)
            × (new ≡ old)
        by others mid g more =
            let one = replays_once _ are.settled old _ mid old
            _ _ g.run.replays still.run.replays in
            others (subst (λ (c : C). Rounds x.calls times c r new) one.carriers more)

  -- what is traced of rounds, and what all of them leave
  record Says (spot : Spot) (old new : C) (lines : List (List ℕ)) (r : Result (Unit {0}) CarrierFault)
      (other : C) : Type 0 where
    told : List Element
    tells : InTurn (TellsElement x.calls inside spot) old told new lines
    run : Run x.calls old (events_of told) other
    same : other ≡ new
    ok : r ≡ Ok tt

  -- the first round is empty
  skipped : (spot : Spot) (old mid new other : C) (lines : List (List ℕ)) (r : Result (Unit {0}) CarrierFault)
      → mid ≡ old → Says spot mid new lines r other → Says spot old new lines r other
  skipped spot old mid new other lines r same h = subst (λ (c : C). Says spot c new lines r other) same h

  -- the first round is traced, and then others are
  joined : (spot : Spot) (old mid new other : C) (round : List Element) (first rest lines : List (List ℕ))
      (r : Result (Unit {0}) CarrierFault) → TellsRound x.calls inside spot old round mid first
      → Run x.calls old (events_of round) mid
      → lines ≡ first ++ rest → Says spot mid new rest r other → Says spot old new lines r other
  joined spot old mid new other round first rest lines r tells run all h = record {
    told = round ++ h.told;
    tells = subst (λ (ls : List (List ℕ)). InTurn (TellsElement x.calls inside spot) old (round ++ h.told) new ls)
        (sym all) (in_turn_then _ old mid new round h.told first rest tells h.tells);
    run = subst (λ (es : List RawEvent). Run x.calls old es other)
        (sym (map-append (λ (y : Element). y.event) round h.told))
        (run_then _ old mid other _ _ run h.run);
    same = h.same;
    ok = h.ok;
  }

  told_rounds : (spot : Spot) (round times : ℕ) (old new other : C) (lines : List (List ℕ))
      (r : Result (Unit {0}) CarrierFault) → x.Holds old → Rounds x.calls times old r other → GoesOn r
      → TellsRounds x.calls inside spot old (by_round (rounds_from whole round times (x.view old)).elements) new lines
      → Says spot old new lines r other
  told_rounds spot round zero old new other lines r holds k goes t =
      let none : (new ≡ old) × (lines ≡ []) = none_told _ inside spot old new lines t in
      record {
        told = [];
        tells = none;
        run =
            subst (λ (c : C). Run x.calls old [] c) (sym k.1) (run_none _ old);
        same = k.1 ∙ sym none.0;
        ok = k.0;
      }
  told_rounds spot round (suc times) old new other lines r holds k goes t =
      by (λ mid ls kept more tells. told_rounds spot (suc round) times mid new other ls r kept more goes tells)
      (whole round _).elements refl t
    where
      h : Next round times old r other
      h = next round times old r other holds k goes

      later : List Element
      later = (rounds_from whole (suc round) times (whole round (x.view old)).left).elements

      -- what is traced of the rounds after the first one
      onward : ((mid : C) (ls : List (List ℕ)) → x.Holds mid → Rounds x.calls times mid r other
          → TellsRounds x.calls inside spot mid
          (by_round (rounds_from whole (suc round) times (x.view mid)).elements) new ls → Says spot mid new ls r other)
          → (from : C) (ls : List (List ℕ)) → from ≡ h.mid
          → TellsRounds x.calls inside spot from (by_round later) new ls → Says spot h.mid new ls r other
      onward others from ls same more =
          others h.mid ls h.goes.holds h.more
          (subst (λ (s : S). TellsRounds x.calls inside spot h.mid
          (by_round (rounds_from whole (suc round) times s).elements) new ls) (sym h.goes.left)
          (subst (λ (c : C). TellsRounds x.calls inside spot c (by_round later) new ls) same more))

      by : ((mid : C) (ls : List (List ℕ)) → x.Holds mid → Rounds x.calls times mid r other
          → TellsRounds x.calls inside spot mid
          (by_round (rounds_from whole (suc round) times (x.view mid)).elements) new ls → Says spot mid new ls r other)
          → (es : List Element) → (whole round (x.view old)).elements ≡ es
          → TellsRounds x.calls inside spot old (by_round ((whole round (x.view old)).elements ++ later)) new lines
          → Says spot old new lines r other
      by others [] none t =
          let stays : h.mid ≡ old = (subst (λ (es : List Element). Replays x.calls old (events_of es) h.mid
          (shown_crossings h.goes.run.crossings)) none h.goes.run.replays).0 in
          skipped spot old h.mid new other lines r stays
          (onward others old lines (sym stays)
          (subst (λ (es : List Element). TellsRounds x.calls inside spot old (by_round (es ++ later)) new lines)
          none t))
      by others (y ∷ es) some t = of (opened_rounds _ inside spot old _ _ new lines apart)
        where
          all : AllIn round (y ∷ es)
          all = subst (AllIn round) some (are.numbered round (x.view old))

          apart : TellsRounds x.calls inside spot old ((y ∷ es) ∷ by_round later) new lines
          apart =
              subst (λ (rounds : List (List Element)). TellsRounds x.calls inside spot old rounds new lines)
              (ap (λ (es : List Element). by_round (es ++ later)) some
              ∙ whole_round round y es later all (later_begins whole are.numbered round _ times
              _ (omega arith))) t

          run : Run x.calls old (events_of (y ∷ es)) h.mid
          run = subst (λ (es : List Element). Run x.calls old (events_of es) h.mid) some h.goes.run

          of : Opened x.calls inside spot old (y ∷ es) (by_round later) new lines → Says spot old new lines r other
          of o = at o.after where
            replayed : (shown : List Shown) × Replays x.calls old (events_of (y ∷ es)) o.mid shown
            replayed = round_replays x.calls inside spot old o.mid (y ∷ es) _ o.told

            here : o.mid ≡ h.mid
            here = (replays_once _ are.settled old (events_of (y ∷ es)) o.mid h.mid _
                _ replayed.1 run.replays).carriers

            told : TellsRound x.calls inside spot old (y ∷ es) h.mid o.first
            told = subst (λ (c : C). TellsRound x.calls inside spot old (y ∷ es) c o.first) here o.told

            at : (IsStill x.calls inside old o.mid × (new ≡ o.mid) × (o.rest ≡ []))
                ⊎ ((IsStill x.calls inside old o.mid → ⊥)
                × TellsRounds x.calls inside spot o.mid (by_round later) new o.rest) → Says spot old new lines r other
            at (inl (still, last, none)) =
                let stays : h.mid ≡ old = are.stays round old h.mid holds h.goes
                (subst (λ (c : C). IsStill x.calls inside old c) here still) in
                let end = nothing_more round times old r other holds
                (subst (λ (c : C). Goes x old (whole round (x.view old)) (Ok tt) c) stays h.goes)
                (subst (λ (c : C). Rounds x.calls times c r other) stays h.more) goes in
                joined spot old h.mid new other (y ∷ es) _ o.rest lines r told run o.all
                (record {
                  told = [];
                  tells = (last ∙ here, none);
                  run = subst (λ (c : C). Run x.calls h.mid [] c) (stays ∙ sym end.1) (run_none _ h.mid);
                  same = end.1 ∙ sym stays ∙ sym here ∙ sym last;
                  ok = end.0;
                })
            at (inr (moved, more)) = joined spot old h.mid new other (y ∷ es) _ o.rest lines r told run o.all
                (onward others o.mid o.rest here more)

  -- an event of one call is traced whole
  one_told : (spot : Spot) (old new other : C) (e : RawEvent) (lines : List (List ℕ)) (shown : List Shown)
      → TellsRounds x.calls inside spot old ((record { round = 0; event = e } ∷ []) ∷ []) new lines
      → Happens x.calls old e other shown
      → SaysAll x.calls inside spot old new lines other shown
  one_told spot old new other e lines shown t k =
      of (opened_rounds _ inside spot old _ [] new lines t) where
        one : Element
        one = record { round = 0; event = e }

        alone : Replays x.calls old (e ∷ []) other shown
        alone = (other, shown, [], k, (refl, refl), sym (append-nil shown))

        of : Opened x.calls inside spot old (one ∷ []) [] new lines
            → SaysAll x.calls inside spot old new lines other shown
        of o = at (ends o.after) where
          ends : (IsStill x.calls inside old o.mid × (new ≡ o.mid) × (o.rest ≡ []))
              ⊎ ((IsStill x.calls inside old o.mid → ⊥) × TellsRounds x.calls inside spot o.mid [] new o.rest)
              → (new ≡ o.mid) × (o.rest ≡ [])
          ends (inl (still, last, none)) = (last, none)
          ends (inr (moved, more)) = none_told x.calls inside spot o.mid new o.rest more

          at : (new ≡ o.mid) × (o.rest ≡ []) → SaysAll x.calls inside spot old new lines other shown
          at (last, none) =
              let whole : lines ≡ o.first = o.all ∙ ap (λ ls. o.first ++ ls) none ∙ append-nil o.first in
              let (own, replayed) = round_replays _ inside spot old o.mid (one ∷ []) _ o.told in
              let same = replays_once _ are.settled old (e ∷ []) other o.mid shown own alone replayed in
              record {
                told = one ∷ [];
                tells =
                    subst (λ (c : C). InTurn (TellsElement x.calls inside spot) old (one ∷ []) c lines) (sym last)
                    (subst (λ (ls : List (List ℕ)). InTurn (TellsElement x.calls inside spot) old (one ∷ []) o.mid ls)
                    (sym whole) o.told);
                replays = alone;
                left = sym (same.carriers ∙ sym last);
              }

  -- and so is a calm, though it is not traced to its end
  calm_told : (spot : Spot) (old new other : C) (rounds : ℕ) (lines : List (List ℕ)) (shown : List Shown) → x.Holds old
      → TellsRounds x.calls inside spot old (by_round (inside.calm old rounds)) new lines
      → Happens x.calls old (event.Calm rounds) other shown
      → SaysAll x.calls inside spot old new lines other shown
  calm_told spot old new other rounds lines shown holds t k =
      let says : Says spot old new lines k.outcome other =
      told_rounds spot 1 rounds old new other lines _ holds k.gives k.goes_on
      (subst (λ (es : List Element). TellsRounds x.calls inside spot old (by_round es) new lines)
      (are.calm old rounds) t) in
      let crossings : says.run.crossings ≡ k.crossings =
      crossings_are _ _ _
      _ says.run.grown k.grown in
      let prints : shown_crossings says.run.crossings ≡ shown =
      ap shown_crossings crossings ∙ sym (append-nil (shown_crossings k.crossings))
      ∙ ap (λ r. shown_crossings k.crossings ++ shown_refusal r) (sym says.ok) ∙ sym k.lines in
      record {
        told = says.told;
        tells = says.tells;
        replays = subst (λ (s : List Shown). Replays x.calls old (events_of says.told) other s) prints says.run.replays;
        left = sym says.same;
      }

  pub says_all : (spot : Spot) (old new other : C) (e : RawEvent) (lines : List (List ℕ)) (shown : List Shown)
      → x.Holds old → TellsEvent x.calls inside old (spot, e) new lines → Happens x.calls old e other shown
      → SaysAll x.calls inside spot old new lines other shown
  says_all spot old new other (event.Calm rounds) lines shown holds t k =
      calm_told spot old new other rounds lines shown holds t k
  says_all spot old new other (event.Out m) lines shown holds t k =
      one_told spot old new other _ lines shown t k
  says_all spot old new other (event.Take h) lines shown holds t k =
      one_told spot old new other _ lines shown t k
  says_all spot old new other (event.Net e) lines shown holds t k =
      one_told spot old new other _ lines shown t k
