-- A session is of an input.
use Rattle.std.proofs.Common.{◌≡◌, ◌≤◌, ◌+◌, ◌∙◌, ℕ, List, true, [], ◌++◌, Option, None, Some, Result, Ok, Err, IfErr, IfSome, ap, arith, codes, drop, false, inl, inr, length, refl, subst, sym, take}
use Rattle.std.proofs.KnownBytes.{Appends-trans, Consumes-trans, Consumes-whole, Keeps-trans}
use Rattle.std.proofs.lemmas.Grind.{flat_map-append}
use Rattle.std.proofs.lemmas.List.{append-nil, length-append, take-append-drop}
use Rattle.std.specs.Io.KnownBytes.{Appends, Consumes, Keeps, prepend_known}
use Rattle.replay.specs.declared.print.Detail.TheVariants.{Texts}
use Rattle.script.proofs.lemmas.{parted_once}
use Rattle.script.specs.Input.{IsParted}
use Rattle.script.specs.Script.{lines_of}
use Rattle.topology.specs.Topology.{TopologyFields}
use Rattle.topology.specs.declared.network.CarrierKind.{CarrierKind}
use Rattle.topology.specs.declared.network.CarrierKind.TheVariants as kind
use Rattle.command_line.specs.Described.{Describes}
use Rattle.command_line.specs.Events.{Asked, AsksFor, are_some}
use Rattle.command_line.specs.Input.{IsInput, IsScriptFault}
use Rattle.command_line.specs.Replayed.{ReplaysOver}
use Rattle.command_line.specs.declared.fault.ScriptFault.{ScriptFault}
use Rattle.command_line.specs.declared.fault.ScriptFault.TheVariants as fault
use Rattle.session.specs.Hearing.{Hearing, Hears, hearing}
use Rattle.session.specs.Head.{IsHead}
use Rattle.session.specs.Session.{EndsEarly, IsSession, PrintsOn, Serving, after_head, on}
use Rattle.session.proofs.Turns.{cause_as}
use Rattle.session.specs.Turns.{Breaks, Ends, Reading, Serves, Turn, answers_of, script_of, session_of}

-- the first lines are no longer than all
shorter : (turns : List Turn) (n : ℕ) → length (script_of (take n turns)) ≤ length (script_of turns)
shorter turns n =
    let parts : script_of turns ≡ script_of (take n turns) ++ script_of (drop n turns) =
    ap script_of (sym (take-append-drop n turns)) ∙ flat_map-append (λ (t : Turn). t.line) (take n turns) (drop n turns) in
    let long : length (script_of turns) ≡ length (script_of (take n turns)) + length (script_of (drop n turns)) =
    ap length parts ∙ length-append (script_of (take n turns)) (script_of (drop n turns)) in
    omega (arith, long)

-- ---- what is said of scripts, read otherwise: of those that are short enough after `n` octets

pub record Translates (n : ℕ) (r q : Reading) : Type 0 where
  pub prints : (script said : List ℕ) → n + length script ≤ 268435456 → r.Prints script said → q.Prints script said
  pub refuses : (script : List ℕ) (number : ℕ) → n + length script ≤ 268435456 → r.Refuses script number → q.Refuses script number

module _ {r q : Reading} (old : Hearing) (t : Translates old.heard r q) where
  serves_as : {new : Hearing} {before after : Option (List ℕ)} → Serves r.Prints old new before after → Serves q.Prints old new before after
  serves_as {new} h = record {
    turns = h.turns;
    heard = h.heard;
    answers = record {
      lines = h.answers.lines;
      in_turn = λ n. t.prints (script_of (take n h.turns)) (answers_of (take n h.turns))
          (let counted : new.heard ≡ old.heard + length (script_of h.turns) = h.heard.counted in
          let short : new.heard ≤ 268435456 = h.short in
          let less : length (script_of (take n h.turns)) ≤ length (script_of h.turns) = shorter h.turns n in
          omega (arith, counted, short, less)) (h.answers.in_turn n);
    };
    short = h.short;
    written = h.written;
  }

  breaks_as : {f : ScriptFault} {before after : Option (List ℕ)} → Breaks r old f before after → Breaks q old f before after
  unfolding serves_as
  breaks_as {f} {before} {after} h = record {
    last = h.last;
    said = h.said;
    serves = serves_as h.serves;
    cause = cause_as f h.said after (λ number (line, next, hears, short, bad). (
      line,
      next,
      hears,
      short,
      t.refuses (script_of h.serves.turns ++ line) number
          (let both : length (script_of h.serves.turns ++ line) ≡ length (script_of h.serves.turns) + length line = length-append (script_of h.serves.turns) line in
          let first : h.last.heard ≡ old.heard + length (script_of h.serves.turns) = h.serves.heard.counted in
          let second : next.heard ≡ h.last.heard + length line = hears.counted in
          omega (arith, both, first, second, short)) bad,
    )) (λ long. long) h.cause;
  }

  pub ends_as : (before after : Option (List ℕ)) (result : Result (Unit {0}) ScriptFault) → Ends r old before after result → Ends q old before after result
  ends_as before after (Ok done) (last, serves, end) = (last, serves_as serves, end)
  ends_as before after (Err f) (inl h) = inl (breaks_as h)
  ends_as before after (Err f) (inr none) = inr none

-- ---- after a head

prints_on : (k : CarrierKind) (t : TopologyFields) (script said : List ℕ) → PrintsOn k t script said
    → (events : Asked) × AsksFor t.raw (are_some t.strangers) events (lines_of script) × ReplaysOver k t false Texts events (Some []) (Some (said ++ codes "end\n"))
prints_on kind.Plain t script said h = h
prints_on kind.Subnet t script said h = h

module _ (head document : List ℕ) (opens : IsHead head document) where
  -- the head has one topology
  one_document : (other script : List ℕ) → IsParted head other script → other ≡ document
  one_document other script parted =
      (parted_once head other script document [] parted (subst (λ xs. IsParted xs document []) (append-nil head) (opens []))).topologies

  short_after : (script : List ℕ) → length head + length script ≤ 268435456 → length (head ++ script) ≤ 268435456
  short_after script short = (let both : length (head ++ script) ≡ length head + length script = length-append head script in omega (arith, both, short))

  pub reads : (t : TopologyFields) (events : Asked) → IsInput head t events → Translates (length head) (on t) (after_head head)
  reads t events input =
      let described : Describes document t =
      subst (λ (text : List ℕ). Describes text t) (one_document input.document input.script input.parted) input.described in
      record {
        prints = λ script said short h. (let (asked, is, replayed) = prints_on t.carrier t script said h in record {
          network = t;
          events = asked;
          input = record { short = short_after script short; document = document; script = script; parted = opens script; described = described; asked = is };
          replayed = replayed;
        });
        refuses = λ script number short bad. record {
          short = short_after script short;
          document = document;
          script = script;
          network = t;
          parted = opens script;
          described = described;
          bad = bad;
        };
      }

-- what is said of a served script is said of a head with it
pub served : (head : List ℕ) (old : Hearing) (before after : Option (List ℕ)) (result : Result (Unit {0}) ScriptFault)
    → Ends (after_head head) old before after result → Serving head old before after result
served head old before after (Ok done) h = h
served head old before after (Err f) (inl breaks) = inr breaks
served head old before after (Err f) (inr (is, kept)) = inl (subst (λ g. IsScriptFault head g) (sym is) tt, kept)

-- ---- the whole session

-- nothing was written before
kept_first : (a b c : Option (List ℕ)) (bs : List ℕ) → Keeps a b → Appends b c bs → Appends a c bs
kept_first None b c bs h k = tt
kept_first (Some xs) None c bs h k = absurd h
kept_first (Some xs) (Some ys) c bs h k = subst (λ zs. Appends (Some zs) c bs) h k

serves_first : {P : List ℕ → List ℕ → Type 0} {old new : Hearing} (opening before said : Option (List ℕ)) → Keeps opening before
    → Serves P old new before said → Serves P old new opening said
serves_first opening before said kept h = record {
  turns = h.turns;
  heard = h.heard;
  answers = h.answers;
  short = h.short;
  written = kept_first opening before said (session_of h.turns) kept h.written;
}

pub serving_first : (head : List ℕ) (old : Hearing) (opening before after : Option (List ℕ)) (result : Result (Unit {0}) ScriptFault) → Keeps opening before
    → Serving head old before after result → Serving head old opening after result
unfolding serves_first
serving_first head old opening before after (Ok done) kept (last, h, end) = (last, serves_first opening before after kept h, end)
serving_first head old opening before after (Err f) kept (inl (bad, more)) = inl (bad, Keeps-trans opening before after kept more)
serving_first head old opening before after (Err f) kept (inr h) =
    inr (record { last = h.last; said = h.said; serves = serves_first opening before h.said kept h.serves; cause = h.cause })

-- all lines of the script that follows a head are answered
pub whole_session : (known : Option (List ℕ)) (head document : List ℕ) (mid : Hearing) (before said after : Option (List ℕ)) → IsHead head document
    → Hears (record { heard = 0; left = known }) mid head → Serving head mid before said (Ok tt)
    → Appends said after (codes "end\n") → IfSome known (λ octets. IsSession octets before after)
whole_session known head document mid before said after opens k (last, h, over) end =
    Consumes-whole known last.left (head ++ script_of h.turns) (λ octets. IsSession octets before after)
    (Consumes-trans known mid.left last.left head (script_of h.turns) k.consumed h.heard.consumed) over
    (record {
      head = head;
      document = document;
      opens = opens;
      turns = h.turns;
      whole = refl;
      answers = h.answers;
      written = Appends-trans before said after (session_of h.turns) (codes "end\n") h.written end;
    })

module _ (known rest : Option (List ℕ)) (head document ahead : List ℕ) (opens : IsHead head document)
    (k : Hears (record { heard = 0; left = known }) (hearing (length head) ahead rest) head) where
  -- a head was heard
  pub early_session : (f : ScriptFault) (before after : Option (List ℕ)) → Serving head (hearing (length head) ahead rest) before after (Err f)
      → IfSome known (λ octets. EndsEarly octets f before after)
  early_session f before after h = by known rest k.consumed h
    where
      by : (known rest : Option (List ℕ)) → Consumes known (prepend_known ahead rest) head
          → Serving head (hearing (length head) ahead rest) before after (Err f) → IfSome known (λ octets. EndsEarly octets f before after)
      by None rest consumed h = tt
      by (Some xs) None consumed h = absurd consumed
      by (Some xs) (Some zs) consumed h = inr (head, ahead ++ zs, record { document = document; opens = opens; whole = consumed }, h)

  -- the last line couldn't be written
  pub no_end : (before said after : Option (List ℕ)) (result : Result (Unit {0}) ScriptFault) → Serving head (hearing (length head) ahead rest) before said (Ok tt)
      → IfErr result (λ f. f ≡ fault.CannotWrite) → IfErr result (λ f. IfSome known (λ octets. EndsEarly octets f before after))
  no_end before said after (Ok done) h is = tt
  no_end before said after (Err f) (last, h, over) is = subst (λ g. IfSome known (λ octets. EndsEarly octets g before after)) (sym is)
      (early_session fault.CannotWrite before after (inr (record { last = last; said = said; serves = h; cause = tt })))
