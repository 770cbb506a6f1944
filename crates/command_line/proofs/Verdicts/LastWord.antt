-- The word at the end of an audit says which parts hold.
use Rattle.command_line.proofs.Common.{false≢true, Verdict, Host, is_host}
use Rattle.std.proofs.Common.{◌≡◌, ℕ, Bool, true, false, List, [], ◌∷◌, ◌==◌, Option, Some, None, codes, if◌then◌else◌, refl, ap, sym}
use Rattle.book_log.specs.Log.{fates_of, lives_of, Book}
use Rattle.command_line.specs.Audits.{SaysOf, word_text, IsSafeLog, KeepsEnds, is_safe, keeps_ends}
use Rattle.interface.proofs.lemmas.{and_true}
use Rattle.std.specs.Prelude.{◌&&◌, ◌↔◌, is_none}
use Rattle.command_line.proofs.Verdicts.Named.{closes_named, fates_named, formed_named, grants_named, lives_named}
use Rattle.command_line.proofs.Verdicts.Named.{messages_named, partners_named, run_named, sent_named, streams_named}
use Rattle.command_line.proofs.Verdicts.Named.{toward_named}

none_is : {X : Type 0} (r : Option X) → is_none r ≡ true → r ≡ None
none_is None e = refl
none_is (Some x) e = absurd (cc)

is_none_of : {X : Type 0} (r : Option X) → r ≡ None → is_none r ≡ true
is_none_of None e = refl
is_none_of (Some x) e = absurd (cc)

-- ---- what may be asked of any program, and the rest

-- none of these is named
record NoneNamed (v : Verdict) : Type 0 where
  stray : v.stray ≡ None
  unmade : v.unmade ≡ None
  malformed : v.malformed ≡ None
  messages : v.messages ≡ None
  partners : v.partners ≡ None
  streams : v.streams ≡ None
  grants : v.grants ≡ None
  sent : v.sent ≡ None
  toward : v.toward ≡ None

none_named : (v : Verdict) → is_safe v ≡ true → NoneNamed v
none_named v e =
    let whole = and_true _ (is_none v.toward) e in
    let eighth = and_true _ (is_none v.sent) whole.0 in
    let last = and_true _ (is_none v.grants) eighth.0 in
    let sixth = and_true _ (is_none v.streams) last.0 in
    let fifth = and_true _ (is_none v.partners) sixth.0 in
    let fourth = and_true _ (is_none v.messages) fifth.0 in
    let third = and_true _ (is_none v.malformed) fourth.0 in
    let both = and_true (is_none v.stray) (is_none v.unmade) third.0 in
    record {
      stray = none_is v.stray both.0;
      unmade = none_is v.unmade both.1;
      malformed = none_is v.malformed third.1;
      messages = none_is v.messages fourth.1;
      partners = none_is v.partners fifth.1;
      streams = none_is v.streams sixth.1;
      grants = none_is v.grants last.1;
      sent = none_is v.sent eighth.1;
      toward = none_is v.toward whole.1;
    }

safe_unnamed : (v : Verdict) → NoneNamed v → is_safe v ≡ true
safe_unnamed v n =
    rw (is_none_of v.stray n.stray, is_none_of v.unmade n.unmade, is_none_of v.malformed n.malformed)
    (rw (is_none_of v.messages n.messages, is_none_of v.partners n.partners, is_none_of v.streams n.streams)
    (rw (is_none_of v.grants n.grants, is_none_of v.sent n.sent, is_none_of v.toward n.toward) refl))

pub safe_said : (hosts : List Host) (b : Book) (v : Verdict) → SaysOf v hosts b → (is_safe v ≡ true) ↔ IsSafeLog hosts b
safe_said hosts b v j =
    let strange : Host → Bool = λ h. is_host hosts h in
    let log = b.crossings in
    let lives = lives_of b in
    let fates = fates_of b in (
      λ e. (
          let n : NoneNamed v = none_named v e in
          record {
            run = (run_named v strange log lives b.handed fates j).0 n.stray;
            made = (lives_named v strange log lives b.handed fates j).0 n.unmade;
            formed = (formed_named v strange log lives b.handed fates j).0 n.malformed;
            messages = (messages_named v strange log lives b.handed fates j).0 n.messages;
            partners = (partners_named v strange log lives b.handed fates j n.malformed).0 n.partners;
            streams = (streams_named v strange log lives b.handed fates j n.malformed).0 n.streams;
            grants = (grants_named v strange log lives b.handed fates j n.malformed).0 n.grants;
            sent = (sent_named v strange log lives b.handed fates j n.malformed).0 n.sent;
            toward = (toward_named v strange log lives b.handed fates j n.malformed).0 n.toward;
          }),
      λ s. (
          let none : v.malformed ≡ None = (formed_named v strange log lives b.handed fates j).1 s.formed in
          safe_unnamed v (record {
            stray = (run_named v strange log lives b.handed fates j).1 s.run;
            unmade = (lives_named v strange log lives b.handed fates j).1 s.made;
            malformed = none;
            messages = (messages_named v strange log lives b.handed fates j).1 s.messages;
            partners = (partners_named v strange log lives b.handed fates j none).1 s.partners;
            streams = (streams_named v strange log lives b.handed fates j none).1 s.streams;
            grants = (grants_named v strange log lives b.handed fates j none).1 s.grants;
            sent = (sent_named v strange log lives b.handed fates j none).1 s.sent;
            toward = (toward_named v strange log lives b.handed fates j none).1 s.toward;
          })),
    )

both_unnamed : (v : Verdict) → keeps_ends v ≡ true → (v.closes ≡ None) × (v.unsuited ≡ None)
both_unnamed v e =
    let both = and_true (is_none v.closes) (is_none v.unsuited) e in
    (none_is v.closes both.0, none_is v.unsuited both.1)

-- of a log that is well-formed
pub ends_said : (hosts : List Host) (b : Book) (v : Verdict) → SaysOf v hosts b → IsSafeLog hosts b
    → (keeps_ends v ≡ true) ↔ KeepsEnds hosts b
ends_said hosts b v j s =
    let strange : Host → Bool = λ h. is_host hosts h in
    let log = b.crossings in
    let lives = lives_of b in
    let fates = fates_of b in
    let none : v.malformed ≡ None = (formed_named v strange log lives b.handed fates j).1 s.formed in (
      λ e. (
          let n = both_unnamed v e in
          record {
            closes = (closes_named v strange log lives b.handed fates j none).0 n.0;
            fates = (fates_named v strange log lives b.handed fates j).0 n.1;
          }),
      λ k. rw (is_none_of v.closes ((closes_named v strange log lives b.handed fates j none).1 k.closes))
          (rw (is_none_of v.unsuited ((fates_named v strange log lives b.handed fates j).1 k.fates)) refl),
    )

-- ---- the word

-- it follows from two bits: whether the log is safe, and whether its ends are kept
abbrev word_of : Bool → Bool → List ℕ
word_of safe ends = if safe && ends then codes "kept\n" else (if safe then codes "safe\n" else [])

-- by its first letter
abbrev first_is : ℕ → List ℕ → Bool
first_is n [] = false
first_is n (x ∷ xs) = x == n

not_safe : codes "kept\n" ≡ codes "safe\n" → ⊥
not_safe e = false≢true (sym (ap (first_is 107) e))

word_kept : (safe ends : Bool) → (word_of safe ends ≡ codes "kept\n") ↔ ((safe ≡ true) × (ends ≡ true))
word_kept true true = (λ e. (refl, refl), λ h. refl)
word_kept true false = (λ e. absurd (not_safe (sym e)), λ h. absurd (false≢true h.1))
word_kept false ends = (λ e. absurd (cc), λ h. absurd (false≢true h.0))

word_safe : (safe ends : Bool) → (word_of safe ends ≡ codes "safe\n") ↔ ((safe ≡ true) × (ends ≡ true → ⊥))
word_safe true true = (λ e. absurd (not_safe e), λ h. absurd (h.1 refl))
word_safe true false = (λ e. (refl, λ f. false≢true f), λ h. refl)
word_safe false ends = (λ e. absurd (cc), λ h. absurd (false≢true h.0))

word_none : (safe ends : Bool) → (word_of safe ends ≡ []) ↔ (safe ≡ true → ⊥)
word_none true true = (λ e. absurd (cc), λ h. absurd (h refl))
word_none true false = (λ e. absurd (cc), λ h. absurd (h refl))
word_none false ends = (λ e f. false≢true f, λ h. refl)

pub said_kept : (hosts : List Host) (b : Book) (v : Verdict) → SaysOf v hosts b
    → (word_text v ≡ codes "kept\n") ↔ (IsSafeLog hosts b × KeepsEnds hosts b)
said_kept hosts b v j =
    let safe = safe_said hosts b v j in
    let word = word_kept (is_safe v) (keeps_ends v) in (
      λ e. (let s : IsSafeLog hosts b = safe.0 (word.0 e).0 in (s, (ends_said hosts b v j s).0 (word.0 e).1)),
      λ h. word.1 (safe.1 h.0, (ends_said hosts b v j h.0).1 h.1),
    )

pub said_safe : (hosts : List Host) (b : Book) (v : Verdict) → SaysOf v hosts b
    → (word_text v ≡ codes "safe\n") ↔ (IsSafeLog hosts b × (KeepsEnds hosts b → ⊥))
said_safe hosts b v j =
    let safe = safe_said hosts b v j in
    let word = word_safe (is_safe v) (keeps_ends v) in (
      λ e. (let s : IsSafeLog hosts b = safe.0 (word.0 e).0 in (s, λ k. (word.0 e).1 ((ends_said hosts b v j s).1 k))),
      λ h. word.1 (safe.1 h.0, λ ends. h.1 ((ends_said hosts b v j h.0).0 ends)),
    )

pub said_none : (hosts : List Host) (b : Book) (v : Verdict) → SaysOf v hosts b
    → (word_text v ≡ []) ↔ (IsSafeLog hosts b → ⊥)
said_none hosts b v j =
    let safe = safe_said hosts b v j in
    let word = word_none (is_safe v) (keeps_ends v) in
    (λ e s. word.0 e (safe.1 s), λ h. word.1 (λ is. h (safe.0 is)))
