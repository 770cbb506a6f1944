-- Two ends of one connection, each of which has heard what the other said: nobody has closed them, but for a sender that drains.
use Rattle.world_keeps_streams.proofs.Common.{◌≡◌, ℕ, ◌==◌, ◌&&◌, ◌||◌, Bool, true, false, List, [], length, is_some, refl, ap, sym, ◌∙◌, Closing, Entry, has_opened}
use Rattle.host_pairs.specs.Entries.{has_cls, is_answered, is_called_off, is_due, is_open, is_receiving, was_closed, is_over}
use Rattle.host_keeps_streams.proofs.lemmas.{unlike}
use Rattle.host_pairs.specs.declared.entry.Closing.TheVariants as closing
use Rattle.world_keeps_streams.proofs.Tidy.Pairs.{IsTidy}

undue : (u v w : Bool) → v ≡ true → (u && (v || w)) ≡ false → u ≡ false
undue true true w k h = h
undue true false w k h = absurd (let no : false ≡ true = k in cc)
undue false v w k h = refl

drained : (u v w x : Bool) → w ≡ true → x ≡ true → (u && (v || w && x)) ≡ false → u ≡ false
drained true true w x j k h = h
drained true false true x j k h = sym k ∙ h
drained true false false x j k h = absurd (let no : false ≡ true = j in cc)
drained false v w x j k h = refl

-- how far an end has closed
past_due : (c : Closing) → is_called_off c ≡ true → is_due c ≡ false → has_cls c ≡ true
past_due closing.No off due = off
past_due closing.Due off due = sym due
past_due closing.Queued off due = refl
past_due closing.Sent off due = refl

uncalled : (c : Closing) → has_cls c ≡ false → is_due c ≡ false → is_called_off c ≡ false
uncalled closing.No none due = refl
uncalled closing.Due none due = due
uncalled closing.Queued none due = none
uncalled closing.Sent none due = none

both_said : (c : Closing) → has_cls c ≡ true → (c ≡ closing.Queued → ⊥) → c ≡ closing.Sent
both_said closing.No said waits = absurd (let no : false ≡ true = said in cc)
both_said closing.Due said waits = absurd (let no : false ≡ true = said in cc)
both_said closing.Queued said waits = absurd (waits refl)
both_said closing.Sent said waits = refl

open_if : (e : Entry) → has_opened e ≡ true → has_cls e.closing ≡ false → e.partner_closed ≡ false → is_open e ≡ true
open_if e opened unsaid unheard = rw (unsaid, unheard) (by (is_some e.asked) (is_some e.partner) opened) where
  by : (u v : Bool) → (u && v) ≡ true → (u && v && true) ≡ true
  by true true h = refl
  by true false h = h
  by false v h = h

-- both are tidy, and what the giver sent is answered; no CLS of the taker's waits, and it isn't over
module _ (mine theirs : List ℕ) (taker giver : Entry) (tidy : IsTidy mine taker) (other : IsTidy theirs giver) (receiving : is_receiving taker ≡ true) (answered : is_answered theirs giver.link ≡ true)
    (unqueued : taker.closing ≡ closing.Queued → ⊥) (live : is_over taker ≡ false) (taker_heard : has_cls giver.closing ≡ taker.partner_closed) (giver_heard : has_cls taker.closing ≡ giver.partner_closed) where
  taker_undue : is_due taker.closing ≡ false
  taker_undue = undue _ _ _ receiving tidy.0

  giver_undue : giver.bits ≡ [] → is_due giver.closing ≡ false
  giver_undue none = drained _ _ _ _ (ap (λ (bs : List Bool). length bs == 0) none) answered other.0

  taker_unheard : taker.partner_closed ≡ false
  taker_unheard = by taker.partner_closed refl where
    by : (b : Bool) → taker.partner_closed ≡ b → taker.partner_closed ≡ false
    by false e = e
    by true e =
        let said : has_cls taker.closing ≡ true = past_due taker.closing (tidy.1 e).0 taker_undue in
        let sent : taker.closing ≡ closing.Sent = both_said taker.closing said unqueued in
        absurd (unlike (is_over taker) (rw (sent, e) refl) live)

  unsaid : has_cls taker.closing ≡ false
  unsaid = by (has_cls taker.closing) refl where
    by : (b : Bool) → has_cls taker.closing ≡ b → has_cls taker.closing ≡ false
    by false e = e
    by true e =
        let heard : giver.partner_closed ≡ true = sym giver_heard ∙ e in
        let said : has_cls giver.closing ≡ true = past_due giver.closing (other.1 heard).0 (giver_undue (other.1 heard).1) in
        absurd (unlike taker.partner_closed (sym taker_heard ∙ said) taker_unheard)

  taker_unclosed : was_closed taker ≡ false
  taker_unclosed = let off : is_called_off taker.closing ≡ false = uncalled taker.closing unsaid taker_undue in rw (off, taker_unheard) refl

  giver_unsaid : has_cls giver.closing ≡ false
  giver_unsaid = taker_heard ∙ taker_unheard

  giver_unheard : giver.partner_closed ≡ false
  giver_unheard = sym giver_heard ∙ unsaid

  drains : was_closed giver ≡ true → giver.bits ≡ [] → ⊥
  drains closed none =
      let off : is_called_off giver.closing ≡ false = uncalled giver.closing giver_unsaid (giver_undue none) in
      unlike (was_closed giver) closed (rw (off, giver_unheard) refl)

  pub taker_open : has_opened taker ≡ true → is_open taker ≡ true
  taker_open opened = open_if taker opened unsaid taker_unheard

  pub unclosed : has_opened giver ≡ true → (was_closed taker ≡ false) × (is_open giver ≡ true) × (was_closed giver ≡ true → giver.bits ≡ [] → ⊥)
  unclosed opened = (taker_unclosed, open_if giver opened giver_unsaid giver_unheard, drains)
