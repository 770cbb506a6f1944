-- A host that stays and owes an RRP has said nothing since its stay began; so a text fails only where its sender leaves.
use Rattle.world_keeps_streams.proofs.Common.{Host, same_host, Answer, failed_phase, is_ready, Phase, kind_in, keeps, AreOurs, Network}
use Rattle.std.proofs.Common.{◌≡◌, ◌⊎◌, ℕ, Bool, false, List, [], ◌∷◌, Some, refl, inl, inr, true}
use Rattle.ncp_control.specs.declared.phase.Phase.TheVariants.{Want, Gone, Heard, Ready, Closed}
use Rattle.reset_law.specs.Events.{Message, Other, Event, Contact, Out, In, Told, Down, Up, Idle, Take, Hear, when, are, place, Reset, Reply}
use Rattle.reset_law.specs.Boxes.{Put, Fetch, Clear, ClearAll, boxes}
use Rattle.reset_law.specs.Pairs.{Pair, MaySend, pair_moved, pair, Plain}
use Rattle.reset_law.specs.Stays.{ready, begins, takes_reset, stays}
use Rattle.reset_law.proofs.lemmas.{NoPlain, begin_quiet, carry, owed_begin, owed_call, owed_sent, owed_told, plain_cleared, plain_fetched, plain_if, plain_put, sends_signal}
use Rattle.interface.specs.declared.crossing.Answer.TheVariants as answer
use Rattle.reset_law.specs.Runs.{IsRun}
use Rattle.world_keeps_streams.proofs.Stays.Resets.{stays_on}
use Rattle.world_keeps_lives.proofs.lemmas.{not_both}

-- ---- but for an RST that is taken nothing makes a host owe

owed_taken : (t : Bool) (m : Message) (p : Pair) → (m ≡ Reset → t ≡ false) → (pair_moved (when t (Take m)) p).owed ≡ true → p.owed ≡ true
owed_taken true Reset p none e = let no : true ≡ false = none refl in absurd (cc)
owed_taken true Reply p none e = e
owed_taken true (Other text) p none e = e
owed_taken false m p none e = e

pub not_taken : (a b x y : Host) (l : ℕ) (m : Message) → takes_reset a b (In x y l m) ≡ false → m ≡ Reset → are a b y x ≡ false
not_taken a b x y l Reset e is = e
not_taken a b x y l Reply e is = absurd (cc)
not_taken a b x y l (Other text) e is = absurd (cc)

-- ---- one event of a stay

abbrev OwesSilent : Host → Host → List Event → Type 0
OwesSilent a b events = (pair a b events).owed ≡ true → NoPlain (boxes a b events)

owes_step : (hosts : Network) (e : Event) (events : List Event) → IsRun hosts (e ∷ events) → (a b : Host) → AreOurs hosts a b → takes_reset a b e ≡ false → OwesSilent a b events → OwesSilent a b (e ∷ events)
owes_step hosts (Contact x y) events r a b ours none h owed = h (owed_call _ _ owed)
owes_step hosts (Out x y l m) events r a b ours none h owed =
    let old : (pair a b events).owed ≡ true = (owed_sent _ l m _ owed).0 in
    plain_if (are a b x y) _ _ _
    (λ e. plain_put (boxes a b events) l (place events) m (sends_signal l m _ old (carry (λ v w. AreOurs hosts v w → MaySend (pair v w events) l m) a b x y e r.1 ours)) (h old)) (h old)
owes_step hosts (In x y l m) events r a b ours none h owed =
    let old : (pair a b events).owed ≡ true = owed_taken _ m _ (not_taken a b x y l m none) owed in
    plain_if (are a b x y) _ _ _ (λ e. plain_fetched (boxes a b events) l (h old)) (h old)
owes_step hosts (Told x y l k) events r a b ours none h owed =
    let old : (pair a b events).owed ≡ true = owed_told _ l k _ owed in
    plain_if (are a b x y) _ _ _ (λ e. plain_cleared (boxes a b events) l (h old)) (h old)
owes_step hosts (Down x) events r a b ours none h owed = h (owed_begin _ _ owed)
owes_step hosts (Up x) events r a b ours none h owed =
    plain_if (same_host a x) ClearAll _ _ (λ e k plain. absurd (cc)) (h (owed_begin _ _ owed))
owes_step hosts Idle events r a b ours none h owed = h owed

owes_silent : (hosts : Network) (events : List Event) → IsRun hosts events → (a b : Host) → AreOurs hosts a b → stays a b events ≡ true → (pair a b events).owed ≡ true → NoPlain (boxes a b events)
owes_silent hosts [] r a b ours s owed = absurd (cc)
owes_silent hosts (e ∷ events) r a b ours s owed = by (begins a b e events) refl (owes_silent hosts events r.2 a b ours) where
  by : (t : Bool) → begins a b e events ≡ t → (stays a b events ≡ true → OwesSilent a b events) → NoPlain (boxes a b (e ∷ events))
  by true begun rest = (begin_quiet hosts e events r a b ours begun).0
  by false old rest =
      let kept : (keeps a b e events ≡ true) × (stays a b events ≡ true) = stays_on a b e events s old in
      owes_step hosts e events r a b ours (not_both _ _ kept.0) (rest kept.1) owed

-- ---- answers

failed_owed : (ph : Phase) (owed : Bool) → is_ready (failed_phase ph owed) ≡ true → owed ≡ true
failed_owed ph true e = refl
failed_owed Closed false e = absurd (cc)
failed_owed Want false e = absurd (cc)
failed_owed (Gone early) false e = absurd (cc)
failed_owed Heard false e = absurd (cc)
failed_owed Ready false e = absurd (cc)

told_owed : (t : Bool) (l : ℕ) (k : Answer) (p : Pair) → t ≡ true → is_ready (pair_moved (when t (Hear l k)) p).phase ≡ true → (k ≡ answer.Rfnm) ⊎ (p.owed ≡ true)
told_owed true l answer.Rfnm p is e = inl refl
told_owed true l answer.Dead p is e = inr (failed_owed p.phase p.owed e)
told_owed true l answer.Incomplete p is e = inr (failed_owed p.phase p.owed e)
told_owed true l answer.NotTaken p is e = inr (failed_owed p.phase p.owed e)
told_owed false l k p is e = absurd (cc)

-- an answer about a text after which its sender is still ready is the RFNM
pub told_rfnm : (hosts : Network) (x y : Host) (l : ℕ) (k : Answer) (events : List Event) → IsRun hosts (Told x y l k ∷ events) → (a b : Host) → AreOurs hosts a b → are a b x y ≡ true → stays a b events ≡ true
    → ready a b (Told x y l k ∷ events) ≡ true → kind_in (boxes a b events l) ≡ Some Plain → k ≡ answer.Rfnm
told_rfnm hosts x y l k events r a b ours same s now plain = elim (told_owed _ l k _ same now) [
  | inl is ↦ is
  | inr owed ↦ absurd (owes_silent hosts events r.2 a b ours s owed l plain)
]
