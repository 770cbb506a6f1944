-- Rounds of a carrier that counts its calls.
use Rattle.replay.proofs.Common.{Shown, RawEvent}
use Rattle.std.proofs.Common.{◌≡◌, ℕ, ◌+◌, ◌≤◌, zero, suc, List, [], Result, Ok, Err, refl, subst, ◌∙◌, arith}
use Rattle.interface.specs.declared.CarrierFault.{CarrierFault}
use Rattle.replay.specs.Replay.{AllTake, EventGives, MayDo, Onward, Round, Rounds}
use Rattle.replay.specs.Worked.{counting}
use Rattle.script.specs.declared.event.RawEvent.TheVariants as event

one_round : (old : ℕ) → Round counting old (Ok tt) (suc old)
one_round old = (Ok tt, suc old, (Ok tt, (refl, refl), refl), (refl, refl))

-- of two rounds one may have passed
pub first_round : MayDo counting 3 (event.Calm 2) 4 []
first_round = record { processed = event.Calm 1; begins = (1, refl, omega arith); outcome = Ok tt; gives = (Ok tt, 4, one_round 3, (refl, refl)); unknown = refl }

no_takings : (first r : Result (Unit {0}) CarrierFault) (mid new : ℕ) → Onward (AllTake counting []) first mid r new → new ≡ mid
no_takings (Ok done) r mid new h = h.1
no_takings (Err f) r mid new h = h.1

round_counts : (old new : ℕ) (r : Result (Unit {0}) CarrierFault) → Round counting old r new → new ≡ suc old
round_counts old new r (first, mid, quiet, takings) = no_takings first r mid new takings ∙ quiet.1.1

later : (rounds : ℕ) (first r : Result (Unit {0}) CarrierFault) (mid new : ℕ) → ((r : Result (Unit {0}) CarrierFault) (old new : ℕ) → Rounds counting rounds old r new → new ≤ old + rounds) → Onward (Rounds counting rounds) first mid r new → new ≤ mid + rounds
later rounds (Ok done) r mid new more h = more r mid new h
later rounds (Err f) r mid new more h = let same : new ≡ mid = h.1 in omega (arith, same)

rounds_count : (rounds : ℕ) (r : Result (Unit {0}) CarrierFault) (old new : ℕ) → Rounds counting rounds old r new → new ≤ old + rounds
rounds_count zero r old new h = let same : new ≡ old = h.1 in omega (arith, same)
rounds_count (suc rounds) r old new (first, mid, round, rest) =
    let counted : mid ≡ suc old = round_counts old mid first round in
    let few : new ≤ mid + rounds = later rounds first r mid new (rounds_count rounds) rest in
    omega (arith, counted, few)

-- three rounds are more than two
pub no_third_round : (shown : List Shown) → ¬ (MayDo counting 3 (event.Calm 2) 6 shown)
no_third_round shown h =
    let gives : Rounds counting h.begins.0 3 h.outcome 6 = subst (λ (e : RawEvent). EventGives counting 3 e h.outcome 6) h.begins.1 h.gives in
    let counted : 6 ≤ 3 + h.begins.0 = rounds_count h.begins.0 h.outcome 3 6 gives in
    let few : h.begins.0 ≤ 2 = h.begins.2 in
    omega (arith, counted, few)
