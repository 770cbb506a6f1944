use Rattle.mixed_worlds.proofs.Common.{◌≡◌, inl, inr, true, false, List, [], ◌∷◌, refl, ap, sym, ◌∙◌, arith, Crossing, HostMessage, second, third}
use Rattle.sockets.specs.Worked.{message}
use Rattle.interface.specs.declared.crossing.Crossing.TheVariants as crossing
use Rattle.mixed_worlds.specs.Arrived.{BetweenAmong}
use Rattle.mixed_worlds.specs.Worked.{eight_bits, is_third, plain_bits}
use Rattle.world_keeps_lives.proofs.lemmas.{same_out}
use Rattle.mixed_worlds.proofs.law.worked_between.Goals as goal

-- a stranger is at one of its ends
of_stranger : (n : HostMessage) → ((m : HostMessage) → m ≡ n → is_third m.flow.source ≡ false → is_third m.flow.destination ≡ false → ⊥)
    → BetweenAmong is_third (crossing.Out n ∷ []) []
of_stranger n none place m (inl (is, at)) off source destination = absurd (none m (same_out m n is) source destination)
of_stranger n none place m (inr more) off source destination = absurd more

pub returns-clause-source : goal.returns-clause-source
returns-clause-source c = of_stranger eight_bits
    (λ m is source destination.
    let no : true ≡ false = sym (ap (λ (k : HostMessage). is_third k.flow.source) is) ∙ source in cc)

pub returns-clause-destination : goal.returns-clause-destination
returns-clause-destination c = of_stranger (message second third 2 [])
    (λ m is source destination.
    let no : true ≡ false = sym (ap (λ (k : HostMessage). is_third k.flow.destination) is) ∙ destination in cc)

pub returns-clause-unsent : goal.returns-clause-unsent
returns-clause-unsent c each =
    let there = (each 0 plain_bits (inl (refl, refl)) refl refl refl).there in
    absurd (omega (arith, there.1))
