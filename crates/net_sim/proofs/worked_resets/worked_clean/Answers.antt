use Rattle.net_sim.proofs.Common.{◌≡◌, ℕ, ◌<◌, [], ◌∷◌, Option, Some, None, refl, ap, arith, first, second, IsFresh}
use Rattle.bit_messages.specs.Octets.{octets_of}
use Rattle.interface.specs.declared.crossing.Crossing.TheVariants as crossing
use Rattle.ncp_control.specs.Reading.{command_of, read_of}
use Rattle.host_pairs.specs.Control.{orders_of}
use Rattle.net_sim.specs.WorkedResets.{call, reset_on, text}
use Rattle.net_sim.proofs.worked_resets.worked_clean.Goals as goal

pub returns-clause-through : goal.returns-clause-through
unfolding orders_of octets_of read_of command_of
returns-clause-through c = (refl, refl)

pub returns-clause-points : goal.returns-clause-points
unfolding orders_of octets_of read_of command_of
returns-clause-points c = (refl, refl)

pub returns-clause-uncalled : goal.returns-clause-uncalled
unfolding orders_of octets_of read_of command_of
returns-clause-uncalled c = refl

pub returns-clause-fresh : goal.returns-clause-fresh
unfolding orders_of octets_of read_of command_of
returns-clause-fresh c = record { place = 5; out = refl; after = omega arith }

abbrev number_or : ℕ → Option ℕ → ℕ
number_or d None = d
number_or d (Some n) = n

older : (f : IsFresh text (call first 1 second ∷ []) (reset_on (crossing.Out text ∷ []))) → 5 < f.place
unfolding orders_of octets_of read_of command_of
older f = f.after

pub returns-clause-stale : goal.returns-clause-stale
unfolding orders_of octets_of read_of command_of
returns-clause-stale c f = let at : 0 ≡ f.place = ap (number_or 0) f.out in let after : 5 < f.place = older f in absurd (omega (arith, at, after))

pub returns-clause-signal : goal.returns-clause-signal
unfolding orders_of octets_of read_of command_of
returns-clause-signal c is = absurd (cc)

pub returns-clause-control : goal.returns-clause-control
unfolding orders_of octets_of read_of command_of
returns-clause-control c = refl
