use Rattle.std.proofs.Common.{◌≡◌, ap, arith, length, refl}
use Rattle.std.specs.Fmt.{digits}
use Rattle.world_trace.proofs.worked_networks.worked_unchanged.Goals as goal

pub returns-clause-kept : goal.returns-clause-kept
unfolding digits
returns-clause-kept c = record { parts = refl; programs = refl; services = refl }

pub returns-clause-parts : goal.returns-clause-parts
returns-clause-parts c = λ h. let some : 1 ≡ 0 = ap length h.parts in omega (arith, some)

pub returns-clause-programs : goal.returns-clause-programs
unfolding digits
returns-clause-programs c = λ h. let some : 1 ≡ 0 = ap length h.programs in omega (arith, some)

pub returns-clause-services : goal.returns-clause-services
unfolding digits
returns-clause-services c = λ h. let some : 1 ≡ 0 = ap length h.services in omega (arith, some)
