use Rattle.world_replay.proofs.Common.{◌≡◌, arith, inl, inr, length, refl, ap, message, first, second}
use Rattle.interface.specs.declared.crossing.Inbound.TheVariants as inbound
use Rattle.interface.specs.declared.carrier.CarrierFault.TheVariants as fault
use Rattle.world_replay.proofs.Driving.{another, for_another, one_line, two_taken, went_out}
use Rattle.world_replay.proofs.worked_drives.worked_brings.Goals as goal

pub returns-clause-another : goal.returns-clause-another
returns-clause-another c = λ s h. let same : message first second 0 ≡ message second first 0 = cc in another same

pub returns-clause-twice : goal.returns-clause-twice
returns-clause-twice c = λ s h. let lengths : 2 ≡ 1 = ap length h in omega (arith, lengths)

pub returns-clause-take : goal.returns-clause-take
returns-clause-take c = λ s. inr (inbound.Message (message first second 0), refl, refl)

pub returns-clause-waited : goal.returns-clause-waited
returns-clause-waited c = λ s. inl refl

pub returns-clause-for_another : goal.returns-clause-for_another
returns-clause-for_another c = for_another

pub returns-clause-went_out : goal.returns-clause-went_out
returns-clause-went_out c = went_out

pub returns-clause-two : goal.returns-clause-two
returns-clause-two c = two_taken

pub returns-clause-refused : goal.returns-clause-refused
returns-clause-refused c = λ s. inr (fault.Blocked, refl)

pub returns-clause-silent : goal.returns-clause-silent
returns-clause-silent c = λ s h. let lengths : 0 ≡ 1 = one_line s _ h in omega (arith, lengths)

pub returns-clause-both : goal.returns-clause-both
returns-clause-both c = λ s h. let lengths : 2 ≡ 1 = one_line s _ h in omega (arith, lengths)
