use Rattle.std.proofs.Common.{◌≡◌, Some, None, refl, arith}
use Rattle.sockets.specs.Requests.{refusal, served}
use Rattle.host_services.proofs.worked.worked_requests.Goals as goal

pub returns-clause-grant : goal.returns-clause-grant
returns-clause-grant c = record { addressed = tt; ranged = (omega arith, omega arith); silent = tt }

pub returns-clause-past : goal.returns-clause-past
returns-clause-past c may = absurd (omega (arith, may.ranged.1))

pub returns-clause-contact : goal.returns-clause-contact
returns-clause-contact c may = may.silent

pub returns-clause-listens : goal.returns-clause-listens
unfolding refusal served
returns-clause-listens c = (refl, (refl, tt))

pub returns-clause-twice : goal.returns-clause-twice
unfolding refusal served
returns-clause-twice c none = absurd (let no : Some _ ≡ None = none.1.0 in cc)
