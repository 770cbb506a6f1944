use Rattle.trace.proofs.Rounds.Plain.{told}
use Rattle.trace.proofs.law.says_all.Goals as goal

pub returns : goal.returns
returns c = record { events = told }
