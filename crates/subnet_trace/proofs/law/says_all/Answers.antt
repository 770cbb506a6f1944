use Rattle.subnet_trace.proofs.Told.{says_reached}
use Rattle.subnet_trace.proofs.law.says_all.Goals as goal

pub returns : goal.returns
returns c = record { events = says_reached }
