use Rattle.interface.proofs.Order.{each_once}
use Rattle.interface.proofs.law.hosts.Goals as goal

pub returns : goal.returns
returns c = record { once = each_once }
