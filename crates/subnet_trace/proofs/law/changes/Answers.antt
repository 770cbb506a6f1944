use Rattle.subnet_trace.proofs.Reached.{network, one_opening, reached}
use Rattle.subnet_trace.proofs.Rising.{rises}
use Rattle.subnet.specs.Opening.{hosts_from, opening_subnet}
use Rattle.subnet_trace.proofs.law.changes.Goals as goal

pub returns : goal.returns
returns c = record {
  rises =
      λ sites ends one other p q. rises one.net other.net (reached sites ends one p) (reached sites ends other q)
      (one_opening (opening_subnet (hosts_from 0 sites) sites ends) one.net other.net (network sites ends one p)
      (network sites ends other q));
}
