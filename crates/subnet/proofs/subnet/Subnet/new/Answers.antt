use Rattle.subnet.proofs.Calls.Highest.{opened_bound}
use Rattle.subnet.proofs.Calls.Working.{opened_working}
use Rattle.subnet.proofs.subnet.Subnet.new.Goals as goal

pub invariant_of-result : goal.invariant_of-result
invariant_of-result c = record {
  working = opened_working c.args.hosts.items c.args.sites.items c.args.ends.now c.in_ok-open.field-0 c.in_ok-open.ensures.opened c.requires.listed c.requires.numbers;
  resting = λ no. absurd (cc);
  numbers = λ goes. opened_bound c.args.hosts.items c.args.sites.items c.args.ends.now c.in_ok-open.field-0 c.in_ok-open.ensures.opened;
}
