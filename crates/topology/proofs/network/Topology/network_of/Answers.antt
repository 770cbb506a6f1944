use Rattle.std.proofs.Common.{◌+◌, rules, subst, sym}
use Rattle.interface.specs.Host.{most_imps}
use Rattle.topology.specs.Topology.{IsRising}
use Rattle.topology.proofs.Order.{numbered_rising}
use Rattle.topology.proofs.Picked.{none_picked}
use Rattle.topology.proofs.network.Topology.network_of.Goals as goal

pub invariant_of-result : goal.invariant_of-result
invariant_of-result c = record {
  imps = search rules;
  rising = subst IsRising (sym c.in_ok-imps.ensures) (numbered_rising c.deref.result.now (most_imps + 1));
  lines = search rules;
  strangers = none_picked _ c.new.result.items c.new.ensures.items;
  programs = λ raw. c.new.ensures.items;
}
