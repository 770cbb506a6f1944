use Rattle.std.proofs.Common.{◌≡◌, ◌<◌, true, sym, ap, ◌∙◌, subst, ◌++◌, ◌+◌, ◌*◌, ◌/◌, ◌%◌}
use Rattle.interface.specs.Host.{Host, most_imps}
use Rattle.interface.specs.Calls.{InOrder}
use Rattle.topology.specs.Topology.{TopologyFields, most_hosts, hosts_below, host_if, has_host}
use Rattle.topology.proofs.Order.{hosts_ordered, hosts_next, hosts_none}
use Rattle.topology.proofs.Hosts.{if_err, some_host}
use Rattle.topology.proofs.network.Topology.hosts.Goals as goal

pub returns-clause-ordered : goal.returns-clause-ordered
returns-clause-ordered c = subst InOrder (sym c.loop-place.invariant) (hosts_ordered c.args.self.now.imps c.loop-place.place)

pub loop-place-init : goal.loop-place-init
loop-place-init c = c.new-hosts.ensures.items ∙ sym (hosts_none c.args.self.now.imps)

pub loop-place-preserved : goal.loop-place-preserved
loop-place-preserved c =
    let place = c.loop-place.place in
    let there : Host = record { imp = place / 4 + 1; host = place % 4 } in
    c.in_ok-push_host.ensures.pushed
    ∙ ap (λ xs. xs ++ host_if (has_host c.deref.result.now (place / 4 + 1) (place % 4)) there) c.loop-place.invariant
    ∙ ap (λ imps. hosts_below c.args.self.now.imps place ++ host_if (has_host imps (place / 4 + 1) (place % 4)) there) (c.deref.ensures.value ∙ ap (λ (n : TopologyFields). n.imps) c.self.view_is)
    ∙ sym (hosts_next c.args.self.now.imps c.loop-place.place)

pub returns-in_err-push_host-clause-memory : goal.returns-in_err-push_host-clause-memory
returns-in_err-push_host-clause-memory c =
    let place = c.loop-place.place in
    let low : place < most_imps * most_hosts = c.loop-place-test.true in
    let there : has_host c.args.self.now.imps (place / 4 + 1) (place % 4) ≡ true =
    subst (λ imps. has_host imps (place / 4 + 1) (place % 4) ≡ true) (c.deref.ensures.value ∙ ap (λ (n : TopologyFields). n.imps) c.self.view_is) c.in_err-push_host.ensures.memory in
    if_err c.from_residual.result (some_host c.args.self.now.imps place low there)
