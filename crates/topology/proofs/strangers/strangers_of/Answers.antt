use Rattle.topology.proofs.Common.{items_view, most_imps}
use Rattle.std.proofs.Common.{◌<◌, add-one, ap, filter, sym, ◌∙◌, ◌++◌, ◌*◌}
use Rattle.topology.specs.Topology.{hosts_below, is_foreign, most_hosts, named_at}
use Rattle.topology.proofs.Order.{hosts_none}
use Rattle.topology.proofs.Hosts.{if_err, picked_next, some_picked}
use Rattle.topology.proofs.strangers.strangers_of.Goals as goal

pub loop-place-init : goal.loop-place-init
loop-place-init c =
    c.new-strangers.ensures.items
    ∙ sym (ap (filter (is_foreign (items_view c.args.imps.now))) (hosts_none c.args.network.now))

pub loop-place-preserved : goal.loop-place-preserved
loop-place-preserved c =
    let place = c.loop-place.place in
    let network = c.args.network.now in
    let names = is_foreign (items_view c.args.imps.now) in
    c.in_ok-push_stranger.ensures.pushed
    ∙ ap (λ xs. xs ++ named_at (items_view c.args.imps.now) network place) c.loop-place.invariant
    ∙ sym (ap (λ n. filter names (hosts_below network n)) (add-one place) ∙ picked_next names network place)

pub returns-in_err-push_stranger-clause-memory : goal.returns-in_err-push_stranger-clause-memory
returns-in_err-push_stranger-clause-memory c =
    let low : c.loop-place.place < most_imps * most_hosts = c.loop-place-test.true in
    let pushed = c.in_err-push_stranger.ensures in
    if_err c.from_residual.result
    (some_picked (is_foreign (items_view c.args.imps.now)) c.args.network.now c.loop-place.place low pushed.there
    pushed.named)
