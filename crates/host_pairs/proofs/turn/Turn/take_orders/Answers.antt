use Rattle.std.proofs.Common.{◌<◌, length, rules}
use Rattle.host_pairs.proofs.ControlLemmas.{left_more, left_wanted}
use Rattle.host_pairs.proofs.turn.Turn.take_orders.Goals as goal

pub orders-preserved : goal.orders-preserved
orders-preserved c =
    left_more c.args.peer c.args.stamp c.in_ok-read.read c.orders.rest.now c.split_at.result.1.now c.orders.self c.take_first.new.self _ _ c.orders.invariant
    c.in_ok-read.ensures.some c.in_ok-read.ensures.there c.split_at.ensures.back c.in_ok-read.ensures.first c.in_ok-read.ensures.said

pub returns-in_err-read-clause-memory : goal.returns-in_err-read-clause-memory
returns-in_err-read-clause-memory c =
    let some : 0 < length c.orders.rest.now = search rules in
    let wanted : 0 < _ = left_wanted c.args.peer c.args.stamp c.orders.rest.now c.orders.self _ _ c.orders.invariant some c.in_err-read.ensures.memory in
    search (rules, wanted)
