use Rattle.book_judge.proofs.Common.{orders_of, deeds_by}
use Rattle.std.proofs.Common.{◌++◌, ◌<◌, length, rules}
use Rattle.book_judge.proofs.Ends.Suited.{added_next}
use Rattle.book_judge.proofs.fates.deeds.add_orders.Goals as goal

pub orders-preserved : goal.orders-preserved
orders-preserved c =
    let some : 0 < length c.orders.rest.now = search rules in
    added_next c.args.comes c.args.place c.args.host c.args.peer c.orders.rest.now c.split_at.result.1.now
    c.orders.deeds.items c.add_first.new.deeds.items
    (c.args.deeds.now.items ++ deeds_by c.args.comes c.args.place c.args.host c.args.peer (orders_of c.args.text.now))
    c.in_ok-read.read c.orders.invariant some
    c.in_ok-read.ensures.some c.in_ok-read.ensures.there c.split_at.ensures.back c.in_ok-read.ensures.first
