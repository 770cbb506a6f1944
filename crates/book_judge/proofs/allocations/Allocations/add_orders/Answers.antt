use Rattle.book_judge.proofs.Common.{◌<◌, ap, length, orders_of}
use Rattle.std.proofs.Common.{rules}
use Rattle.book_judge.specs.Inside.Allocations.{grants_in}
use Rattle.book_judge.proofs.Crossed.Supplies.{none_added, none_left, owed_next, owed_none, owed_text}
use Rattle.book_judge.proofs.allocations.Allocations.add_orders.Goals as goal

pub returns-in_default : goal.returns-in_default
returns-in_default c =
    none_added c.args.place c.args.host c.args.peer (orders_of c.args.text.now) c.args.self.now (ap grants_in c.in_default.ensures)

pub orders-init : goal.orders-init
orders-init c = λ granted h.
    owed_text c.args.place c.args.host c.args.peer c.in-Some.octets.now (orders_of c.args.text.now) granted c.args.self.now c.in-Some.ensures h

pub add_any-requires : goal.add_any-requires
add_any-requires c = (let o = c.orders.invariant c.requires.0 c.requires.1 in (o.left.granted, o.left.held))

pub orders-preserved : goal.orders-preserved
orders-preserved c = λ granted h.
    (let some : 0 < length c.orders.rest.now = search rules in
    owed_next c.args.place c.args.host c.args.peer c.orders.rest.now c.split_at.result.1.now _ c.orders.self c.add_any.new.self
    c.first_grant-grant.result.0 c.first_grant-grant.result.1 (c.orders.invariant granted h) some c.first_grant-grant.ensures.some
    c.first_grant-grant.ensures.there c.split_at.ensures.back c.first_grant-grant.ensures.first c.in_ok-add_any.ensures)

pub returns : goal.returns
returns c = λ granted h.
    owed_none c.args.place c.args.host c.args.peer c.orders.rest.now _ c.orders.self (none_left c.orders.rest.now c.orders-test.ensures)
    (c.orders.invariant granted h)
