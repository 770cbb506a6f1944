use Rattle.std.proofs.Common.{◌<◌, length, sym, rules}
use Rattle.book_judge.proofs.Identities.Named.{named_here, named_next, none_named}
use Rattle.book_judge.proofs.requests.named_in.Goals as goal

pub orders-preserved : goal.orders-preserved
orders-preserved c =
    let some : 0 < length c.orders.rest.now = search rules in
    named_next c.args.own c.args.foreign c.orders.rest.now c.split_at.result.1.now _ c.first_named-named.result.0 c.first_named-named.result.1 c.orders.invariant some
    c.first_named-named.ensures.some c.first_named-named.ensures.there c.split_at.ensures.back (none_named c.first_named-named.result.0 c.if-is_some.ensures) c.first_named-named.ensures.named

pub returns-then-is_some : goal.returns-then-is_some
returns-then-is_some c =
    let some : 0 < length c.orders.rest.now = search rules in
    named_here c.args.own c.args.foreign c.orders.rest.now _ c.first_named-named.result.0 c.first_named-named.result.1 c.orders.invariant some (sym c.if-is_some.ensures) c.first_named-named.ensures.named
