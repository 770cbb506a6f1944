use Rattle.std.proofs.Common.{◌≡◌, replicate, None}
use Rattle.routing.proofs.route_table.RouteTable.new.Given as goal

-- the ports so far, on which nothing was heard
abbrev pub invariant-loop : goal.invariant-loop
invariant-loop l = l.heard.items ≡ replicate l.counter None
