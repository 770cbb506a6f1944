use Rattle.std.proofs.Common.{rules}
use Rattle.net_sim.proofs.Audits.Streams.{front_more, front_stops}
use Rattle.net_sim.proofs.auditing.streams.is_prefix.Goals as goal

pub returns-then-not-same_found : goal.returns-then-not-same_found
returns-then-not-same_found c =
    front_stops c.args.bits.now c.args.other.now c.loop-i.i c.get.result c.get-in-loop-i.result c.same_found.result (search rules) c.get.ensures c.get-in-loop-i.ensures c.same_found.ensures c.loop-i.invariant
    c.if-not-same_found.true

pub loop-i-preserved : goal.loop-i-preserved
loop-i-preserved c =
    front_more c.args.bits.now c.args.other.now c.loop-i.i c.get.result c.get-in-loop-i.result c.same_found.result (search rules) c.get.ensures c.get-in-loop-i.ensures c.same_found.ensures c.loop-i.invariant
    c.if-not-same_found.false
