use Rattle.replay.proofs.Common.{Calls}
use Rattle.std.proofs.Common.{Ok}
use Rattle.replay.proofs.Passing.{all_took, one_took, took_none, took_refused}
use Rattle.replay.proofs.Shown.{grew_take}
use Rattle.replay.proofs.calm.take_all.Goals as goal

pub returns-in-Ok-None-clause-takings : goal.returns-in-Ok-None-clause-takings
returns-in-Ok-None-clause-takings g c =
    let calls : Calls g.row.C.Denot = g.C.Carrier.calls in
    took_none calls c.args.host c.args.carrier.now c.loop.carrier c.take_in.new.self c.loop.counter c.in-Ok-None.field-0 c.loop-test.true c.loop.invariant c.in-Ok-None.field-0-is c.in-Ok-None.ensures.relation

pub returns-in-Err-clause-takings : goal.returns-in-Err-clause-takings
returns-in-Err-clause-takings g c =
    let calls : Calls g.row.C.Denot = g.C.Carrier.calls in
    took_refused calls c.args.host c.args.carrier.now c.loop.carrier c.take_in.new.self c.loop.counter c.in-Err.fault c.calmly.result c.loop-test.true c.loop.invariant c.in-Err.ensures.relation c.calmly.ensures.calm

pub loop-preserved : goal.loop-preserved
loop-preserved g c =
    let calls : Calls g.row.C.Denot = g.C.Carrier.calls in
    one_took calls c.args.host c.args.carrier.now c.loop.carrier c.take_in.new.self c.loop.counter c.in-Ok-Some.field-0-0 c.in-Ok-Some.field-0 c.loop-test.true c.loop.invariant c.in-Ok-Some.field-0-is c.in-Ok-Some.ensures.relation
    (grew_take (calls.seen c.loop.carrier) c.args.host (Ok c.in-Ok-Some.field-0) (calls.seen c.take_in.new.self) c.in-Ok-Some.ensures.shown)

pub returns-clause-takings : goal.returns-clause-takings
returns-clause-takings g c =
    let calls : Calls g.row.C.Denot = g.C.Carrier.calls in
    all_took calls c.args.host c.args.carrier.now c.loop.carrier c.loop.counter c.loop-test.false c.loop.invariant
