use Rattle.command_line.proofs.Common.{Err, ap, Calls}
use Rattle.command_line.proofs.Faults.{told_memory, told_write}
use Rattle.command_line.proofs.Replayed.Written.{writes_all, writes_part}
use Rattle.command_line.proofs.carriers.replay_raw.Goals as goal

pub returns-in-Ok-clause-replayed : goal.returns-in-Ok-clause-replayed
returns-in-Ok-clause-replayed g c =
    let calls : Calls g.row.C.Denot = g.C.Carrier.calls in
    writes_all calls c.args.carrier c.replay_events.new.carrier c.args.events.now c.args.detail (g.W.Output.contents c.args.writer.now) (g.W.Output.contents c.replay_events.new.writer) (g.W.Output.contents c.write_last.new.writer)
    c.requires.unused c.in-Ok.ensures.replayed c.in-Ok.ensures.messages c.in-Ok.ensures.run c.in_ok-write_last-in-Ok.ensures.written

pub returns-clause-stopped : goal.returns-clause-stopped
returns-clause-stopped g c = λ e.
    let calls : Calls g.row.C.Denot = g.C.Carrier.calls in
    writes_part calls c.args.carrier c.replay_events.new.carrier c.args.events.now c.args.detail (g.W.Output.contents c.args.writer.now) (g.W.Output.contents c.replay_events.new.writer)
    c.requires.unused (c.in-Err.ensures.memory (ap Err (told_memory c.in-Err.fault c.from.result c.from.ensures e))) c.in-Err.ensures.messages c.in-Err.ensures.run

pub returns-clause-failed : goal.returns-clause-failed
returns-clause-failed g c = told_write c.in-Err.fault c.from.result (g.W.Output.failed c.replay_events.new.writer) c.from.ensures c.in-Err.ensures.failed
