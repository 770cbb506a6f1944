use Rattle.command_line.proofs.Common.{Calls, Sizes, None}
use Rattle.command_line.proofs.Logs.{logs_raw}
use Rattle.command_line.proofs.logging.log_raw.Goals as goal

pub returns-in-Ok-clause-logged : goal.returns-in-Ok-clause-logged
returns-in-Ok-clause-logged g c =
    let calls : Calls g.row.C.Denot = g.C.Carrier.calls in
    logs_raw calls c.args.carrier c.replay_events.new.carrier c.args.events.now Sizes c.log.result.now None None (g.W.Output.contents c.args.writer.now) (g.W.Output.contents c.write_log.new.writer) c.in-Ok.ensures.replayed c.in-Ok.ensures.messages c.in-Ok.ensures.run c.log.ensures.value c.in_ok-write_log-in-Ok.ensures.written c.in_ok-write_log-in-Ok.ensures.valid
