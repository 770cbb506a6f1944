use Rattle.command_line.proofs.Common.{Calls, Sizes, None}
use Rattle.command_line.proofs.Replayed.AmongLogs.{logs_among}
use Rattle.command_line.proofs.logging.log_among.Goals as goal

pub returns-in-Ok-replay_mixed_events-clause-logged : goal.returns-in-Ok-replay_mixed_events-clause-logged
returns-in-Ok-replay_mixed_events-clause-logged g c =
    let calls : Calls g.row.C.Denot = g.C.Carrier.calls in
    logs_among calls c.args.strangers.now c.args.carrier c.in-Ok.world c.replay_mixed_events.new.world
    c.args.events.items Sizes c.book_among-book.result None None
    (g.W.Output.contents c.args.writer.now) (g.W.Output.contents c.write_book.new.writer) c.in-Ok.ensures.0
    c.requires.picked c.hosts.ensures.ordered c.in-Ok.ensures.1 c.book.ensures.lawful c.handed.ensures.empty
    c.in-Ok-replay_mixed_events.ensures.replayed c.book_among-book.ensures.among c.book_among-book.ensures.toward
    c.book_among-book.ensures.value c.fates.ensures.fated
    c.in_ok-write_book-in-Ok-replay_mixed_events.ensures.written c.in_ok-write_book-in-Ok-replay_mixed_events.ensures.valid
