use Rattle.command_line.proofs.Common.{Err, ap, inr, ◌∙◌, Calls}
use Rattle.net_sim.specs.Book.{Kept}
use Rattle.command_line.proofs.Faults.{told_memory, told_write}
use Rattle.command_line.proofs.Replayed.Strangers.{among_writes_all, among_writes_part}
use Rattle.command_line.proofs.carriers.replay_among.Goals as goal

pub returns-in-Ok-outcome-clause-replayed : goal.returns-in-Ok-outcome-clause-replayed
returns-in-Ok-outcome-clause-replayed g c =
    let calls : Calls g.row.C.Denot = g.C.Carrier.calls in
    among_writes_all calls c.args.strangers.now c.args.carrier c.in-Ok.world c.replay_mixed_events-outcome.new.world
    c.args.events.items c.lives.result.now c.args.book c.args.detail
    (g.W.Output.contents c.args.writer.now) (g.W.Output.contents c.replay_mixed_events-outcome.new.writer)
    (g.W.Output.contents c.write_lives.new.writer)
    c.in-Ok.ensures.1 (rw c.in-Ok-outcome.is at c.replay_mixed_events-outcome.ensures.replayed)
    c.book_among-kept.ensures.among c.book_among-kept.ensures.toward
    (c.lives.ensures ∙ ap (λ (k : Kept). k.book.lives) c.book_among-kept.ensures.value)
    c.in_ok-write_lives-in-Ok-outcome.ensures.written

pub returns-clause-stopped : goal.returns-clause-stopped
returns-clause-stopped g c = λ e.
    let calls : Calls g.row.C.Denot = g.C.Carrier.calls in
    inr (among_writes_part calls c.args.strangers.now c.args.carrier c.in-Ok.world
    c.replay_mixed_events-outcome.new.world c.args.events.items c.args.detail
    (g.W.Output.contents c.args.writer.now) (g.W.Output.contents c.replay_mixed_events-outcome.new.writer)
    c.in-Ok.ensures.1
    (c.replay_mixed_events-outcome.ensures.memory
    (c.in-Err.is ∙ ap Err (told_memory c.in-Err.fault c.from.result c.from.ensures e))) c.book_among-kept.ensures.among
    c.book_among-kept.ensures.toward)

pub returns-clause-failed : goal.returns-clause-failed
returns-clause-failed g c = told_write c.in-Err.fault c.from.result
    (g.W.Output.failed c.replay_mixed_events-outcome.new.writer) c.from.ensures
    (rw c.in-Err.is at c.replay_mixed_events-outcome.ensures.failed)
