use Rattle.command_line.proofs.Common.{Err, ap, inr, ◌∙◌, Calls, world_keeps}
use Rattle.net_sim.specs.Book.{Kept}
use Rattle.command_line.proofs.Faults.{told_memory, told_write}
use Rattle.command_line.proofs.Replayed.Written.{world_writes_all, world_writes_part}
use Rattle.command_line.proofs.carriers.replay_world.Goals as goal

pub returns-in-Ok-clause-replayed : goal.returns-in-Ok-clause-replayed
returns-in-Ok-clause-replayed g c =
    let calls : Calls g.row.C.Denot = g.C.Carrier.calls in
    world_writes_all calls c.args.carrier c.in_ok-world.world c.replay_events-outcome.new.world c.args.events.items c.lives.result.now c.args.book c.args.detail
    (g.W.Output.contents c.args.writer.now) (g.W.Output.contents c.replay_events-outcome.new.writer) (g.W.Output.contents c.write_lives.new.writer)
    c.in_ok-world.ensures (rw c.in-Ok.is at c.replay_events-outcome.ensures.replayed) (world_keeps calls.seen c.replay_events-outcome.new.world c.book_of-kept.result c.book_of-kept.ensures.value c.book_of-kept.ensures.promise c.book_of-kept.ensures.lawful)
    (c.lives.ensures ∙ ap (λ (k : Kept). k.book.lives) c.book_of-kept.ensures.value)
    c.in_ok-write_lives-in-Ok.ensures.written

pub returns-clause-stopped : goal.returns-clause-stopped
returns-clause-stopped g c = λ e.
    let calls : Calls g.row.C.Denot = g.C.Carrier.calls in
    inr (world_writes_part calls c.args.carrier c.in_ok-world.world c.replay_events-outcome.new.world c.args.events.items c.args.detail (g.W.Output.contents c.args.writer.now) (g.W.Output.contents c.replay_events-outcome.new.writer)
    c.in_ok-world.ensures (c.replay_events-outcome.ensures.memory (c.in-Err.is ∙ ap Err (told_memory c.in-Err.fault c.from.result c.from.ensures e))) (world_keeps calls.seen c.replay_events-outcome.new.world c.book_of-kept.result c.book_of-kept.ensures.value c.book_of-kept.ensures.promise c.book_of-kept.ensures.lawful))

pub returns-clause-failed : goal.returns-clause-failed
returns-clause-failed g c = told_write c.in-Err.fault c.from.result (g.W.Output.failed c.replay_events-outcome.new.writer) c.from.ensures (rw c.in-Err.is at c.replay_events-outcome.ensures.failed)
