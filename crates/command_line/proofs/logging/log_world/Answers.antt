use Rattle.command_line.proofs.Common.{Calls, Sizes, None, subst, world_keeps, AreSuited, suited_with}
use Rattle.net_sim.specs.Book.{Kept}
use Rattle.command_line.proofs.Logs.{logs_world}
use Rattle.command_line.proofs.logging.log_world.Goals as goal

pub returns-in-Ok-clause-logged : goal.returns-in-Ok-clause-logged
returns-in-Ok-clause-logged g c =
    let calls : Calls g.row.C.Denot = g.C.Carrier.calls in
    logs_world calls c.args.carrier c.in_ok-world.world c.replay_events.new.world c.args.events.items Sizes
    c.book_of-book.result None None
    (g.W.Output.contents c.args.writer.now) (g.W.Output.contents c.write_book.new.writer) c.in_ok-world.ensures
    c.in-Ok.ensures.replayed
    (world_keeps calls.seen c.replay_events.new.world c.book_of-book.result c.book_of-book.ensures.value c.book_of-book.ensures.promise c.book_of-book.ensures.lawful)
    c.book_of-book.ensures.value
    (subst (λ (k : Kept). AreSuited k.book.crossings k.book.lives k.fates) c.book_of-book.ensures.value
    (suited_with c.book_of-book.result.book.contacts c.book_of-book.result.book.crossings c.book_of-book.result.book.lives c.book_of-book.result.fates c.book_of-book.ensures.promise.contacts c.book_of-book.ensures.promise.over))
    c.in_ok-write_book-in-Ok.ensures.written c.in_ok-write_book-in-Ok.ensures.valid
