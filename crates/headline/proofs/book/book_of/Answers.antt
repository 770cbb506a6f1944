use Rattle.std.proofs.Common.{sym, subst}
use Rattle.interface.specs.Calls.{Seen}
use Rattle.headline.specs.Promise.{KeepsPromise}
use Rattle.headline.proofs.Promise.{exact, keeps}
use Rattle.headline.proofs.book.book_of.Goals as goal

pub returns-clause-promise : goal.returns-clause-promise
returns-clause-promise g c =
    let seen : Seen = g.C.Carrier.calls.seen c.args.world.now.carrier in
    subst (KeepsPromise seen.hosts seen.log c.args.world.now.stopped) (sym c.book.ensures.value)
    (keeps c.among.ensures g.C.Carrier.calls.seen c.args.world.now c.book.ensures.lawful)

pub returns-clause-lawful : goal.returns-clause-lawful
returns-clause-lawful g c = exact g.C.Carrier.calls.seen c.args.world.now c.book.ensures.lawful
