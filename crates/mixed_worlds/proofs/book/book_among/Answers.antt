use Rattle.net_sim.specs.Steps.{strange_in}
use Rattle.mixed_worlds.proofs.book.book_among.Goals as goal

pub returns-clause-among : goal.returns-clause-among
returns-clause-among g c =
    c.worlds.ensures.among (strange_in c.args.world.now) (g.C.Carrier.calls.seen c.args.world.now.carrier).hosts
    c.args.world.now c.book.ensures.lawful

pub returns-clause-toward : goal.returns-clause-toward
returns-clause-toward g c =
    c.worlds.ensures.toward (strange_in c.args.world.now) (g.C.Carrier.calls.seen c.args.world.now.carrier).hosts
    c.args.world.now c.book.ensures.lawful
