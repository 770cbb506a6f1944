use Rattle.subnet.proofs.Calls.Highest.{none_above}
use Rattle.subnet.proofs.parts.Parts.is_alive_up_to.Goals as goal

pub returns-then-number-highest : goal.returns-then-number-highest
returns-then-number-highest c = none_above c.args.highest c.args.self.now c.args.flow.now c.args.number c.requires.sound c.requires.numbers c.requires.up c.if-number-highest.true
