use Rattle.world_script.proofs.Lines.{no_message, no_stranger}
use Rattle.world_script.proofs.events.read_out.Goals as goal

pub returns-then-not-strangers-clause-read : goal.returns-then-not-strangers-clause-read
returns-then-not-strangers-clause-read c = rw c.if-not-strangers.true (no_stranger c.args.words.now)

pub returns-in_default-clause-read : goal.returns-in_default-clause-read
returns-in_default-clause-read c = no_message c.args.words.now (rw c.in_default.is at c.in_ok-message.ensures.read) c.args.strangers
