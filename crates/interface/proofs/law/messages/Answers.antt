use Rattle.interface.proofs.MessageLaw.{safe_messages}
use Rattle.interface.proofs.law.messages.Goals as goal

pub returns : goal.returns
returns c = safe_messages
