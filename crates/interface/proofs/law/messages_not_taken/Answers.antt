use Rattle.interface.proofs.NotTaken.{never_taken}
use Rattle.interface.proofs.law.messages_not_taken.Goals as goal

pub returns : goal.returns
returns c = never_taken
