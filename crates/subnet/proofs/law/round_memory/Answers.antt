use Rattle.subnet.proofs.Calls.RoundMemory.{round_wants_none, round_wants}
use Rattle.subnet.proofs.law.round_memory.Goals as goal

pub returns : goal.returns
returns c = record { no_imp = round_wants_none; end_up = round_wants }
