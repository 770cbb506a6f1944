use Rattle.std.proofs.Common.{arith}
use Rattle.ncp_control.specs.Packing.{packed_count}
use Rattle.ncp_control.proofs.Fronts.{longest_front, longest_is_one}
use Rattle.ncp_control.proofs.PackedLemmas.{packed_again}
use Rattle.ncp_control.proofs.law.packing.Goals as goal

pub returns-clause-front : goal.returns-clause-front
returns-clause-front c = longest_front

pub returns-clause-again : goal.returns-clause-again
returns-clause-again c = packed_again

pub returns-clause-only : goal.returns-clause-only
returns-clause-only c = λ commands count front.
    omega (arith, longest_is_one commands count (packed_count commands) front (longest_front commands), longest_is_one commands (packed_count commands) count (longest_front commands) front)
