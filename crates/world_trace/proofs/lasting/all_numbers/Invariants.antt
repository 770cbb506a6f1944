use Rattle.world_trace.proofs.Common.{take, All}
use Rattle.world_trace.proofs.lasting.all_numbers.Given as goal

-- texts say the numbers of those so far
abbrev pub invariant-loop-item : goal.invariant-loop-item
invariant-loop-item g l = All g.T.Numbered.told (take l.item-index l.items)
