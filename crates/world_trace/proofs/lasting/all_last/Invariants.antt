use Rattle.world_trace.proofs.Common.{take, All}
use Rattle.world_trace.proofs.lasting.all_last.Given as goal

-- memory lasts in those so far
abbrev pub invariant-loop-item : goal.invariant-loop-item
invariant-loop-item g l = All g.T.Lasting.going (take l.item-index l.items)
