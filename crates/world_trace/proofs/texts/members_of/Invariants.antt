use Rattle.std.proofs.Common.{◌≡◌, map, take}
use Rattle.world_trace.proofs.texts.members_of.Given as goal

-- the texts of the items so far
abbrev pub invariant-loop-item : goal.invariant-loop-item
invariant-loop-item g l = l.members ≡ map g.T.Json.text (take l.item-index l.items)
