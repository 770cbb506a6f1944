use Rattle.std.proofs.Common.{◌≡◌, take}
use Rattle.trace.proofs.flow_lists.copy_of.Given as goal

-- as many are copied as come before this place
abbrev pub invariant-loop-part : goal.invariant-loop-part
invariant-loop-part l = l.copy.items ≡ take l.part-index l.list
