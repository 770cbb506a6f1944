use Rattle.imp_node.proofs.Common.{◌≡◌, ◌++◌, drop, told_from}
use Rattle.imp_node.proofs.lines.told_from.Given as goal

-- the frames so far, and those of the ports that are left
abbrev pub invariant-loop-at : goal.invariant-loop-at
invariant-loop-at l = l.frames.items ++ told_from l.distances l.at (drop l.at l.ports) ≡ told_from l.distances 0 l.ports
