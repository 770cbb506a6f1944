use Rattle.imp_node.proofs.Common.{◌≡◌, ◌++◌, drop, resent_from}
use Rattle.imp_node.proofs.lines.resent_from.Given as goal

-- the frames so far, and those of the ports that are left
abbrev pub invariant-loop-at : goal.invariant-loop-at
invariant-loop-at l = l.frames.items ++ resent_from l.at (drop l.at l.ports) ≡ resent_from 0 l.ports
