use Rattle.std.proofs.Common.{◌≡◌, map, take, length}
use Rattle.subnet.specs.Opening.{empty_wire}
use Rattle.subnet.proofs.lines.empty_wires.Given as goal

-- the lines so far
abbrev pub invariant-loop-end : goal.invariant-loop-end
invariant-loop-end l = record {
  lines : l.lines.items ≡ map empty_wire (take l.end-index l.ends);
  count : length l.lines.items ≡ l.end-index;
}
