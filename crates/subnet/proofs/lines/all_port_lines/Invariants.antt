use Rattle.subnet.proofs.Common.{lines_from}
use Rattle.std.proofs.Common.{◌≡◌, ◌<◌, ℕ, [], length, get_or}
use Rattle.subnet.proofs.lines.all_port_lines.Given as goal

-- the IMPs so far
abbrev pub invariant-loop-imp : goal.invariant-loop-imp
invariant-loop-imp l = record {
  count : length l.lines.items ≡ l.imp;
  lines : (i : ℕ) → i < length l.lines.items → get_or l.lines.items i [] ≡ lines_from 0 l.wires i;
}
