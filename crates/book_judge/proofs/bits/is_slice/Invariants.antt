use Rattle.std.proofs.Common.{◌≡◌, drop, take}
use Rattle.book_judge.proofs.bits.is_slice.Given as goal

abbrev pub invariant-loop-i : goal.invariant-loop-i
invariant-loop-i l = take l.i (drop l.from l.text) ≡ take l.i l.bits
