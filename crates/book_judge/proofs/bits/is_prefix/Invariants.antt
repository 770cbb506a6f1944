use Rattle.std.proofs.Common.{◌≡◌, take}
use Rattle.book_judge.proofs.bits.is_prefix.Given as goal

abbrev pub invariant-loop-i : goal.invariant-loop-i
invariant-loop-i l = take l.i l.bits ≡ take l.i l.other
