use Rattle.std.proofs.Common.{drop, ◌<◌, ◌^◌}
use Rattle.script.proofs.Numbers.{SoFar}
use Rattle.script.proofs.word.spelled_number.Given as goal

-- the digits so far spell the number so far
abbrev pub invariant-loop-octet : goal.invariant-loop-octet
invariant-loop-octet l = SoFar l.word (drop l.octet-index l.word) l.number × (l.number < 10 ^ l.octet-index)
