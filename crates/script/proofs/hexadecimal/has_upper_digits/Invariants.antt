use Rattle.script.proofs.Common.{list_all, is_upper_digit}
use Rattle.std.proofs.Common.{◌≡◌, take}
use Rattle.script.proofs.hexadecimal.has_upper_digits.Given as goal

-- the octets so far are digits
abbrev pub invariant-loop-octet : goal.invariant-loop-octet
invariant-loop-octet l = l.all ≡ list_all is_upper_digit (take l.octet-index l.word)
