use Rattle.std.proofs.Common.{◌≡◌, ◌*◌, ◌/◌, take, length}
use Rattle.hex.specs.Hex.{encode_upper}
use Rattle.script.proofs.hexadecimal.spelled_octets.Given as goal

-- the octets so far are spelled by the digits so far
abbrev pub invariant-loop-i : goal.invariant-loop-i
invariant-loop-i l = record { spelled : encode_upper (take l.i l.octets.items) ≡ take (2 * l.i) l.word; size : length l.octets.items ≡ l.size; half : l.size ≡ length l.word / 2 }
