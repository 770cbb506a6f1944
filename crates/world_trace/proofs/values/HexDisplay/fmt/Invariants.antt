use Rattle.world_trace.proofs.Common.{◌≡◌, List, ℕ, ◌++◌, drop, HasWritten, IsPlainFormatter, encode_upper}
use Rattle.world_trace.proofs.values.HexDisplay.fmt.Given as goal

-- with what the octets that are left come to, what is shown is the whole
abbrev pub invariant-loop-octet : goal.invariant-loop-octet
invariant-loop-octet g l =
    (front : List ℕ) × (front ++ encode_upper (drop l.octet-index l.octet-items) ≡ encode_upper l.octet-items)
    × (IsPlainFormatter l.fn.f → HasWritten g.W.Write.write_str_gives l.fn.f front l.f)
