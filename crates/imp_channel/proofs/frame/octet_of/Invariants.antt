use Rattle.std.proofs.Common.{◌≡◌, drop}
use Rattle.imp_channel.specs.Format.{octet_of}
use Rattle.imp_channel.proofs.frame.octet_of.Given as goal

-- the octet of the bits from this one on
abbrev pub invariant-loop-c : goal.invariant-loop-c
invariant-loop-c l = l.octet ≡ octet_of (drop l.c l.acks)
