use Rattle.std.proofs.Common.{◌≡◌, ◌++◌, ◌-◌, length, take}
use Rattle.imp_channel.specs.Format.{bits_of}
use Rattle.imp_channel.proofs.frame.bits_of.Given as goal

-- the bits so far, and those of the rest, are all
abbrev pub invariant-loop-ack : goal.invariant-loop-ack
invariant-loop-ack l = record {
  long : length l.ack-items ≡ 8;
  bits : take l.ack-index l.ack-items ++ bits_of (8 - l.ack-index) l.rest ≡ bits_of 8 l.octet;
}
