use Rattle.std.proofs.Common.{◌≡◌, ◌*◌, ◌++◌, false, length, take, drop, replicate}
use Rattle.bit_messages.specs.Octets.{bits_of}
use Rattle.bit_messages.specs.Store.{octets_for}
use Rattle.bit_messages.proofs.octets.shifted.Given as goal

-- the first octets are those of the shifted bits
abbrev pub invariant-loop-i : goal.invariant-loop-i
invariant-loop-i l = record {
  bits : bits_of (take l.i l.part.octets) ≡ take (8 * l.i) (drop l.by (bits_of l.octets ++ replicate 8 false));
  size : length l.part.octets ≡ octets_for l.count;
  len : l.part.len ≡ l.count;
}
