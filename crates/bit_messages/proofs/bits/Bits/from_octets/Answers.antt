use Rattle.std.proofs.Common.{◌≡◌, ◌*◌, ◌≤◌, ◌∙◌, sym, take, length, arith}
use Rattle.std.proofs.lemmas.Grind.{div_ceil_times}
use Rattle.std.proofs.lemmas.List.{length-take-le}
use Rattle.bit_messages.specs.Octets.{bits_of}
use Rattle.bit_messages.proofs.OctetLemmas.{first_bits, HasFirstBits, length-bits_of}
use Rattle.bit_messages.proofs.PackedLemmas.{packed, viewed}
use Rattle.bit_messages.proofs.bits.Bits.from_octets.Goals as goal

pub invariant_of-result : goal.invariant_of-result
invariant_of-result c =
    let covered : c.args.count ≤ 8 * c.div_ceil.result = omega (arith, (div_ceil_times c.args.count 8 (omega arith)).0) in
    let size : c.args.count ≡ length (take c.args.count (bits_of c.args.octets.now)) =
    sym (length-take-le c.args.count (bits_of c.args.octets.now) (omega (arith, covered, c.if-div_ceil-octets.false, length-bits_of c.args.octets.now))) in
    packed c.in_ok-part.field-0.octets c.in_ok-part.field-0.len (take c.args.count (bits_of c.args.octets.now)) (c.in_ok-part.ensures.len ∙ size) c.in_ok-part.ensures.packed

pub returns-clause-decided : goal.returns-clause-decided
returns-clause-decided c =
    let covered : c.args.count ≤ 8 * c.div_ceil.result = omega (arith, (div_ceil_times c.args.count 8 (omega arith)).0) in
    let size : c.args.count ≡ length (take c.args.count (bits_of c.args.octets.now)) =
    sym (length-take-le c.args.count (bits_of c.args.octets.now) (omega (arith, covered, c.if-div_ceil-octets.false, length-bits_of c.args.octets.now))) in
    let first : HasFirstBits c.args.octets.now c.args.count c.div_ceil.result = first_bits c.args.octets.now c.args.count c.div_ceil.result covered (omega (arith, c.if-div_ceil-octets.false)) in
    (first.there, viewed c.in_ok-part.field-0.octets c.in_ok-part.field-0.len (take c.args.count (bits_of c.args.octets.now)) (c.in_ok-part.ensures.len ∙ size) c.in_ok-part.ensures.packed)
