use Rattle.std.proofs.Common.{rules, take, Bool, length, length-drop, le-ltb, None, ◌-◌, ◌*◌, ◌≤◌, ◌≡◌, sym, ◌∙◌, refl, subst, List, ℕ, get_or, ap, ◌<◌, arith}
use Rattle.packetiser.specs.PacketFields.{PacketFields, IsPacket}
use Rattle.bit_messages.specs.Octets.{bits_of, octets_fault}
use Rattle.packetiser.specs.Limits.{header_octets}
use Rattle.packetiser.specs.Format.{spelling, is_last, link_at, place_of}
use Rattle.packetiser.proofs.Calls.{only_memory}
use Rattle.packetiser.proofs.Packets.{IsLong, long_from, SpellsPacket, packet_from, fields_fit, spelled, canonical_from, fields_made}
use Rattle.packetiser.proofs.packet.Packet.read.Goals as goal

pub map_err-requires : goal.map_err-requires
map_err-requires c =
    let octets : List ℕ = c.args.octets.now in
    let long : IsLong octets = long_from octets (sym c.is_short.ensures.same ∙ c.if-is_short.false) in
    let body : length c.split_at.result.1.now ≡ length octets - header_octets = ap length c.split_at.ensures.back ∙ length-drop header_octets octets in
    let enough : c.bit_count.result ≤ 8 * length c.split_at.result.1.now = omega (arith, c.bit_count.ensures, body, long.header, long.body) in
    let fits : octets_fault c.split_at.result.1.now c.bit_count.result ≡ None = rw (le-ltb (8 * length c.split_at.result.1.now) c.bit_count.result enough) refl in
    only_memory (octets_fault c.split_at.result.1.now c.bit_count.result) (λ (bits : List Bool). bits ≡ take c.bit_count.result (bits_of c.split_at.result.1.now)) c.from_octets.result fits c.from_octets.ensures.decided

pub host_of-requires : goal.host_of-requires
host_of-requires c = (canonical_from c.args.octets.now (sym c.is_not_canonical.ensures ∙ c.if-is_not_canonical.false)).source

pub host_of-requires-2 : goal.host_of-requires-2
host_of-requires-2 c = (canonical_from c.args.octets.now (sym c.is_not_canonical.ensures ∙ c.if-is_not_canonical.false)).destination

pub invariant_of-result : goal.invariant_of-result
invariant_of-result c =
    let octets : List ℕ = c.args.octets.now in
    let small : (k : ℕ) → get_or octets k 0 < 256 = λ k. omega (arith, c.type_inv.octets k) in
    let packet : SpellsPacket octets =
    packet_from octets (sym c.is_short.ensures.same ∙ c.if-is_short.false) (sym c.is_not_canonical.ensures ∙ c.if-is_not_canonical.false)
    (sym c.is_bad_length.ensures ∙ c.if-is_bad_length.false) in
    let bits : c.in_ok-bits.bits ≡ take c.bit_count.result (bits_of c.split_at.result.1.now) = search rules in
    let made : PacketFields = record {
      kind = c.kind_of.result;
      source = c.host_of.result;
      destination = c.host_of-2.result;
      link = get_or octets link_at 0;
      number = c.two_octets.result;
      place = place_of octets;
      last = is_last octets;
      bits = c.in_ok-bits.bits;
    } in
    subst IsPacket (fields_made octets made c.split_at.result.1.now c.bit_count.result c.kind_of.ensures c.host_of.ensures c.host_of-2.ensures refl c.two_octets.ensures refl refl
    bits c.split_at.ensures.back c.bit_count.ensures) (fields_fit octets small packet)

pub returns-clause-found : goal.returns-clause-found
returns-clause-found c =
    let octets : List ℕ = c.args.octets.now in
    let small : (k : ℕ) → get_or octets k 0 < 256 = λ k. omega (arith, c.type_inv.octets k) in
    let packet : SpellsPacket octets =
    packet_from octets (sym c.is_short.ensures.same ∙ c.if-is_short.false) (sym c.is_not_canonical.ensures ∙ c.if-is_not_canonical.false)
    (sym c.is_bad_length.ensures ∙ c.if-is_bad_length.false) in
    let bits : c.in_ok-bits.bits ≡ take c.bit_count.result (bits_of c.split_at.result.1.now) = search rules in
    let made : PacketFields = record {
      kind = c.kind_of.result;
      source = c.host_of.result;
      destination = c.host_of-2.result;
      link = get_or octets link_at 0;
      number = c.two_octets.result;
      place = place_of octets;
      last = is_last octets;
      bits = c.in_ok-bits.bits;
    } in
    spelled octets small packet ∙ ap spelling (fields_made octets made c.split_at.result.1.now c.bit_count.result c.kind_of.ensures c.host_of.ensures c.host_of-2.ensures refl c.two_octets.ensures refl refl
    bits c.split_at.ensures.back c.bit_count.ensures)
