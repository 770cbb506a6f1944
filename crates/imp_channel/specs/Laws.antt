-- The laws of src/ that are longer than a line: each is a record, and its fields are the clauses.
use Rattle.std.specs.Prelude.{Err, Ok, [], false, replicate, true, ◌++◌, ◌+◌, ◌∷◌, ◌≡◌}
use Rattle.packetiser.specs.Examples.{about_it}
use Rattle.packetiser.specs.Format as packets
use Rattle.packetiser.specs.PacketFields.{PacketFields}
use Rattle.packetiser.specs.declared.packet.PacketKind.TheVariants as kind
use Rattle.imp_channel.specs.Examples.{packet_frame, packet_octets}
use Rattle.imp_channel.specs.Format.{read_of, spelling}
use Rattle.imp_channel.specs.Schedule.{InOrder, opening_side}
use Rattle.imp_channel.specs.declared.fault.ChannelFault.TheVariants as fault
use Rattle.imp_channel.specs.declared.frame.Content.TheVariants as content

-- Frames octet by octet, and octets that are none.
pub record WorkedFrames : Type 0 where
  -- acknowledgements only: the bit of channel 0 is the lowest
  pub acks : read_of (242 ∷ 1 ∷ 1 ∷ []) ≡ Ok (record { acks = true ∷ replicate 7 false; content = content.Nothing })
  pub last_ack :
      spelling (record { acks = replicate 7 false ++ true ∷ []; content = content.Nothing }) ≡ 242 ∷ 1 ∷ 128 ∷ []
  -- an RFNM on channel 7 under bit 0, and on channel 0 under bit 1
  pub channel : read_of (packet_octets 7) ≡ Ok (packet_frame 7 false)
  pub bit : read_of (packet_octets 8) ≡ Ok (packet_frame 0 true)
  pub written :
      (spelling (packet_frame 7 false) ≡ 242 ∷ 0 ∷ 0 ∷ 7 ∷ packets.spelling (about_it kind.Rfnm)) ×
      (spelling (packet_frame 0 true) ≡ 242 ∷ 0 ∷ 0 ∷ 8 ∷ packets.spelling (about_it kind.Rfnm))
  -- distances: an octet each, that to IMP 1 first
  pub routes :
      read_of (242 ∷ 2 ∷ 0 ∷ 0 ∷ 1 ∷ replicate 61 63)
      ≡ Ok (record { acks = replicate 8 false; content = content.Routes (0 ∷ 1 ∷ replicate 61 63) })
  pub too_far : read_of (242 ∷ 2 ∷ 0 ∷ 64 ∷ replicate 62 63) ≡ Err fault.NotCanonical
  pub too_few : read_of (242 ∷ 2 ∷ 0 ∷ 64 ∷ replicate 61 63) ≡ Err fault.Short
  pub too_many : read_of (242 ∷ 2 ∷ 0 ∷ replicate 64 63) ≡ Err fault.NotCanonical
  -- another version, whatever follows it; and too few octets before a kind that is none
  pub version :
      (read_of (243 ∷ []) ≡ Err fault.BadVersion) × (read_of (240 ∷ 3 ∷ 0 ∷ []) ≡ Err fault.BadVersion) ×
      (read_of (1 ∷ 1 ∷ []) ≡ Err fault.BadVersion)
  pub short :
      (read_of [] ≡ Err fault.Short) × (read_of (242 ∷ []) ≡ Err fault.Short) ×
      (read_of (242 ∷ 3 ∷ []) ≡ Err fault.Short) × (read_of (242 ∷ 0 ∷ 0 ∷ []) ≡ Err fault.Short)
  -- no such kind; a value above the packet's bit, before what is wrong in the packet; an octet after the end
  pub no_kind : read_of (242 ∷ 3 ∷ 0 ∷ []) ≡ Err fault.NotCanonical
  pub above :
      (read_of (packet_octets 16) ≡ Err fault.NotCanonical) × (read_of (242 ∷ 0 ∷ 0 ∷ 16 ∷ []) ≡ Err fault.NotCanonical)
  pub after_end : read_of (242 ∷ 1 ∷ 0 ∷ 0 ∷ []) ≡ Err fault.NotCanonical
  -- what is wrong in the packet
  pub packet :
      (read_of (242 ∷ 0 ∷ 0 ∷ 0 ∷ []) ≡ Err fault.Short) ×
      (read_of (242 ∷ 0 ∷ 0 ∷ 0 ∷ 1 ∷ 1 ∷ 2 ∷ 5 ∷ 0 ∷ 0 ∷ 128 ∷ 0 ∷ 16 ∷ 0 ∷ 0 ∷ []) ≡ Err fault.BadLength)

-- What the law of the line forbids: each pair of sides has one thing wrong.
pub record NotInOrder : Type 0 where
  -- a packet is given that was not put in, another one than was put in, or the same twice
  pub not_put : (packet : PacketFields) → InOrder 0 opening_side (record opening_side { given = λ c. packet ∷ [] }) → ⊥
  pub another :
      (packet : PacketFields) →
      InOrder 0 (record opening_side { put = λ c. packet ∷ [] })
      (record opening_side { given = λ c. record packet { number = packet.number + 1 } ∷ [] }) →
      ⊥
  pub twice :
      (packet : PacketFields) →
      InOrder 0 (record opening_side { put = λ c. packet ∷ [] })
      (record opening_side { given = λ c. packet ∷ packet ∷ [] }) →
      ⊥
  -- a channel became free, and its packet was not given
  pub not_given :
      (packet : PacketFields) →
      InOrder 0 (record opening_side { put = λ c. packet ∷ []; freed = λ c. packet ∷ [] }) opening_side → ⊥
