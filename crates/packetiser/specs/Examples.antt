-- Small packets and their octets, for the worked rows: from host 0 at IMP 1 to host 0 at IMP 3.
use Rattle.std.specs.Prelude.{ℕ, true, false, List, [], ◌∷◌, Bool}
use Rattle.interface.specs.declared.address.Flow.{Flow}
use Rattle.packetiser.specs.PacketFields.{PacketFields}
use Rattle.packetiser.specs.declared.packet.PacketKind.{PacketKind}

abbrev pub flow : ℕ → Flow
flow link = record { source = record { imp = 1; host = 0 }; destination = record { imp = 3; host = 0 }; link = record { 0 = link } }

-- a request for connection: receive socket 16, send socket 33, link 5
abbrev pub request : List ℕ
request = 0 ∷ 8 ∷ 0 ∷ 10 ∷ 0 ∷ 1 ∷ 0 ∷ 0 ∷ 0 ∷ 16 ∷ 0 ∷ 0 ∷ 0 ∷ 33 ∷ 5 ∷ []

-- the octets of its one packet on link 0 with the number 0: the text has 120 bits, and its body 128
abbrev pub request_packet : List ℕ
request_packet =
    0 ∷ 1 ∷ 3 ∷ 0 ∷ 0 ∷ 0 ∷ 128 ∷ 0 ∷ 128 ∷ 0 ∷ 8 ∷ 0 ∷ 10 ∷ 0 ∷ 1 ∷ 0 ∷ 0 ∷ 0 ∷ 16 ∷ 0 ∷ 0 ∷ 0 ∷ 33 ∷ 5 ∷ 128 ∷ []

-- the header of a packet on link 5 with the number 258: its kind, its octet of the place, and how many bits it says, below 256
abbrev pub header : ℕ → ℕ → ℕ → List ℕ
header kind place count = kind ∷ 1 ∷ 3 ∷ 5 ∷ 1 ∷ 2 ∷ place ∷ 0 ∷ count ∷ []

-- the same with an octet of bits, and with two
abbrev pub with_octet : ℕ → ℕ → ℕ → ℕ → List ℕ
with_octet kind place count octet = kind ∷ 1 ∷ 3 ∷ 5 ∷ 1 ∷ 2 ∷ place ∷ 0 ∷ count ∷ octet ∷ []

abbrev pub with_octets : ℕ → ℕ → ℕ → List ℕ
with_octets kind place count = kind ∷ 1 ∷ 3 ∷ 5 ∷ 1 ∷ 2 ∷ place ∷ 0 ∷ count ∷ 160 ∷ 1 ∷ []

-- the sixteen bits of those two, the upper bit of each octet first
abbrev pub sixteen_bits : List Bool
sixteen_bits =
    true ∷ false ∷ true ∷ false ∷ false ∷ false ∷ false ∷ false ∷ false ∷ false ∷ false ∷ false ∷ false ∷ false ∷ false ∷ true ∷ []

-- the packet with this header: an answer or a question
abbrev pub about_it : PacketKind → PacketFields
about_it kind = record {
  kind = kind;
  source = record { imp = 1; host = 0 };
  destination = record { imp = 3; host = 0 };
  link = 5;
  number = 258;
  place = 0;
  last = true;
  bits = [];
}
