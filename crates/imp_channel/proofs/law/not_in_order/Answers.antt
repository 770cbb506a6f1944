use Rattle.std.proofs.Common.{◌≡◌, ◌+◌, ℕ, List, [], ◌∷◌, length, suc, ap, arith}
use Rattle.packetiser.specs.PacketFields.{PacketFields}
use Rattle.imp_channel.proofs.law.not_in_order.Goals as goal

-- the number of the first packet
abbrev pub first_number : List PacketFields → ℕ
first_number [] = 0
first_number (p ∷ ps) = p.number

pub returns : goal.returns
returns c = record {
  not_put =
      λ packet g. let lengths : suc (length g.given.rest) ≡ 0 = ap length g.given.joined
      in absurd (omega (arith, lengths));
  another =
      λ packet g. let numbers : packet.number + 1 ≡ packet.number = ap first_number g.given.joined
      in absurd (omega (arith, numbers));
  twice =
      λ packet g. let lengths : suc (suc (length g.given.rest)) ≡ 1 = ap length g.given.joined
      in absurd (omega (arith, lengths));
  not_given =
      λ packet g. let lengths : suc (length g.freed.rest) ≡ 0 = ap length g.freed.joined
      in absurd (omega (arith, lengths));
}
