use Rattle.std.proofs.Common.{◌≡◌, [], ◌∷◌, zero, suc, length, true, false, ap, arith, Contains}
use Rattle.packetiser.specs.PacketFields.{PacketFields}
use Rattle.packetiser.proofs.law.not_gathered.Goals as goal

-- what is in a list of one
alone : (p q : PacketFields) → Contains (p ∷ []) q → p ≡ q
alone p q (zero, lt, e) = e
alone p q (suc k, lt, e) = absurd (omega (arith, lt))

pub returns : goal.returns
returns c = record {
  another_number =
      λ p g. let numbers : 1 ≡ 0 = (g.of_message 0 p (omega arith)).same_number in absurd (omega (arith, numbers));
  other_bits =
      λ p g. let lengths : length p.bits ≡ suc (length p.bits) = ap (λ (q : PacketFields). length q.bits)
      (alone p (record p { bits = true ∷ p.bits }) (g.among 0 p (omega arith))) in absurd (omega (arith, lengths));
  last_missing = λ p g. let no : false ≡ true = g.whole in absurd (cc);
  first_missing = λ p g. let no : false ≡ true = g.whole in absurd (cc);
}
