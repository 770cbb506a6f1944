use Rattle.std.proofs.Common.{◌≡◌, ◌/◌, ◌%◌, ◌∙◌, ap, sym, subst, arith, suc, ℕ, List, Bool, ◌++◌, length, take, drop, replicate, false, get_or, set, ◌-◌}
use Rattle.bit_messages.specs.Octets.{octet_bits, bits_of}
use Rattle.bit_messages.specs.Packed.{Packs}
use Rattle.bit_messages.proofs.PackedLemmas.{cleared_last, cleared_none}
use Rattle.bit_messages.proofs.octets.part.Goals as goal

pub returns-then-used-eq0-clause-packed : goal.returns-then-used-eq0-clause-packed
returns-then-used-eq0-clause-packed c =
    let P : List Bool → Type 0 = λ b. Packs c.in_ok-part.part.octets b in
    subst P c.in_ok-part.ensures.bits (cleared_none c.in_ok-part.part.octets c.args.count c.in_ok-part.ensures.size c.if-used-eq0.true)

pub returns-clause-packed : goal.returns-clause-packed
returns-clause-packed c =
    let k : ℕ = c.args.count / 8 in
    let used : ℕ = c.args.count % 8 in
    let end : length c.in_ok-part.part.octets ≡ suc k = omega (arith, c.in_ok-part.ensures.size, c.if-used-eq0.false) in
    let bits : octet_bits c.cleared-last.result ≡ take used (octet_bits (get_or c.in_ok-part.part.octets k 0)) ++ replicate (8 - used) false =
    c.cleared-last.ensures ∙ ap (λ (ns : List ℕ). take used (octet_bits (get_or ns k 0)) ++ replicate (8 - used) false) c.as_slice.ensures in
    let P : List Bool → Type 0 = λ b. Packs (set c.in_ok-part.part.octets k c.cleared-last.result) b in
    let R : List ℕ → Type 0 = λ ns. Packs ns (take c.args.count (drop c.args.from (bits_of c.args.octets.now))) in
    subst R (sym c.set.ensures.octets)
    (subst P c.in_ok-part.ensures.bits (cleared_last c.in_ok-part.part.octets c.args.count k used c.cleared-last.result end (omega arith) (omega (arith, c.if-used-eq0.false)) (omega arith) bits))
