use Rattle.std.proofs.Common.{◌≡◌, ◌+◌, ◌*◌, ◌≤◌, ◌<◌, ◌∙◌, ap, sym, refl, arith, ℕ, List, ◌++◌, take, drop, replicate, false, length}
use Rattle.std.proofs.lemmas.List.{length-set, length-take-le, take_all, take_more_set}
use Rattle.bit_messages.specs.Octets.{bits_of}
use Rattle.bit_messages.specs.Store.{octets_for}
use Rattle.bit_messages.proofs.PackedLemmas.{shifted_more}
use Rattle.bit_messages.proofs.octets.shifted.Goals as goal

pub loop-i-init : goal.loop-i-init
loop-i-init c =
    let enough : c.div_ceil-size.result ≤ length c.args.octets.now = omega (arith, c.requires.there) in
    record {
      bits = refl;
      size = ap length (c.in_ok-part.ensures.octets ∙ c.split_at.ensures.front) ∙ length-take-le c.div_ceil-size.result c.args.octets.now enough ∙ (omega arith);
      len = c.in_ok-part.ensures.len;
    }

pub loop-i-preserved : goal.loop-i-preserved
loop-i-preserved c =
    let there : c.loop-i.i < length c.args.octets.now = omega (arith, c.requires.there, c.loop-i-test.true) in
    let within : c.loop-i.i < length c.loop-i.part.octets = omega (arith, c.loop-i.invariant.size, c.loop-i-test.true) in
    record {
      bits =
          (ap bits_of (ap (λ (ns : List ℕ). take (c.loop-i.i + 1) ns) c.set.ensures.octets ∙ take_more_set c.loop-i.part.octets c.loop-i.i c.joined.result within)
          ∙ shifted_more c.args.octets.now (take c.loop-i.i c.loop-i.part.octets) c.args.by c.loop-i.i c.octet_at.result c.joined.result c.requires.some c.requires.few
          there c.octet_at.ensures c.joined.ensures c.loop-i.invariant.bits);
      size = ap length c.set.ensures.octets ∙ length-set c.loop-i.part.octets c.loop-i.i c.joined.result ∙ c.loop-i.invariant.size;
      len = c.set.ensures.len ∙ c.loop-i.invariant.len;
    }

pub returns-clause-bits : goal.returns-clause-bits
returns-clause-bits c =
    let end : c.loop-i.i ≡ octets_for c.args.count = omega (arith, c.loop-i-test.false, c.loop-i.auto.i-end) in
    let all : take c.loop-i.i c.loop-i.part.octets ≡ c.loop-i.part.octets = take_all c.loop-i.i c.loop-i.part.octets (omega (arith, end, c.loop-i.invariant.size)) in
    sym (ap bits_of all) ∙ c.loop-i.invariant.bits ∙ ap (λ (n : ℕ). take (8 * n) (drop c.args.by (bits_of c.args.octets.now ++ replicate 8 false))) end
