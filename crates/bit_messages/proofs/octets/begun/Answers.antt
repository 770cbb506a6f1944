use Rattle.std.proofs.Common.{◌*◌, ◌/◌, ◌%◌, ◌≤◌, ◌∙◌, ap, arith, ℕ, List, Bool, ◌++◌, length, take, drop, replicate, false}
use Rattle.std.proofs.lemmas.Grind.{div_ceil_times}
use Rattle.std.proofs.lemmas.List.{length-drop}
use Rattle.bit_messages.specs.Octets.{bits_of}
use Rattle.bit_messages.specs.Store.{octets_for}
use Rattle.bit_messages.proofs.PackedLemmas.{part_whole, part_across, if_ok}
use Rattle.bit_messages.proofs.octets.begun.Goals as goal

pub returns-then-from-eq0-clause-bits : goal.returns-then-from-eq0-clause-bits
returns-then-from-eq0-clause-bits c =
    let covered : c.args.count ≤ 8 * c.div_ceil-size.result = omega (arith, (div_ceil_times c.args.count 8 (omega arith)).0) in
    let within : c.div_ceil-size.result ≤ length (drop (c.args.from / 8) c.args.octets.now) =
    omega (arith, (div_ceil_times c.args.count 8 (omega arith)).1, c.requires.there, c.if-from-eq0.true, length-drop (c.args.from / 8) c.args.octets.now) in
    if_ok _ _ c.from_slice.result c.from_slice.ensures.octets
    (λ v same. ap (λ (ns : List ℕ). take c.args.count (bits_of ns)) (same ∙ c.split_at-then-from-eq0.ensures.front ∙ ap (λ (ns : List ℕ). take c.div_ceil-size.result ns) c.split_at.ensures.back)
    ∙ part_whole c.args.octets.now c.args.from c.args.count c.div_ceil-size.result c.if-from-eq0.true covered within)

pub returns-clause-bits : goal.returns-clause-bits
returns-clause-bits c =
    let covered : c.args.count ≤ 8 * octets_for c.args.count = omega arith in
    if_ok _ _ c.shifted.result c.shifted.ensures.bits
    (λ v bits. ap (λ (b : List Bool). take c.args.count b) bits
    ∙ ap (λ (ns : List ℕ). take c.args.count (take (8 * octets_for c.args.count) (drop (c.args.from % 8) (bits_of ns ++ replicate 8 false)))) c.split_at.ensures.back
    ∙ part_across c.args.octets.now c.args.from c.args.count (octets_for c.args.count) c.requires.there covered)
