use Rattle.std.proofs.Common.{◌∷◌, [], ◌++◌, Bool, List, OnOk, take, subst, arith, refl}
use Rattle.bit_messages.specs.Octets.{bits_of}
use Rattle.bit_messages.specs.Packed.{Packs}
use Rattle.bit_messages.proofs.PackedLemmas.{mark_bits, mark_packed}
use Rattle.bit_messages.proofs.octets.put_mark.Goals as goal

pub put-requires : goal.put-requires
put-requires c = record { packed = c.requires.packed; more = mark_packed (128 ∷ 0 ∷ []) 15 c.args.count refl c.requires.some c.requires.few (omega (arith, c.if-count-gt8.true)) }

pub put-requires-2 : goal.put-requires-2
put-requires-2 c = record { packed = c.requires.packed; more = mark_packed (128 ∷ []) 7 c.args.count refl c.requires.some (omega (arith, c.if-count-gt8.false)) (omega (arith, c.requires.some)) }

pub returns-then-count-gt8-clause-ok : goal.returns-then-count-gt8-clause-ok
returns-then-count-gt8-clause-ok c =
    let P : List Bool → Type 0 = λ b. OnOk c.put.result (Packs c.put.new.octets.octets (take c.args.octets.now.len (bits_of c.args.octets.now.octets) ++ b)) in
    subst P (mark_bits (128 ∷ 0 ∷ []) 15 c.args.count refl c.requires.some c.requires.few) c.put.ensures.ok

pub returns-clause-ok : goal.returns-clause-ok
returns-clause-ok c =
    let P : List Bool → Type 0 = λ b. OnOk c.put-2.result (Packs c.put-2.new.octets.octets (take c.args.octets.now.len (bits_of c.args.octets.now.octets) ++ b)) in
    subst P (mark_bits (128 ∷ []) 7 c.args.count refl c.requires.some (omega (arith, c.if-count-gt8.false))) c.put-2.ensures.ok
