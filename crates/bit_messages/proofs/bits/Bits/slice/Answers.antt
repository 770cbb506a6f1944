use Rattle.std.proofs.Common.{◌≡◌, ◌-◌, sym, arith, refl, false, nat_lt, length}
use Rattle.std.proofs.lemmas.Bool.{le-ltb}
use Rattle.bit_messages.proofs.PackedLemmas.{keeps, Keeps, KeepsIn, keeps_along, part_keeps, keeps_packed, keeps_view, keeps_as}
use Rattle.bit_messages.proofs.bits.Bits.slice.Goals as goal

pub invariant_of-result : goal.invariant_of-result
invariant_of-result c =
    let k : KeepsIn c.self.inside.octets c.args.self.now = keeps _ _ _ c.self.invariant c.self.view_is in
    let o : Keeps c.as_slice.result.now c.self.inside.octets.len c.args.self.now = keeps_along c.self.inside.octets.octets c.as_slice.result.now c.self.inside.octets.len c.args.self.now (sym c.as_slice.ensures) k in
    keeps_packed _ _ _
    (keeps_as _ _ _ _ c.in_ok-part.ensures.len (part_keeps c.as_slice.result.now c.in_ok-part.field-0.octets c.self.inside.octets.len c.args.from c.args.to (c.args.to - c.args.from) c.args.self.now o (omega (arith, c.if-from-to.false)) (omega (arith, k.size, c.len.ensures, c.if-to-len.false)) c.in_ok-part.ensures.packed))

pub returns-clause-decided : goal.returns-clause-decided
returns-clause-decided c =
    let k : KeepsIn c.self.inside.octets c.args.self.now = keeps _ _ _ c.self.invariant c.self.view_is in
    let o : Keeps c.as_slice.result.now c.self.inside.octets.len c.args.self.now = keeps_along c.self.inside.octets.octets c.as_slice.result.now c.self.inside.octets.len c.args.self.now (sym c.as_slice.ensures) k in
    let order : nat_lt c.args.to c.args.from ≡ false = le-ltb c.args.to c.args.from (omega (arith, c.if-from-to.false)) in
    let within : nat_lt (length c.args.self.now) c.args.to ≡ false = le-ltb (length c.args.self.now) c.args.to (omega (arith, c.len.ensures, c.if-to-len.false)) in (
      rw order (rw within refl),
      keeps_view _ _ _
          (keeps_as _ _ _ _ c.in_ok-part.ensures.len (part_keeps c.as_slice.result.now c.in_ok-part.field-0.octets c.self.inside.octets.len c.args.from c.args.to (c.args.to - c.args.from) c.args.self.now o (omega (arith, c.if-from-to.false)) (omega (arith, k.size, c.len.ensures, c.if-to-len.false)) c.in_ok-part.ensures.packed)),
    )
