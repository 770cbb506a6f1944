use Rattle.std.proofs.Common.{◌++◌, ◌∷◌, [], refl}
use Rattle.bit_messages.proofs.PackedLemmas.{keeps, Keeps, KeepsIn, put_bit_keeps, keeps_packed, keeps_view}
use Rattle.bit_messages.proofs.bits.Bits.push.Goals as goal

pub invariant_of-self-2 : goal.invariant_of-self-2
invariant_of-self-2 c =
    let k : KeepsIn c.self.inside.octets c.args.self.now = keeps _ _ _ c.self.invariant c.self.view_is in
    let n : Keeps c.put_bit.new.octets.octets c.put_bit.new.octets.len (c.args.self.now ++ c.args.bit ∷ []) =
    put_bit_keeps c.self.inside.octets.octets c.put_bit.new.octets.octets c.self.inside.octets.len c.put_bit.new.octets.len c.args.self.now c.args.bit k c.in_ok-put_bit.ensures.ok c.in_ok-put_bit.ensures.len in
    keeps_packed _ _ _ n

pub returns-clause-decided : goal.returns-clause-decided
returns-clause-decided c =
    let k : KeepsIn c.self.inside.octets c.args.self.now = keeps _ _ _ c.self.invariant c.self.view_is in
    let n : Keeps c.put_bit.new.octets.octets c.put_bit.new.octets.len (c.args.self.now ++ c.args.bit ∷ []) =
    put_bit_keeps c.self.inside.octets.octets c.put_bit.new.octets.octets c.self.inside.octets.len c.put_bit.new.octets.len c.args.self.now c.args.bit k c.in_ok-put_bit.ensures.ok c.in_ok-put_bit.ensures.len in
    (refl, keeps_view _ _ _ n)
