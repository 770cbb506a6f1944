use Rattle.std.proofs.Common.{◌∙◌, sym, arith}
use Rattle.bit_messages.proofs.PackedLemmas.{keeps, Keeps, KeepsIn, keeps_along, packs_octets, differ_by_length, same_by_octets}
use Rattle.bit_messages.proofs.bits.BitsPartialEq.eq.Goals as goal

pub returns-then-len : goal.returns-then-len
returns-then-len c =
    let k : KeepsIn c.self.inside.octets c.args.self.now = keeps _ _ _ c.self.invariant c.self.view_is in
    let o : KeepsIn c.other.inside.octets c.args.other.now = keeps _ _ _ c.other.invariant c.other.view_is in
    differ_by_length c.args.self.now c.args.other.now (λ e. c.if-len.true (c.len.ensures ∙ k.size ∙ e ∙ sym (c.len-2.ensures ∙ o.size)))

pub returns : goal.returns
returns c =
    let k : KeepsIn c.self.inside.octets c.args.self.now = keeps _ _ _ c.self.invariant c.self.view_is in
    let o : KeepsIn c.other.inside.octets c.args.other.now = keeps _ _ _ c.other.invariant c.other.view_is in
    let ours : Keeps c.as_slice-ours.result.now c.self.inside.octets.len c.args.self.now = keeps_along c.self.inside.octets.octets c.as_slice-ours.result.now c.self.inside.octets.len c.args.self.now (sym c.as_slice-ours.ensures) k in
    let theirs : Keeps c.as_slice-theirs.result.now c.other.inside.octets.len c.args.other.now = keeps_along c.other.inside.octets.octets c.as_slice-theirs.result.now c.other.inside.octets.len c.args.other.now (sym c.as_slice-theirs.ensures) o in
    same_by_octets c.eq.result c.args.self.now c.args.other.now c.as_slice-ours.result.now c.as_slice-theirs.result.now
    (packs_octets c.as_slice-ours.result.now c.args.self.now c.are_octets.ensures ours.packs)
    (packs_octets c.as_slice-theirs.result.now c.args.other.now c.are_octets-2.ensures theirs.packs)
    (omega (arith, k.size, o.size, c.len.ensures, c.len-2.ensures, c.if-len.false)) c.eq.ensures
