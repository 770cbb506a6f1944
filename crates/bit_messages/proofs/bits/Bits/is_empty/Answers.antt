use Rattle.std.proofs.Common.{◌∙◌, ap, ℕ, ◌==◌}
use Rattle.bit_messages.proofs.PackedLemmas.{keeps, KeepsIn}
use Rattle.bit_messages.proofs.bits.Bits.is_empty.Goals as goal

pub returns : goal.returns
returns c =
    let k : KeepsIn c.self.inside.octets c.args.self.now = keeps _ _ _ c.self.invariant c.self.view_is in
    ap (λ (n : ℕ). n == 0) (c.len.ensures ∙ k.size)
