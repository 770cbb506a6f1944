use Rattle.std.proofs.Common.{◌∙◌}
use Rattle.bit_messages.proofs.PackedLemmas.{keeps, KeepsIn}
use Rattle.bit_messages.proofs.bits.Bits.len.Goals as goal

pub returns : goal.returns
returns c =
    let k : KeepsIn c.self.inside.octets c.args.self.now = keeps _ _ _ c.self.invariant c.self.view_is in
    c.len.ensures ∙ k.size
