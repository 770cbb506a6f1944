use Rattle.std.proofs.Common.{◌≡◌, ◌<◌, ap, arith, [], length}
use Rattle.bit_messages.proofs.PackedLemmas.{keeps, KeepsIn, some_bits, match_err}
use Rattle.bit_messages.proofs.bits.BitsClone.clone.Goals as goal

pub returns-in_err-copied : goal.returns-in_err-copied
returns-in_err-copied c =
    let k : KeepsIn c.self.inside.octets c.args.self.now = keeps _ _ _ c.self.invariant c.self.view_is in
    let some : 0 < length c.args.self.now = omega (arith, k.size, some_bits c.self.inside.octets.octets c.self.inside.octets.len c.self.invariant c.in_err-copied.ensures.memory) in
    let other : c.args.self.now ≡ [] → ⊥ = λ e. absurd (omega (arith, some, ap length e)) in
    record { cases = match_err _ _ c.from_residual.result c.from_residual.ensures.0 (λ _. other) }
