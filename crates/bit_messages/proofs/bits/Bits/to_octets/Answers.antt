use Rattle.std.proofs.Common.{ap, length, subst, ◌<◌, ℕ}
use Rattle.bit_messages.proofs.OctetLemmas.{some_octets}
use Rattle.bit_messages.proofs.bits.Bits.to_octets.Goals as goal

pub returns-in_err-copied-clause-memory : goal.returns-in_err-copied-clause-memory
returns-in_err-copied-clause-memory c =
    let P : ℕ → Type 0 = λ n. 0 < n in
    λ _. some_octets c.args.self.now (subst P (ap length c.as_octets.ensures) c.in_err-copied.ensures.memory)
