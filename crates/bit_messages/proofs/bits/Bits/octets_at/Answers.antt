use Rattle.std.proofs.Common.{◌≡◌, ◌+◌, ◌*◌, ◌≤◌, ◌<◌, ◌∙◌, sym, subst, arith, All, List, ℕ, false, nat_lt, length, refl, drop, ap}
use Rattle.std.proofs.lemmas.Bool.{le-ltb}
use Rattle.bit_messages.specs.Octets.{bits_of}
use Rattle.bit_messages.proofs.PackedLemmas.{keeps, Keeps, KeepsIn, keeps_along, part_octets, some_part}
use Rattle.bit_messages.proofs.bits.Bits.octets_at.Goals as goal

pub returns-clause-decided : goal.returns-clause-decided
returns-clause-decided c =
    let k : KeepsIn c.self.inside.octets c.args.self.now = keeps _ _ _ c.self.invariant c.self.view_is in
    let o : Keeps c.as_slice.result.now c.self.inside.octets.len c.args.self.now = keeps_along c.self.inside.octets.octets c.as_slice.result.now c.self.inside.octets.len c.args.self.now (sym c.as_slice.ensures) k in
    let within : c.args.from + 8 * c.args.n ≤ length c.args.self.now = omega (arith, c.len.ensures, c.if-from-len.false, c.len-else-from-len.ensures, c.if-n-len.false) in
    let enough : nat_lt (length c.args.self.now) (c.args.from + 8 * c.args.n) ≡ false = le-ltb (length c.args.self.now) (c.args.from + 8 * c.args.n) within in
    let P : List ℕ → Type 0 = λ ns. All (λ n. n < 256) ns in
    let small : All (λ n. n < 256) c.in_ok-part.part.octets = subst P c.as_slice-octets.ensures c.are_octets.ensures in (
      rw enough refl,
      c.in_ok-copied.ensures.same ∙ c.as_slice-octets.ensures
          ∙ part_octets c.as_slice.result.now c.in_ok-part.part.octets c.self.inside.octets.len c.args.from (8 * c.args.n) c.args.self.now o (omega (arith, within, k.size)) small c.in_ok-part.ensures.packed,
    )

pub returns-in_err-copied-clause-memory : goal.returns-in_err-copied-clause-memory
returns-in_err-copied-clause-memory c =
    λ _. some_part c.in_ok-part.part.octets (drop c.args.from (bits_of c.as_slice.result.now)) c.args.n c.in_ok-part.ensures.packed (omega (arith, c.in_err-copied.ensures.memory, ap length c.as_slice-octets.ensures))
