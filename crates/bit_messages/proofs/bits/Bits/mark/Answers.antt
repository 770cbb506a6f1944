use Rattle.std.proofs.Common.{ap, sym, arith, length}
use Rattle.bit_messages.proofs.PackedLemmas.{keeps, Keeps, KeepsIn, keeps_along, packs_size, strip_marked, strip_unmarked, IsMarked, if_some}
use Rattle.bit_messages.proofs.bits.Bits.mark.Goals as goal

pub last_one-requires : goal.last_one-requires
last_one-requires c =
    let k : KeepsIn c.self.inside.octets c.args.self.now = keeps _ _ _ c.self.invariant c.self.view_is in
    record { few = omega (arith, k.size, packs_size c.self.inside.octets.octets c.args.self.now k.packs, k.packs.few, ap length c.as_slice.ensures, c.len.ensures) }

pub returns-clause-none : goal.returns-clause-none
returns-clause-none c =
    let k : KeepsIn c.self.inside.octets c.args.self.now = keeps _ _ _ c.self.invariant c.self.view_is in
    let o : Keeps c.as_slice.result.now c.self.inside.octets.len c.args.self.now = keeps_along c.self.inside.octets.octets c.as_slice.result.now c.self.inside.octets.len c.args.self.now (sym c.as_slice.ensures) k in
    λ e. strip_unmarked c.as_slice.result.now c.self.inside.octets.len c.args.self.now o (c.last_one.ensures.none e)

pub returns-clause-some : goal.returns-clause-some
returns-clause-some c =
    let k : KeepsIn c.self.inside.octets c.args.self.now = keeps _ _ _ c.self.invariant c.self.view_is in
    let o : Keeps c.as_slice.result.now c.self.inside.octets.len c.args.self.now = keeps_along c.self.inside.octets.octets c.as_slice.result.now c.self.inside.octets.len c.args.self.now (sym c.as_slice.ensures) k in
    if_some _ _ c.last_one.result c.last_one.ensures.some
    (λ m h. let s : IsMarked m c.args.self.now = strip_marked c.as_slice.result.now c.self.inside.octets.len m c.args.self.now o h.0 h.1 h.2 in (s.marked, s.there, s.text))
