use Rattle.std.proofs.Common.{◌++◌, arith, refl, sym}
use Rattle.bit_messages.proofs.PackedLemmas.{keeps, Keeps, KeepsIn, put_keeps, keeps_packed, keeps_view, keeps_along, keeps_as}
use Rattle.bit_messages.proofs.bits.Bits.append.Goals as goal

pub put-requires-clause-more : goal.put-requires-clause-more
put-requires-clause-more c =
    keeps_packed _ _ _ (keeps_as _ _ _ _ c.len.ensures (keeps_along c.other.inside.octets.octets c.as_slice.result.now c.other.inside.octets.len c.args.other.now (sym c.as_slice.ensures) (keeps _ _ _ c.other.invariant c.other.view_is)))

pub returns-in_err-put-clause-memory : goal.returns-in_err-put-clause-memory
returns-in_err-put-clause-memory c =
    λ _. (let k : KeepsIn c.other.inside.octets c.args.other.now = keeps _ _ _ c.other.invariant c.other.view_is in omega (arith, k.size, c.len.ensures, c.in_err-put.ensures.memory))

pub invariant_of-self-2 : goal.invariant_of-self-2
invariant_of-self-2 c =
    let k : KeepsIn c.self.inside.octets c.args.self.now = keeps _ _ _ c.self.invariant c.self.view_is in
    let o : Keeps c.as_slice.result.now c.len.result c.args.other.now =
    keeps_as _ _ _ _ c.len.ensures (keeps_along c.other.inside.octets.octets c.as_slice.result.now c.other.inside.octets.len c.args.other.now (sym c.as_slice.ensures) (keeps _ _ _ c.other.invariant c.other.view_is)) in
    let n : Keeps c.put.new.octets.octets c.put.new.octets.len (c.args.self.now ++ c.args.other.now) =
    put_keeps c.self.inside.octets.octets c.put.new.octets.octets c.as_slice.result.now c.self.inside.octets.len c.len.result c.put.new.octets.len c.args.self.now c.args.other.now k o c.in_ok-put.ensures.ok c.in_ok-put.ensures.len in
    keeps_packed _ _ _ n

pub returns-clause-decided : goal.returns-clause-decided
returns-clause-decided c =
    let k : KeepsIn c.self.inside.octets c.args.self.now = keeps _ _ _ c.self.invariant c.self.view_is in
    let o : Keeps c.as_slice.result.now c.len.result c.args.other.now =
    keeps_as _ _ _ _ c.len.ensures (keeps_along c.other.inside.octets.octets c.as_slice.result.now c.other.inside.octets.len c.args.other.now (sym c.as_slice.ensures) (keeps _ _ _ c.other.invariant c.other.view_is)) in
    let n : Keeps c.put.new.octets.octets c.put.new.octets.len (c.args.self.now ++ c.args.other.now) =
    put_keeps c.self.inside.octets.octets c.put.new.octets.octets c.as_slice.result.now c.self.inside.octets.len c.len.result c.put.new.octets.len c.args.self.now c.args.other.now k o c.in_ok-put.ensures.ok c.in_ok-put.ensures.len in
    (refl, keeps_view _ _ _ n)
