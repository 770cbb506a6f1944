use Rattle.std.proofs.Common.{◌≡◌, ◌-◌, ◌%◌, sym, subst, arith, refl, false, nat_lt, length}
use Rattle.std.proofs.lemmas.Bool.{le-ltb}
use Rattle.bit_messages.specs.Body.{body}
use Rattle.bit_messages.specs.Store.{Stored}
use Rattle.bit_messages.proofs.PackedLemmas.{keeps, KeepsIn, keeps_packed, keeps_view, pad_keeps}
use Rattle.bit_messages.proofs.bits.Bits.pad16.Goals as goal

pub invariant_of-result : goal.invariant_of-result
invariant_of-result c =
    let k : KeepsIn c.self.inside.octets c.args.self.now = keeps _ _ _ c.self.invariant c.self.view_is in
    let o : KeepsIn c.in_ok-octets.octets c.args.self.now = subst (λ (s : Stored). KeepsIn s c.args.self.now) (sym c.in_ok-octets.ensures.same) k in
    let n : KeepsIn c.put_mark.new.octets (body c.args.self.now) =
    pad_keeps c.in_ok-octets.octets.octets c.put_mark.new.octets.octets c.in_ok-octets.octets.len (16 - c.len-len.result % 16) c.put_mark.new.octets.len c.args.self.now o
    (omega (arith, o.size, c.len-len.ensures)) c.in_ok-put_mark.ensures.ok c.in_ok-put_mark.ensures.len in
    keeps_packed _ _ _ n

pub returns : goal.returns
returns c =
    let k : KeepsIn c.self.inside.octets c.args.self.now = keeps _ _ _ c.self.invariant c.self.view_is in
    let o : KeepsIn c.in_ok-octets.octets c.args.self.now = subst (λ (s : Stored). KeepsIn s c.args.self.now) (sym c.in_ok-octets.ensures.same) k in
    let n : KeepsIn c.put_mark.new.octets (body c.args.self.now) =
    pad_keeps c.in_ok-octets.octets.octets c.put_mark.new.octets.octets c.in_ok-octets.octets.len (16 - c.len-len.result % 16) c.put_mark.new.octets.len c.args.self.now o
    (omega (arith, o.size, c.len-len.ensures)) c.in_ok-put_mark.ensures.ok c.in_ok-put_mark.ensures.len in
    let short : nat_lt 8063 (length c.args.self.now) ≡ false = le-ltb 8063 (length c.args.self.now) (omega (arith, c.len-len.ensures, c.if-len-gt-MAX_TEXT_BITS.false)) in
    record { decided = (rw short refl, keeps_view _ _ _ n) }
