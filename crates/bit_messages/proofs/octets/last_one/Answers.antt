use Rattle.std.proofs.Common.{◌≡◌, ◌-◌, ◌*◌, ◌<◌, suc, arith, length, subst, ℕ}
use Rattle.bit_messages.specs.Octets.{bits_of}
use Rattle.bit_messages.proofs.OctetLemmas.{length-bits_of}
use Rattle.bit_messages.proofs.BodyLemmas.{HasZerosFrom, marked_none}
use Rattle.bit_messages.proofs.PackedLemmas.{zero_octet, last_one_is}
use Rattle.bit_messages.proofs.octets.last_one.Goals as goal

pub octets-init : goal.octets-init
octets-init c = record { within = omega (arith, length-bits_of c.args.octets.now); zeros = λ k from to. absurd (omega (arith, from, to, length-bits_of c.args.octets.now)) }

pub bounds-octets-end : goal.bounds-octets-end
bounds-octets-end c = omega (arith, c.octets.invariant.within, length-bits_of c.args.octets.now, c.octets-test.true)

pub returns-then-octets-end-ne0-clause-some : goal.returns-then-octets-end-ne0-clause-some
returns-then-octets-end-ne0-clause-some c =
    let there : c.octets.end - 1 < length c.args.octets.now = omega (arith, c.octets.invariant.within, length-bits_of c.args.octets.now, c.octets-test.true) in
    let e : c.octets.end ≡ suc (c.octets.end - 1) = omega (arith, c.octets-test.true) in
    let P : ℕ → Type 0 = λ n. HasZerosFrom (8 * n) (bits_of c.args.octets.now) in
    let h : HasZerosFrom (8 * suc (c.octets.end - 1)) (bits_of c.args.octets.now) = subst P e c.octets.invariant in
    let m = last_one_is c.args.octets.now (c.octets.end - 1) there c.if-octets-end-ne0.true (c.type_inv.octets (c.octets.end - 1)).fits h in
    (m.1.marked, m.0, m.1.text)

pub octets-preserved : goal.octets-preserved
octets-preserved c =
    let there : c.octets.end - 1 < length c.args.octets.now = omega (arith, c.octets.invariant.within, length-bits_of c.args.octets.now, c.octets-test.true) in
    let e : c.octets.end ≡ suc (c.octets.end - 1) = omega (arith, c.octets-test.true) in
    let P : ℕ → Type 0 = λ n. HasZerosFrom (8 * n) (bits_of c.args.octets.now) in
    zero_octet c.args.octets.now (c.octets.end - 1) there c.if-octets-end-ne0.false (subst P e c.octets.invariant)

pub returns-clause-none : goal.returns-clause-none
returns-clause-none c =
    let e : c.octets.end ≡ 0 = omega (arith, c.octets-test.false) in
    let P : ℕ → Type 0 = λ n. HasZerosFrom (8 * n) (bits_of c.args.octets.now) in
    λ _. marked_none (bits_of c.args.octets.now) (subst P e c.octets.invariant)
