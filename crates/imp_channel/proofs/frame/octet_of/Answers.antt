use Rattle.std.proofs.Common.{◌≡◌, arith, ◌∙◌, ap, sym, ℕ, drop}
use Rattle.imp_channel.specs.Format.{bits_of, octet_of}
use Rattle.imp_channel.proofs.FrameLemmas.{octet_of-before, octet_of-fits, octet_of-none, bits_of-octet_of}
use Rattle.imp_channel.proofs.frame.octet_of.Goals as goal

pub loop-c-init : goal.loop-c-init
loop-c-init c = sym (octet_of-none c.args.acks.now 8 (omega (arith, c.told-acks)))

pub overflow_mul-octet : goal.overflow_mul-octet
overflow_mul-octet c = omega (arith, octet_of-fits c.args.acks.now c.loop-c.c c.loop-c-test.true c.loop-c.auto.c c.told-acks, c.loop-c.invariant)

pub overflow_add-octet : goal.overflow_add-octet
overflow_add-octet c = omega (arith, octet_of-fits c.args.acks.now c.loop-c.c c.loop-c-test.true c.loop-c.auto.c c.told-acks, c.loop-c.invariant, c.bit_value.ensures)

pub loop-c-preserved : goal.loop-c-preserved
loop-c-preserved c = omega (arith, octet_of-before c.args.acks.now c.loop-c.c c.loop-c-test.true (omega (arith, c.loop-c.auto.c, c.told-acks)), c.loop-c.invariant, c.bit_value.ensures)

pub returns-clause-again : goal.returns-clause-again
returns-clause-again c =
    let none : c.loop-c.c ≡ 0 = omega (arith, c.loop-c-test.false) in
    ap (λ (n : ℕ). bits_of 8 n) (c.loop-c.invariant ∙ ap (λ (k : ℕ). octet_of (drop k c.args.acks.now)) none)
    ∙ (ap (λ (n : ℕ). bits_of n (octet_of c.args.acks.now)) (sym c.told-acks)
    ∙ bits_of-octet_of c.args.acks.now)
