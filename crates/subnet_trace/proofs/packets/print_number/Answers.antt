use Rattle.subnet_trace.proofs.Common.{[], ◌∷◌, arith, subst, Appends, on_ok}
use Rattle.subnet_trace.proofs.Printing.{digits_printed, one_digit, two_digits}
use Rattle.subnet_trace.proofs.packets.print_number.Goals as goal

pub returns-then-number-lt10-clause-written : goal.returns-then-number-lt10-clause-written
returns-then-number-lt10-clause-written g c =
    on_ok c.write_all.result
    (λ end. subst (Appends (g.W.Output.contents c.args.writer.now) (g.W.Output.contents c.write_all.new.self))
    (digits_printed c.args.place c.args.imp c.args.number c.octet_before-first.result (c.two_digits-a.result.1 ∷ []) (c.two_digits-c.result.1 ∷ [])
    (one_digit c.args.imp c.two_digits-a.result.1 (omega (arith, c.if-imp-lt10.true)) c.two_digits-a.ensures.ones)
    (one_digit c.args.number c.two_digits-c.result.1 (omega (arith, c.if-number-lt10.true)) c.two_digits-c.ensures.ones) c.octet_before-first.ensures) end)
    c.write_all.ensures.written

pub returns-then-imp-lt10-clause-written : goal.returns-then-imp-lt10-clause-written
returns-then-imp-lt10-clause-written g c =
    on_ok c.write_all-then-imp-lt10.result
    (λ end. subst (Appends (g.W.Output.contents c.args.writer.now) (g.W.Output.contents c.write_all-then-imp-lt10.new.self))
    (digits_printed c.args.place c.args.imp c.args.number c.octet_before-first.result (c.two_digits-a.result.1 ∷ []) (c.two_digits-c.result.0 ∷ c.two_digits-c.result.1 ∷ [])
    (one_digit c.args.imp c.two_digits-a.result.1 (omega (arith, c.if-imp-lt10.true)) c.two_digits-a.ensures.ones)
    (two_digits c.args.number c.two_digits-c.result.0 c.two_digits-c.result.1 (omega (arith, c.if-number-lt10.false)) (omega (arith, c.if-number-ge100.false)) c.two_digits-c.ensures.tens c.two_digits-c.ensures.ones) c.octet_before-first.ensures) end)
    c.write_all-then-imp-lt10.ensures.written

pub returns-then-number-lt10-2-clause-written : goal.returns-then-number-lt10-2-clause-written
returns-then-number-lt10-2-clause-written g c =
    on_ok c.write_all-then-number-lt10-2.result
    (λ end. subst (Appends (g.W.Output.contents c.args.writer.now) (g.W.Output.contents c.write_all-then-number-lt10-2.new.self))
    (digits_printed c.args.place c.args.imp c.args.number c.octet_before-first.result (c.two_digits-a.result.0 ∷ c.two_digits-a.result.1 ∷ []) (c.two_digits-c.result.1 ∷ [])
    (two_digits c.args.imp c.two_digits-a.result.0 c.two_digits-a.result.1 (omega (arith, c.if-imp-lt10.false)) (omega (arith, c.if-imp-ge100.false)) c.two_digits-a.ensures.tens c.two_digits-a.ensures.ones)
    (one_digit c.args.number c.two_digits-c.result.1 (omega (arith, c.if-number-lt10-2.true)) c.two_digits-c.ensures.ones) c.octet_before-first.ensures) end)
    c.write_all-then-number-lt10-2.ensures.written

pub returns-clause-written : goal.returns-clause-written
returns-clause-written g c =
    on_ok c.write_all-2.result
    (λ end. subst (Appends (g.W.Output.contents c.args.writer.now) (g.W.Output.contents c.write_all-2.new.self))
    (digits_printed c.args.place c.args.imp c.args.number c.octet_before-first.result (c.two_digits-a.result.0 ∷ c.two_digits-a.result.1 ∷ []) (c.two_digits-c.result.0 ∷ c.two_digits-c.result.1 ∷ [])
    (two_digits c.args.imp c.two_digits-a.result.0 c.two_digits-a.result.1 (omega (arith, c.if-imp-lt10.false)) (omega (arith, c.if-imp-ge100.false)) c.two_digits-a.ensures.tens c.two_digits-a.ensures.ones)
    (two_digits c.args.number c.two_digits-c.result.0 c.two_digits-c.result.1 (omega (arith, c.if-number-lt10-2.false)) (omega (arith, c.if-number-ge100.false)) c.two_digits-c.ensures.tens c.two_digits-c.ensures.ones) c.octet_before-first.ensures) end)
    c.write_all-2.ensures.written
