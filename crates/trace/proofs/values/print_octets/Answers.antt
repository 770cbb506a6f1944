use Rattle.trace.proofs.Common.{◌≡◌, ◌∷◌, ◌++◌, ℕ, List, [], length, ap, subst, sym, ◌∙◌, Appends, on_ok}
use Rattle.trace.proofs.Printed.{no_octets}
use Rattle.trace.proofs.values.print_octets.Goals as goal

pub returns-then-len-eq0-clause-written : goal.returns-then-len-eq0-clause-written
returns-then-len-eq0-clause-written g c =
    let none : length c.args.bits.now ≡ 0 = sym c.len.ensures ∙ c.if-len-eq0.true in
    on_ok c.write_all.result
    (λ end. subst (Appends (g.W.Output.contents c.args.writer.now) (g.W.Output.contents c.write_all.new.self)) (ap (λ (zs : List ℕ). 34 ∷ (zs ++ 34 ∷ [])) (sym (no_octets c.args.bits.now none))) end)
    c.write_all.ensures.written
