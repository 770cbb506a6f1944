use Rattle.subnet.proofs.Common.{ℕ, ap, sym, ◌∙◌, port_of}
use Rattle.subnet.proofs.Calls.Delivering.{brought_ok, bring_grows_on}
use Rattle.subnet.proofs.parts.Parts.bring.Goals as goal

pub returns-in-Some-clause-ok : goal.returns-in-Some-clause-ok
returns-in-Some-clause-ok c =
    brought_ok c.attempt.result c.args.self.now c.attempt.new.self c.args.line c.args.direction c.args.place c.far_end-imp.result c.far_port-port.result c.in-Some.frame (sym c.in_ok-frame.ensures.ok ∙ c.in-Some.is) c.far_end-imp.ensures (c.far_port-port.ensures ∙ ap (λ (j : ℕ). port_of c.args.self.now.lines j c.args.line) (sym c.far_end-imp.ensures)) c.attempt.ensures.ok

pub returns-in-Some-clause-memory : goal.returns-in-Some-clause-memory
returns-in-Some-clause-memory c =
    bring_grows_on c.attempt.result c.args.self.now c.args.line c.args.direction c.args.place c.far_end-imp.result c.far_port-port.result c.in-Some.frame (sym c.in_ok-frame.ensures.ok ∙ c.in-Some.is) c.far_end-imp.ensures (c.far_port-port.ensures ∙ ap (λ (j : ℕ). port_of c.args.self.now.lines j c.args.line) (sym c.far_end-imp.ensures)) c.attempt.ensures.memory
