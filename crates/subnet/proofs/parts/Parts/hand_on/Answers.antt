use Rattle.subnet.proofs.Common.{ℕ, ap, sym, ◌∙◌, port_of}
use Rattle.subnet.proofs.Calls.Taken.{handed_ok, handed_grows}
use Rattle.subnet.proofs.parts.Parts.hand_on.Goals as goal

pub returns-clause-ok : goal.returns-clause-ok
returns-clause-ok c =
    handed_ok c.come_in.result c.args.self.now c.take_first-frame.new.self c.come_in.new.self c.args.line c.far_end-imp.result c.far_port-port.result c.args.direction c.take_first-frame.result c.take_first-frame.ensures.state c.take_first-frame.ensures.frame c.far_end-imp.ensures (c.far_port-port.ensures ∙ ap (λ (j : ℕ). port_of c.args.self.now.lines j c.args.line) (sym c.far_end-imp.ensures)) c.requires.some c.come_in.ensures.ok

pub returns-clause-memory : goal.returns-clause-memory
returns-clause-memory c =
    handed_grows c.come_in.result c.args.self.now c.take_first-frame.new.self c.args.line c.far_end-imp.result c.far_port-port.result c.args.direction c.take_first-frame.result c.take_first-frame.ensures.state c.take_first-frame.ensures.frame c.far_end-imp.ensures (c.far_port-port.ensures ∙ ap (λ (j : ℕ). port_of c.args.self.now.lines j c.args.line) (sym c.far_end-imp.ensures)) c.come_in.ensures.memory
