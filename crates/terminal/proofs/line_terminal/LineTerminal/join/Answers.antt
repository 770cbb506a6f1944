use Rattle.std.proofs.Common.{sym, ◌∙◌}
use Rattle.terminal.proofs.OctetLemmas.{heard_nothing}
use Rattle.terminal.proofs.line_terminal.LineTerminal.join.Goals as goal

pub returns-then-is_empty-clause-lines : goal.returns-then-is_empty-clause-lines
returns-then-is_empty-clause-lines c = rw (c.new.ensures.items) (heard_nothing c.args.self.now c.args.bits.now (rw (← c.self.view_is) c.self.invariant) (sym c.is_empty.ensures ∙ c.if-is_empty.true))
