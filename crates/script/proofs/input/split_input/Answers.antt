use Rattle.script.proofs.Common.{false≢true}
use Rattle.std.proofs.Common.{sym, ◌∙◌}
use Rattle.script.proofs.Parts.{pass_line}
use Rattle.script.proofs.input.split_input.Goals as goal

pub lines-preserved : goal.lines-preserved
lines-preserved c = (
  pass_line c.args.input.now c.lines.passed c.in-Some.left c.first_line.result.0.now c.first_line.result.1 (rw c.in-Some.is at c.lines.invariant.0) (λ e. false≢true (sym c.if-is_marker.false ∙ c.is_marker.ensures.1 e)) c.first_line.ensures.lines c.first_line.ensures.whole,
  c.lines.invariant.1,
)
