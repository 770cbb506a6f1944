use Rattle.world_replay.proofs.Common.{subst, Appends, ended_line}
use Rattle.promise.specs.declared.life.Life.{Life}
use Rattle.replay.proofs.lemmas.{text_more}
use Rattle.world_replay.specs.Printed.{life_text}
use Rattle.world_replay.proofs.print.print_lives.Goals as goal

pub loop-life-preserved : goal.loop-life-preserved
loop-life-preserved g c = (
  text_more life_text c.args.lives.now c.loop-life.life-index c.life-item.result (g.W.Output.contents c.args.writer.now) (g.W.Output.contents c.loop-life.writer) (g.W.Output.contents c.print_life.new.writer)
      c.loop-life-test.true c.loop-life.invariant.0
      (subst (λ (x : Life). Appends (g.W.Output.contents c.loop-life.writer) (g.W.Output.contents c.print_life.new.writer) (ended_line (life_text x))) c.life-item.is c.in_ok-print_life.ensures.written),
  c.in_ok-print_life.ensures.failed,
)
