use Rattle.world_replay.proofs.Common.{sym, subst, ◌∙◌, ap, take_all, Appends, text_of, crossing_line}
use Rattle.world_replay.proofs.News.{crossings_text}
use Rattle.world_replay.proofs.print.print_crossings.Goals as goal

pub returns-clause-written : goal.returns-clause-written
returns-clause-written g c =
    subst (Appends (g.W.Output.contents c.args.writer.now) (g.W.Output.contents c.loop-crossing.writer))
    (ap (text_of (crossing_line c.args.detail)) (take_all c.loop-crossing.crossing-index c.args.crossings.now c.loop-crossing-test.false) ∙ sym (crossings_text c.args.detail c.args.crossings.now)) c.loop-crossing.invariant.0
