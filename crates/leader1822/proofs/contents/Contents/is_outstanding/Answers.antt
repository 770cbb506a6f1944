use Rattle.std.proofs.Common.{ap, ◌∙◌}
use Rattle.std.specs.FinMap as map
use Rattle.leader1822.specs.Inside.Held.{Held, is_unanswered}
use Rattle.leader1822.proofs.Index.{outstands}
use Rattle.leader1822.proofs.contents.Contents.is_outstanding.Goals as goal

pub returns : goal.returns
returns c =
    let kept = c.requires.kept in
    c.is_unanswered.ensures ∙ ap is_unanswered (c.get.ensures ∙ ap (λ (h : Held). map.get h.flows c.args.flow.now) c.self.view_is)
    ∙ outstands c.args.self.now c.args.flow.now (kept.indexed c.requires.running) (kept.sound.matches c.requires.running)
