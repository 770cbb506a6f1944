use Rattle.leader1822.proofs.Common.{ap, ◌∙◌, is_some, Held}
use Rattle.std.specs.FinMap as map
use Rattle.leader1822.proofs.Index.{busy}
use Rattle.leader1822.proofs.contents.Contents.is_busy.Goals as goal

pub returns : goal.returns
returns c =
    c.is_some.ensures ∙ ap is_some (c.get.ensures ∙ ap (λ (h : Held). map.get h.flows c.args.flow.now) c.self.view_is) ∙ busy c.args.self.now c.args.flow.now c.requires
