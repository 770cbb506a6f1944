use Rattle.leader1822.proofs.Common.{ap, sym, ◌∙◌, Held}
use Rattle.leader1822.proofs.Resting.{none_waits}
use Rattle.leader1822.proofs.contents.Contents.is_empty.Goals as goal

pub returns : goal.returns
returns c = λ e h. none_waits c.args.self.now h c.requires.kept c.requires.running (ap (λ (x : Held). x.flows) (sym c.self.view_is) ∙ c.is_empty.ensures e)
