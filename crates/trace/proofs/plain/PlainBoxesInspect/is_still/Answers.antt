use Rattle.trace.proofs.Changes.Reached.{none_keeps}
use Rattle.trace.proofs.plain.PlainBoxesInspect.is_still.Goals as goal

pub returns : goal.returns
returns c = λ known new t. none_keeps c.args.self.now new c.args._host.now t
