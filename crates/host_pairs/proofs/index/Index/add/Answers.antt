use Rattle.std.proofs.Common.{rules}
use Rattle.host_pairs.proofs.IndexLemmas.{added}
use Rattle.host_pairs.proofs.index.Index.add.Goals as goal

pub returns : goal.returns
returns c = λ es e first second h.
    added c.args.self.now _ c.args.own c.args.foreign e es (search rules) (λ q far. c.in-Ok-None.ensures.updates.2 q (search rules)) (search rules) (search rules) (search rules) first second h
