use Rattle.std.proofs.Common.{rules, refl}
use Rattle.host_pairs.proofs.IndexLemmas.{removed}
use Rattle.host_pairs.proofs.index.Index.remove.Goals as goal

pub returns : goal.returns
returns c = λ es e lt read first second h.
    removed c.args.self.now _ c.args.own c.args.foreign c.args.at e es (λ q far. c.remove.ensures.updates.2 q (search rules)) (λ there. search rules) refl lt read first second h
