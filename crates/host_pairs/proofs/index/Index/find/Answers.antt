use Rattle.std.proofs.Common.{rules}
use Rattle.host_pairs.proofs.IndexLemmas.{equals, only_there}
use Rattle.host_pairs.proofs.index.Index.find.Goals as goal

pub returns-then-has_at : goal.returns-then-has_at
returns-then-has_at c = λ es h. only_there c.args.self.now c.args.own c.args.foreign c.in-Some.number.now _ es (search rules) c.if-has_at.ensures.0 (c.if-has_at.ensures.1 0) h

pub returns-in-Ok : goal.returns-in-Ok
returns-in-Ok c = λ es h. only_there c.args.self.now c.args.own c.args.foreign c.in-Some.number.now c.in-Ok.at es (search rules) (search rules) (equals _ _ (c.in-Ok.ensures.ok 0)) h
