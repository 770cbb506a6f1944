use Rattle.book_judge.proofs.Common.{◌∙◌}
use Rattle.book_judge.proofs.Crossed.Streamed.{past_end, piece_there}
use Rattle.book_judge.proofs.Crossed.Supplies.{since_past, since_there, since_unknown}
use Rattle.book_judge.proofs.allocations.Allocations.since.Goals as goal

pub returns-in-Some-get : goal.returns-in-Some-get
returns-in-Some-get c = λ log a.
    since_there log c.args.self.now c.args.flow.now c.get.result c.in-Some.number c.args.from c.in-Some-get.supply.now c.since.result a
    c.get.ensures c.in-Some.is
    (piece_there c.args.self.now.supplies.items c.deref.result.now c.in-Some.number c.in-Some-get.supply.now c.deref.ensures.value
    c.in-Some-get.ensures.lookup.0 c.in-Some-get.ensures.lookup.1) c.since.ensures

pub returns-in-None-get : goal.returns-in-None-get
returns-in-None-get c = λ log a.
    absurd (since_past log c.args.self.now c.args.flow.now c.get.result c.in-Some.number a c.get.ensures c.in-Some.is
    (past_end c.args.self.now.supplies.items c.deref.result.now c.in-Some.number c.deref.ensures.value c.in-None-get.ensures.lookup.0))

pub returns-in-None : goal.returns-in-None
returns-in-None c = λ log a.
    c.nothing-in-None.ensures
    ∙ since_unknown log c.args.self.now c.args.flow.now c.get.result c.args.from a c.get.ensures c.in-None.is
