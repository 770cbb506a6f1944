use Rattle.std.proofs.Common.{sym, ◌∙◌, length}
use Rattle.book_judge.proofs.Crossed.Arrivals.{steady_more, steady_none}
use Rattle.book_judge.proofs.arrivals.since_of.Goals as goal

pub returns-then-number-eq0 : goal.returns-then-number-eq0
returns-then-number-eq0 c = λ log joined are. steady_none c.args.flow.now log c.args.number c.args.sent

pub returns-in-Some : goal.returns-in-Some
returns-in-Some c = λ log joined are.
    rw c.risen.ensures
    (steady_more c.args.flow.now log c.args.arrivals.now c.args.number c.args.sent (length c.args.arrivals.now)
    c.place.result c.in-Some.last (sym c.in-Some.is ∙ c.found_in.ensures) (c.place.ensures _ log joined) are)

pub returns-in-None : goal.returns-in-None
returns-in-None c = λ log joined are. steady_none c.args.flow.now log c.args.number c.args.sent
