use Rattle.book_judge.proofs.Crossed.Arrivals.{arrival_told}
use Rattle.book_judge.proofs.arrivals.arrival_of.Goals as goal

pub returns : goal.returns
returns c = λ log joined are.
    arrival_told c.args.flow.now log c.args.arrivals.now c.args.number c.place.result c.found_in.result
    c.found_in.ensures (c.place.ensures _ log joined) are
