use Rattle.book_judge.proofs.Crossed.Supplies.{none_held}
use Rattle.book_judge.proofs.allocations.Allocations.new.Goals as goal

pub returns : goal.returns
returns c = λ place. none_held place _ c.new.ensures
