use Rattle.book_judge.proofs.Crossed.Streamed.{joined_none}
use Rattle.book_judge.proofs.joined.Joined.new.Goals as goal

pub returns : goal.returns
returns c = λ comes. joined_none comes _ c.new.ensures
