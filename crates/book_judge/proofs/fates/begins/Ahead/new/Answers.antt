use Rattle.book_judge.proofs.Ends.Ahead.{ahead_first}
use Rattle.book_judge.proofs.fates.begins.Ahead.new.Goals as goal

pub returns : goal.returns
returns c =
    ahead_first c.new.result c.new-2.result c.new-3.result c.new-4.result c.new.ensures c.new-2.ensures
    c.new-3.ensures c.new-4.ensures
