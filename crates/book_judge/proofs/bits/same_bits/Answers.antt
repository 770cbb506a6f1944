use Rattle.std.proofs.Common.{rules}
use Rattle.book_judge.proofs.FirstLives.Lost.{same_by_prefix}
use Rattle.book_judge.proofs.bits.same_bits.Goals as goal

pub returns : goal.returns
returns c = same_by_prefix c.is_prefix.result c.args.bits.now c.args.other.now (search rules) c.is_prefix.ensures
