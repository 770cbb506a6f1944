use Rattle.book_judge.proofs.Crossed.Made.{both_made}
use Rattle.book_judge.proofs.data.is_made_on.Goals as goal

pub returns-then-not-is_first_on : goal.returns-then-not-is_first_on
returns-then-not-is_first_on c = λ is. c.if-not-is_first_on.ensures is.0

pub returns : goal.returns
returns c =
    both_made c.args.log.now c.args.life.now c.args.link c.args.until c.is_counted_on.result
    c.if-not-is_first_on.ensures (c.is_counted_on.ensures c.args.log.now c.requires)
