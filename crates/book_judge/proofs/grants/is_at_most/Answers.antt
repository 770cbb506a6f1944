use Rattle.book_judge.proofs.Common.{◌<◌, arith}
use Rattle.book_judge.proofs.Crossed.Granted.{at_most}
use Rattle.book_judge.proofs.grants.is_at_most.Goals as goal

pub returns : goal.returns
returns c = λ all e.
    (let small : c.args.used < 340282366920938463463374607431768211456 = c.ranges.used.fits in
    at_most c.args.used c.args.most all 340282366920938463463374607431768211455 (omega (arith, small)) e)
