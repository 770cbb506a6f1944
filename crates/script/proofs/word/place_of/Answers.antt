use Rattle.std.proofs.Common.{arith, ◌+◌}
use Rattle.script.proofs.Short.{one_further}
use Rattle.script.proofs.word.place_of.Goals as goal

pub returns-then-text-at-2-clause-lacks : goal.returns-then-text-at-2-clause-lacks
returns-then-text-at-2-clause-lacks c =
    one_further c.args.separator c.args.text.now c.fours.at (c.fours.at + 1) (omega arith) (omega (arith, c.fours-test.true)) c.fours.invariant.0 c.if-text-at.false

pub returns-then-text-at-3-clause-lacks : goal.returns-then-text-at-3-clause-lacks
returns-then-text-at-3-clause-lacks c =
    one_further c.args.separator c.args.text.now (c.fours.at + 1) (c.fours.at + 2) (omega arith) (omega (arith, c.fours-test.true))
    (one_further c.args.separator c.args.text.now c.fours.at (c.fours.at + 1) (omega arith) (omega (arith, c.fours-test.true)) c.fours.invariant.0 c.if-text-at.false) c.if-text-at-2.false

pub returns-then-text-at-4-clause-lacks : goal.returns-then-text-at-4-clause-lacks
returns-then-text-at-4-clause-lacks c =
    one_further c.args.separator c.args.text.now (c.fours.at + 2) (c.fours.at + 3) (omega arith) (omega (arith, c.fours-test.true))
    (one_further c.args.separator c.args.text.now (c.fours.at + 1) (c.fours.at + 2) (omega arith) (omega (arith, c.fours-test.true))
    (one_further c.args.separator c.args.text.now c.fours.at (c.fours.at + 1) (omega arith) (omega (arith, c.fours-test.true)) c.fours.invariant.0 c.if-text-at.false) c.if-text-at-2.false) c.if-text-at-3.false

pub fours-preserved : goal.fours-preserved
fours-preserved c = (
  one_further c.args.separator c.args.text.now (c.fours.at + 3) (c.fours.at + 4) (omega arith) (omega (arith, c.fours-test.true))
      (one_further c.args.separator c.args.text.now (c.fours.at + 2) (c.fours.at + 3) (omega arith) (omega (arith, c.fours-test.true))
      (one_further c.args.separator c.args.text.now (c.fours.at + 1) (c.fours.at + 2) (omega arith) (omega (arith, c.fours-test.true))
      (one_further c.args.separator c.args.text.now c.fours.at (c.fours.at + 1) (omega arith) (omega (arith, c.fours-test.true)) c.fours.invariant.0 c.if-text-at.false) c.if-text-at-2.false) c.if-text-at-3.false) c.if-text-at-4.false,
  omega (arith, c.fours-test.true),
)

pub rest-preserved : goal.rest-preserved
rest-preserved c = (
  one_further c.args.separator c.args.text.now c.rest.at (c.rest.at + 1) (omega arith) c.rest-test.true c.rest.invariant.0 c.if-text-at-5.true,
  omega (arith, c.rest-test.true),
)
