use Rattle.std.proofs.Common.{arith, sym}
use Rattle.book_log.proofs.Printed.{fates_end, pair_valid, pair_written, pairs_end, whole_valid, whole_written}
use Rattle.book_log.proofs.print.print_lives.Goals as goal

pub loop-place-preserved : goal.loop-place-preserved
loop-place-preserved g c = (
  pair_written c.args.lives.now c.args.fates.now c.loop-place.place c.index-lives-place.result c.in-Some.fate (g.W.Output.contents c.args.writer.now) (g.W.Output.contents c.loop-place.writer) (g.W.Output.contents c.print_life.new.writer)
      c.loop-place-test.true c.index-lives-place.is (sym c.in-Some.ensures) c.loop-place.invariant.0 c.in_ok-print_life.ensures.written,
  c.in_ok-print_life.ensures.failed,
  pair_valid c.args.lives.now c.args.fates.now c.loop-place.place c.index-lives-place.result c.in-Some.fate c.loop-place-test.true c.index-lives-place.is (sym c.in-Some.ensures) c.loop-place.invariant.2 c.has_life_ranges.ensures,
)

pub returns-in_default-clause-written : goal.returns-in_default-clause-written
returns-in_default-clause-written g c =
    whole_written c.args.lives.now c.args.fates.now c.loop-place.place (g.W.Output.contents c.args.writer.now) (g.W.Output.contents c.loop-place.writer)
    (fates_end c.args.lives.now c.args.fates.now c.loop-place.place (sym c.in_default.ensures)) c.loop-place.invariant.0

pub returns-in_default-clause-valid : goal.returns-in_default-clause-valid
returns-in_default-clause-valid g c =
    whole_valid c.args.lives.now c.args.fates.now c.loop-place.place (fates_end c.args.lives.now c.args.fates.now c.loop-place.place (sym c.in_default.ensures)) c.loop-place.invariant.2

pub returns-clause-written : goal.returns-clause-written
returns-clause-written g c =
    whole_written c.args.lives.now c.args.fates.now c.loop-place.place (g.W.Output.contents c.args.writer.now) (g.W.Output.contents c.loop-place.writer)
    (pairs_end c.args.lives.now c.args.fates.now c.loop-place.place (omega (arith, c.loop-place-test.false))) c.loop-place.invariant.0

pub returns-clause-valid : goal.returns-clause-valid
returns-clause-valid g c =
    whole_valid c.args.lives.now c.args.fates.now c.loop-place.place (pairs_end c.args.lives.now c.args.fates.now c.loop-place.place (omega (arith, c.loop-place-test.false))) c.loop-place.invariant.2
