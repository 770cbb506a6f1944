use Rattle.std.proofs.Common.{sym, ◌∙◌, arith}
use Rattle.book_judge.proofs.Crossed.Taken.{none_noted, noted_all, noted_next, noted_stops}
use Rattle.book_judge.proofs.messages.broken_message.Goals as goal

pub loop-place-init : goal.loop-place-init
loop-place-init c = none_noted c.args.log.now c.new-last.result c.new-last.ensures

pub returns-then-not-finds : goal.returns-then-not-finds
returns-then-not-finds c = noted_stops c.args.log.now c.loop-place.last c.loop-place.place c.index-log-place.result c.loop-place-test.true c.index-log-place.is
    (sym c.finds.ensures ∙ c.if-not-finds.true) c.loop-place.invariant

pub loop-place-preserved : goal.loop-place-preserved
loop-place-preserved c = noted_next c.args.log.now c.loop-place.last c.note.new.last c.loop-place.place c.index-log-place.result c.loop-place-test.true
    c.index-log-place.is (sym c.finds.ensures ∙ c.if-not-finds.false) c.in_ok-note.ensures c.loop-place.invariant

pub returns : goal.returns
returns c = noted_all c.args.log.now c.loop-place.last c.loop-place.place (omega (arith, c.loop-place-test.false)) c.loop-place.invariant
