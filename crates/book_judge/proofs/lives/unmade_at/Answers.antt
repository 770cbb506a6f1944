use Rattle.book_judge.proofs.Common.{Crossing, List, ap, arith, length, reverse, ◌∙◌, deeds_in, end_after}
use Rattle.book_judge.proofs.Crossed.Made.{all_made, made_more, made_until, none_yet, unmade_here, until_made}
use Rattle.book_judge.proofs.lives.unmade_at.Goals as goal

pub loop-place-init : goal.loop-place-init
loop-place-init c = none_yet c.args.log.now c.args.lives.now

pub loop-place-preserved : goal.loop-place-preserved
loop-place-preserved c =
    made_more c.args.log.now c.args.lives.now c.loop-place.place c.index-lives-place.result c.loop-place-test.true
    c.index-lives-place.is
    (made_until c.args.log.now c.index-lives-place.result c.end-end.result
    (c.end-end.ensures (deeds_in (reverse c.args.log.now)) c.courses-courses.ensures
    ∙ ap (λ (xs : List Crossing). end_after (length xs) (deeds_in (reverse c.args.log.now)) c.index-lives-place.result) c.crossings-crossed.ensures) c.if-not-is_made.ensures)
    c.loop-place.invariant

pub returns-then-not-is_made : goal.returns-then-not-is_made
returns-then-not-is_made c =
    unmade_here c.args.log.now c.args.lives.now c.loop-place.place c.index-lives-place.result c.loop-place-test.true
    c.index-lives-place.is
    (λ made. c.if-not-is_made.ensures (until_made c.args.log.now c.index-lives-place.result c.end-end.result
    (c.end-end.ensures (deeds_in (reverse c.args.log.now)) c.courses-courses.ensures
    ∙ ap (λ (xs : List Crossing). end_after (length xs) (deeds_in (reverse c.args.log.now)) c.index-lives-place.result) c.crossings-crossed.ensures) made)) c.loop-place.invariant

pub returns : goal.returns
returns c =
    all_made c.args.log.now c.args.lives.now c.loop-place.place (omega (arith, c.loop-place-test.false))
    c.loop-place.invariant
