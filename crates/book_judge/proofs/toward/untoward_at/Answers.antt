use Rattle.book_judge.proofs.Common.{arith, length, refl, slice_get_read, slice_get_past, is_host}
use Rattle.book_judge.proofs.Crossed.Streamed.{past_end, piece_there}
use Rattle.book_judge.proofs.FirstLives.Strangers.{toward_lists, toward_lives, toward_more, untoward_here}
use Rattle.book_judge.proofs.toward.untoward_at.Goals as goal

pub loop-place-preserved : goal.loop-place-preserved
loop-place-preserved c =
    toward_more (λ h. is_host c.args.strangers.now h) c.loop-place.place c.args.lives.now c.args.handed.now
    c.index-lives-place.result c.in-Some.text.now
    (slice_get_read c.args.lives.now (length c.args.lives.now) c.loop-place.place c.index-lives-place.result refl c.loop-place-test.true c.index-lives-place.is) (piece_there c.args.handed.now c.args.handed.now c.loop-place.place c.in-Some.text.now refl c.in-Some.ensures.lookup.0 c.in-Some.ensures.lookup.1) c.loop-place.invariant c.if-not-is_toward.ensures

pub returns-in_default : goal.returns-in_default
returns-in_default c = toward_lists (λ h. is_host c.args.strangers.now h) c.loop-place.place c.args.lives.now c.args.handed.now (slice_get_past c.args.handed.now c.loop-place.place (past_end c.args.handed.now c.args.handed.now c.loop-place.place refl c.in_default.ensures.lookup.0)) c.loop-place.invariant

pub returns-then-not-is_toward : goal.returns-then-not-is_toward
returns-then-not-is_toward c =
    untoward_here (λ h. is_host c.args.strangers.now h) c.loop-place.place c.args.lives.now c.args.handed.now
    c.index-lives-place.result c.in-Some.text.now
    (slice_get_read c.args.lives.now (length c.args.lives.now) c.loop-place.place c.index-lives-place.result refl c.loop-place-test.true c.index-lives-place.is) (piece_there c.args.handed.now c.args.handed.now c.loop-place.place c.in-Some.text.now refl c.in-Some.ensures.lookup.0 c.in-Some.ensures.lookup.1) c.loop-place.invariant c.if-not-is_toward.ensures

pub returns : goal.returns
returns c =
    toward_lives (λ h. is_host c.args.strangers.now h) c.loop-place.place c.args.lives.now c.args.handed.now
    (omega (arith, c.loop-place-test.false)) c.loop-place.invariant
