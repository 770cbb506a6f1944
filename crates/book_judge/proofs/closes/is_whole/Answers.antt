use Rattle.book_judge.specs.Inside.Chains.{ClosedAt, HasTaken}
use Rattle.book_judge.proofs.Elements.{when_true}
use Rattle.book_judge.proofs.FirstLives.Lost.{again_taken, closed_by, closed_here, earlier_closed}
use Rattle.book_judge.proofs.FirstLives.Shown.{earlier_all}
use Rattle.book_judge.proofs.closes.is_whole.Goals as goal

pub returns-then-is_again : goal.returns-then-is_again
returns-then-is_again c =
    let earlier : ClosedAt c.args.names.now c.args.lives.now c.args.handed.now c.args.fates.now c.in-Some.earlier =
    earlier_closed c.args.names.now c.args.lives.now c.args.handed.now c.args.fates.now c.found_at.result c.in-Some.earlier c.in-Some.is
    (earlier_all (ClosedAt c.args.names.now c.args.lives.now c.args.handed.now c.args.fates.now) c.args.lives.now c.args.before.now c.args.last.now c.args.place c.index-lives-place.result c.found_at.result
    c.requires.place c.index-lives-place.is c.requires.chained c.found_at.ensures c.requires.earlier) in
    let has : HasTaken c.index-names-place.result c.index-lives-place.result c.args.names.now c.args.lives.now c.args.handed.now =
    again_taken c.index-names-place.result c.index-lives-place.result c.args.names.now c.args.lives.now c.args.handed.now c.args.fates.now c.in-Some.earlier c.if-is_again.ensures earlier in
    closed_here c.args.names.now c.args.lives.now c.args.handed.now c.args.fates.now c.args.place c.index-names-place.result c.index-lives-place.result c.requires.place c.requires.counts
    c.index-names-place.is c.index-lives-place.is has

pub returns : goal.returns
returns c = closed_by c.has_taken.result c.args.names.now c.args.lives.now c.args.handed.now c.args.fates.now c.args.place c.index-names-place.result c.index-lives-place.result c.requires.place c.requires.counts
    c.index-names-place.is c.index-lives-place.is (when_true _ _ c.is_ended.result c.is_ended.ensures c.if-not-is_ended.false) c.has_taken.ensures
