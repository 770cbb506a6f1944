use Rattle.std.proofs.Common.{◌∙◌, sym}
use Rattle.book_judge.proofs.Crossed.Numbered.{sender_sent, sent_told, unlinked_sent}
use Rattle.book_judge.proofs.sent.is_sent.Goals as goal

pub returns-then-not-receives : goal.returns-then-not-receives
returns-then-not-receives c = λ log arrive.
    sender_sent log c.args.starts.now c.args.names.now c.args.lives.now c.args.place c.index-lives-place.result c.requires.place c.requires.counts
    c.index-lives-place.is (sym c.receives.ensures ∙ c.if-not-receives.true)

pub returns-in-Some : goal.returns-in-Some
returns-in-Some c = λ log arrive.
    sent_told log c.args.starts.now c.args.names.now c.args.lives.now c.args.place c.index-lives-place.result c.requires.place c.requires.counts
    c.index-lives-place.is c.index-names-place.result c.start_at.result c.in-Some.start
    c.all_sent.result (sym c.receives.ensures ∙ c.if-not-receives.false) c.index-names-place.is c.start_at.ensures
    c.in-Some.is (c.all_sent.ensures log arrive)

pub returns-in-None : goal.returns-in-None
returns-in-None c = λ log arrive.
    unlinked_sent log c.args.starts.now c.args.names.now c.args.lives.now c.args.place c.index-lives-place.result c.requires.place c.requires.counts
    c.index-lives-place.is c.start_at.result c.start_at.ensures c.in-None.is
