use Rattle.book_judge.proofs.Common.{ap, sym, ◌∙◌, is_host}
use Rattle.book_judge.specs.Inside.Chains.{is_granted}
use Rattle.book_judge.proofs.FirstLives.Strangers.{of_stranger, toward_sent, toward_taken, with_program}
use Rattle.book_judge.proofs.toward.is_toward.Goals as goal

pub returns-then-own : goal.returns-then-own
returns-then-own c =
    of_stranger (λ h. is_host c.args.strangers.now h) c.args.life.now c.args.handed.now
    (sym c.is_among-own.ensures ∙ c.if-own.true)

pub returns-then-not-peer : goal.returns-then-not-peer
returns-then-not-peer c =
    with_program (λ h. is_host c.args.strangers.now h) c.args.life.now c.args.handed.now
    (sym c.is_among-own.ensures ∙ c.if-own.false) (sym c.is_among-peer.ensures ∙ c.if-not-peer.true)

pub returns-then-receives : goal.returns-then-receives
returns-then-receives c =
    toward_taken (λ h. is_host c.args.strangers.now h) c.args.life.now c.args.handed.now c.is_granted.result
    (sym c.is_among-own.ensures ∙ c.if-own.false) (sym c.is_among-peer.ensures ∙ c.if-not-peer.false)
    (sym c.receives.ensures ∙ c.if-receives.true)
    (c.is_granted.ensures ∙ ap (λ n. is_granted c.args.life.now c.args.life.now.messages n) c.len.ensures)

pub returns : goal.returns
returns c =
    toward_sent (λ h. is_host c.args.strangers.now h) c.args.life.now c.args.handed.now c.is_handed.result
    (sym c.is_among-own.ensures ∙ c.if-own.false) (sym c.is_among-peer.ensures ∙ c.if-not-peer.false)
    (sym c.receives.ensures ∙ c.if-receives.false) c.is_handed.ensures
