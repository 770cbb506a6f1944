use Rattle.book_judge.proofs.Common.{sym, subst, ◌∙◌, [], arith, Mail}
use Rattle.book_judge.proofs.Crossed.Mailboxes.{Agrees, opening_agrees, goes_on, strays, whole_run}
use Rattle.book_judge.proofs.runs.stray_at.Goals as goal

pub loop-place-init : goal.loop-place-init
loop-place-init c = let A : Mail → Type 0 = λ s. Agrees s [] in (subst A (sym c.new-mail.ensures) opening_agrees, tt)

pub returns-then-not-finds : goal.returns-then-not-finds
returns-then-not-finds c =
    strays c.args.log.now c.loop-place.place c.index-log-place.result c.loop-place.mail c.loop-place-test.true c.index-log-place.is
    c.loop-place.invariant.0 c.loop-place.invariant.1 (sym c.finds.ensures ∙ c.if-not-finds.true)

pub loop-place-preserved : goal.loop-place-preserved
loop-place-preserved c =
    goes_on c.args.log.now c.loop-place.place c.index-log-place.result c.loop-place.mail c.cross.new.self c.loop-place-test.true c.index-log-place.is
    c.loop-place.invariant.0 c.loop-place.invariant.1 (sym c.finds.ensures ∙ c.if-not-finds.false) c.in_ok-cross.ensures

pub returns : goal.returns
returns c = whole_run c.args.log.now c.loop-place.place (omega (arith, c.loop-place-test.false)) c.loop-place.invariant.1
