use Rattle.book_judge.proofs.Common.{◌∙◌, MatchBool, Option, Start, ap, subst, sym}
use Rattle.promise.specs.declared.life.Amount.{Amount}
use Rattle.book_judge.specs.Inside.Allocations.{IsWithinOn}
use Rattle.book_judge.proofs.Crossed.Granted.{receiving_within, sending_other, within_fails, within_told}
use Rattle.book_judge.proofs.grants.is_within.Goals as goal

pub returns-in_default : goal.returns-in_default
returns-in_default c = λ log a all. subst (λ (o : Option Start). IsWithinOn log c.args.life.now o) (sym c.in_default.is) tt

pub returns-then-receives : goal.returns-then-receives
returns-then-receives c = λ log a all.
    subst (λ (o : Option Start). IsWithinOn log c.args.life.now o) (sym c.in-Some.is)
    (receiving_within log c.args.life.now c.in-Some.start (sym c.receives.ensures ∙ c.if-receives.true))

pub returns-then-not-is_at_most : goal.returns-then-not-is_at_most
returns-then-not-is_at_most c = λ log a all.
    (let sending = sending_other c.args.life.now (sym c.receives.ensures ∙ c.if-receives.false) in
    let most = c.granted_to-most.ensures log a all sending in
    subst (λ (o : Option Start). IsWithinOn log c.args.life.now o → ⊥) (sym c.in-Some.is)
    (within_fails log c.args.life.now c.in-Some.start sending
    (sym (c.is_at_most.ensures _ (ap (λ (m : Amount). m.messages) most)) ∙ c.if-not-is_at_most.true)))

pub returns : goal.returns
returns c = λ log a all.
    (let sending = sending_other c.args.life.now (sym c.receives.ensures ∙ c.if-receives.false) in
    let most = c.granted_to-most.ensures log a all sending in
    subst (λ (o : Option Start). MatchBool c.is_at_most-2.result (IsWithinOn log c.args.life.now o) (IsWithinOn log c.args.life.now o → ⊥)) (sym c.in-Some.is)
    (within_told log c.args.life.now c.in-Some.start c.is_at_most-2.result c.len.result sending c.len.ensures
    (sym (c.is_at_most.ensures _ (ap (λ (m : Amount). m.messages) most)) ∙ c.if-not-is_at_most.false)
    (c.is_at_most-2.ensures _ (ap (λ (m : Amount). m.bits) most))))
