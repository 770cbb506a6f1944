use Rattle.book_judge.proofs.Common.{Bool, List, MatchBool, false, reverse, subst, sym, true, ℕ, ◌≡◌, ◌∙◌, Crossing, Life}
use Rattle.book_judge.specs.Inside.Made.{IsMadeBy}
use Rattle.book_judge.proofs.Crossed.Made.{made_by, partner_unnamed}
use Rattle.book_judge.proofs.lives.is_made.Goals as goal

-- what is said of the crossings is said of the log
said : (life : Life) (until : ℕ) (b : Bool) (crossed log : List Crossing) → crossed ≡ log
    → MatchBool b (IsMadeBy (reverse crossed) until life) (IsMadeBy (reverse crossed) until life → ⊥)
    → MatchBool b (IsMadeBy (reverse log) until life) (IsMadeBy (reverse log) until life → ⊥)
said life until b crossed log is =
    subst (λ (xs : List Crossing). MatchBool b (IsMadeBy (reverse xs) until life) (IsMadeBy (reverse xs) until life → ⊥)) is

pub returns-in_default : goal.returns-in_default
returns-in_default c =
    said c.args.life.now c.args.until false c.crossings-crossed.result.now c.args.log.now c.crossings-crossed.ensures
    (partner_unnamed c.crossings-crossed.result.now c.args.life.now c.args.until
    (sym c.in_default.is-1 ∙ c.partner_named.ensures))

pub returns-then-receives : goal.returns-then-receives
returns-then-receives c =
    said c.args.life.now c.args.until c.is_made_on.result c.crossings-crossed.result.now c.args.log.now
    c.crossings-crossed.ensures
    (made_by c.crossings-crossed.result.now c.args.life.now c.in-Some-Some.own c.in-Some-Some.partner c.args.until true
    c.is_made_on.result (sym c.receives.ensures ∙ c.if-receives.true) (sym c.in-Some-Some.is-0 ∙ c.own_named.ensures)
    (sym c.in-Some-Some.is-1 ∙ c.partner_named.ensures) c.is_made_on.ensures)

pub returns : goal.returns
returns c =
    said c.args.life.now c.args.until c.is_made_on-2.result c.crossings-crossed.result.now c.args.log.now
    c.crossings-crossed.ensures
    (made_by c.crossings-crossed.result.now c.args.life.now c.in-Some-Some.own c.in-Some-Some.partner c.args.until false
    c.is_made_on-2.result (sym c.receives.ensures ∙ c.if-receives.false) (sym c.in-Some-Some.is-0 ∙ c.own_named.ensures)
    (sym c.in-Some-Some.is-1 ∙ c.partner_named.ensures) c.is_made_on-2.ensures)
