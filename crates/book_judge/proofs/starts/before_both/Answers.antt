use Rattle.book_judge.proofs.Common.{Bool, List, ap, false, length, subst, sym, take, true, ℕ, ◌≡◌, ◌∙◌, Crossing, Flow, Life, flow_of, receives, texts_by, since}
use Rattle.book_judge.proofs.starts.before_both.Goals as goal

counted : (crossed log : List Crossing) → crossed ≡ log → (x : Life) (link until n : ℕ) (comes : Bool) (f : Flow)
    → receives x ≡ comes → f ≡ flow_of x link → take until crossed ≡ take (since x) crossed
    → n ≡ length (texts_by comes f (take until log))
    → n ≡ length (texts_by (receives x) (flow_of x link) (take (since x) log))
counted crossed log same x link until n comes f kind flow first is =
    is ∙ ap (λ (b : Bool). length (texts_by b f (take until log))) (sym kind)
    ∙ ap (λ (g : Flow). length (texts_by (receives x) g (take until log))) flow
    ∙ ap (λ (xs : List Crossing). length (texts_by (receives x) (flow_of x link) xs))
    (subst (λ (xs : List Crossing). take until xs ≡ take (since x) xs) same first)

pub returns-then-receives : goal.returns-then-receives
returns-then-receives c =
    counted c.crossings-crossed.result.now c.args.log.now c.crossings-crossed.ensures c.args.life.now c.args.link
    c.since-until.result c.between.result true c.flow_of-flow.result (sym c.receives.ensures ∙ c.if-receives.true)
    c.flow_of-flow.ensures c.since-until.ensures.before (c.between.ensures true c.args.log.now c.came.ensures)

pub returns : goal.returns
returns c =
    counted c.crossings-crossed.result.now c.args.log.now c.crossings-crossed.ensures c.args.life.now c.args.link
    c.since-until.result c.between-2.result false c.flow_of-flow.result (sym c.receives.ensures ∙ c.if-receives.false)
    c.flow_of-flow.ensures c.since-until.ensures.before (c.between-2.ensures false c.args.log.now c.went.ensures)
