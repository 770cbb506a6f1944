use Rattle.book_judge.proofs.Common.{ℕ, refl, ap, ◌∙◌, SoughtAt}
use Rattle.book_judge.specs.Inside.Asked.{key}
use Rattle.std.specs.FinMap as map
use Rattle.book_judge.proofs.Elements.{when_false}
use Rattle.book_judge.proofs.Identities.Walks.{sought_keyed, walk_init, walk_on, walk_over, walk_smaller}
use Rattle.book_judge.proofs.sought.is_found.Goals as goal

pub chain-init : goal.chain-init
chain-init c = walk_init (key c.args.asked.now) c.args.lives.now (SoughtAt c.args.sought c.args.asked.now c.args.life.now c.args.names.now c.args.lives.now) c.get-at.result
    c.args.last.now c.args.before.now (sought_keyed c.args.sought c.args.asked.now c.args.life.now c.args.names.now c.args.lives.now (key c.args.asked.now) refl) c.requires
    (c.get-at.ensures ∙ ap (λ (k : ℕ). map.get c.args.last.now k) c.key.ensures)

pub chain-smaller : goal.chain-smaller
chain-smaller c = walk_smaller (key c.args.asked.now) c.in-Some.place c.args.lives.now (SoughtAt c.args.sought c.args.asked.now c.args.life.now c.args.names.now c.args.lives.now)
    c.chain.at c.found_at-at.result c.args.last.now c.args.before.now
    (sought_keyed c.args.sought c.args.asked.now c.args.life.now c.args.names.now c.args.lives.now (key c.args.asked.now) refl) c.requires c.chain.invariant c.in-Some.is
    (when_false _ _ c.is_at.result c.is_at.ensures c.if-is_at.false) c.found_at-at.ensures

pub chain-preserved : goal.chain-preserved
chain-preserved c = walk_on (key c.args.asked.now) c.in-Some.place c.args.lives.now (SoughtAt c.args.sought c.args.asked.now c.args.life.now c.args.names.now c.args.lives.now)
    c.chain.at c.found_at-at.result c.args.last.now c.args.before.now
    (sought_keyed c.args.sought c.args.asked.now c.args.life.now c.args.names.now c.args.lives.now (key c.args.asked.now) refl) c.requires c.chain.invariant c.in-Some.is
    (when_false _ _ c.is_at.result c.is_at.ensures c.if-is_at.false) c.found_at-at.ensures

pub returns : goal.returns
returns c = walk_over (key c.args.asked.now) c.args.lives.now (SoughtAt c.args.sought c.args.asked.now c.args.life.now c.args.names.now c.args.lives.now) c.chain.at
    (sought_keyed c.args.sought c.args.asked.now c.args.life.now c.args.names.now c.args.lives.now (key c.args.asked.now) refl) c.chain.invariant (λ p e. c.in_default.not-Some p e)
