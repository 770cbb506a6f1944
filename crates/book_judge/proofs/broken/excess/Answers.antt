use Rattle.book_judge.proofs.Common.{◌∙◌, ℕ, List, Option, ap, length, reverse, subst, sym, Crossing, FoundFirst}
use Rattle.book_judge.specs.Inside.Allocations.{AreAllocations}
use Rattle.book_judge.proofs.Crossed.Granted.{Both, found_both, grants_none, grants_some}
use Rattle.book_judge.proofs.broken.excess.Goals as goal

pub with_match-requires : goal.with_match-requires
with_match-requires c = (
  (found_both c.args.log.now c.args.names.now c.args.lives.now c.args.starts.now c.requires.named c.requires.started
      c.excess_at-taken.result c.beyond_at-sent.result _ (sym c.in-Some.is ∙ c.first_of.ensures) c.excess_at-taken.ensures
      (c.beyond_at-sent.ensures c.args.log.now
      (subst (λ (cs : List Crossing). AreAllocations cs c.in_ok-allocations.allocations) c.crossings-crossed.ensures c.in_ok-allocations.ensures)
      (ap (λ (cs : List Crossing). length cs) c.crossings-crossed.ensures))).0,
  c.requires.named.counts,
)

pub returns-in-Some : goal.returns-in-Some
returns-in-Some c =
    grants_some c.args.log.now c.args.names.now c.args.lives.now c.args.starts.now c.requires.named c.requires.started
    c.in-Some.place c.with_match.result
    (found_both c.args.log.now c.args.names.now c.args.lives.now c.args.starts.now c.requires.named c.requires.started
    c.excess_at-taken.result c.beyond_at-sent.result _ (sym c.in-Some.is ∙ c.first_of.ensures) c.excess_at-taken.ensures
    (c.beyond_at-sent.ensures c.args.log.now
    (subst (λ (cs : List Crossing). AreAllocations cs c.in_ok-allocations.allocations) c.crossings-crossed.ensures c.in_ok-allocations.ensures)
    (ap (λ (cs : List Crossing). length cs) c.crossings-crossed.ensures)))
    (c.with_match.ensures (reverse c.args.log.now) c.requires.named)

pub returns : goal.returns
returns c =
    grants_none c.args.log.now c.args.names.now c.args.lives.now c.args.starts.now c.requires.named c.requires.started
    (found_both c.args.log.now c.args.names.now c.args.lives.now c.args.starts.now c.requires.named c.requires.started
    c.excess_at-taken.result c.beyond_at-sent.result _ (sym c.in-None.is ∙ c.first_of.ensures) c.excess_at-taken.ensures
    (c.beyond_at-sent.ensures c.args.log.now
    (subst (λ (cs : List Crossing). AreAllocations cs c.in_ok-allocations.allocations) c.crossings-crossed.ensures c.in_ok-allocations.ensures)
    (ap (λ (cs : List Crossing). length cs) c.crossings-crossed.ensures)))
