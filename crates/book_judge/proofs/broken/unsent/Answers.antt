use Rattle.book_judge.proofs.Common.{ℕ, List, Option, length, reverse, subst, sym, Crossing, FoundFirst, AreArrivals, SentAt, Arrival}
use Rattle.book_judge.proofs.Crossed.Counted.{sent_none, sent_some}
use Rattle.book_judge.proofs.broken.unsent.Goals as goal

pub unsent_at-requires-clause-counts : goal.unsent_at-requires-clause-counts
unsent_at-requires-clause-counts c = (c.requires.named.counts, c.requires.started.counts)

pub with_match-requires : goal.with_match-requires
with_match-requires c = (
  (subst (λ (o : Option ℕ). FoundFirst (SentAt c.args.log.now c.args.starts.now c.args.names.now c.args.lives.now) (length c.args.lives.now) o)
      c.in-Some.is (c.unsent_at.ensures c.args.log.now (
        c.came-into.ensures,
        subst (λ (es : List Arrival). AreArrivals (length c.args.log.now) es c.args.log.now) (sym c.deref.ensures.value) c.in_ok-arrivals.ensures,
      ))).0,
  c.requires.named.counts,
)

pub returns-in-Some : goal.returns-in-Some
returns-in-Some c =
    sent_some c.args.log.now c.args.names.now c.args.lives.now c.args.starts.now c.requires.named c.requires.started
    c.in-Some.place c.with_match.result
    (subst (λ (o : Option ℕ). FoundFirst (SentAt c.args.log.now c.args.starts.now c.args.names.now c.args.lives.now) (length c.args.lives.now) o)
    c.in-Some.is (c.unsent_at.ensures c.args.log.now (
      c.came-into.ensures,
      subst (λ (es : List Arrival). AreArrivals (length c.args.log.now) es c.args.log.now) (sym c.deref.ensures.value) c.in_ok-arrivals.ensures,
    )))
    (c.with_match.ensures (reverse c.args.log.now) c.requires.named)

pub returns : goal.returns
returns c =
    sent_none c.args.log.now c.args.names.now c.args.lives.now c.args.starts.now c.requires.named c.requires.started
    (subst (λ (o : Option ℕ). FoundFirst (SentAt c.args.log.now c.args.starts.now c.args.names.now c.args.lives.now) (length c.args.lives.now) o)
    c.in-None.is (c.unsent_at.ensures c.args.log.now (
      c.came-into.ensures,
      subst (λ (es : List Arrival). AreArrivals (length c.args.log.now) es c.args.log.now) (sym c.deref.ensures.value) c.in_ok-arrivals.ensures,
    )))
