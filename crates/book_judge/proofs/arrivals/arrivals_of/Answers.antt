use Rattle.book_judge.proofs.Common.{Crossing, List, ap, arith, length, ◌≡◌}
use Rattle.book_judge.proofs.Crossed.Arrivals.{all_arrivals, arrivals_more, arrivals_none}
use Rattle.book_judge.proofs.arrivals.arrivals_of.Goals as goal

pub loop-place-init : goal.loop-place-init
loop-place-init c = (arrivals_none c.new-arrivals.result.items c.args.log.now c.new-arrivals.ensures.items, omega arith)

pub loop-place-preserved : goal.loop-place-preserved
loop-place-preserved c = let long : length c.crossings-crossed.result.now ≡ length c.args.log.now = ap (λ (xs : List Crossing). length xs) c.crossings-crossed.ensures in (
  arrivals_more c.loop-place.place c.loop-place.arrivals.items c.push.new.self.items c.args.log.now
      c.arrival_at-arrival.result c.in_ok-push.ensures.items c.arrival_at-arrival.ensures c.loop-place.invariant.0,
  omega (arith, c.loop-place-test.true, long),
)

pub returns : goal.returns
returns c =
    let long : length c.crossings-crossed.result.now ≡ length c.args.log.now =
    ap (λ (xs : List Crossing). length xs) c.crossings-crossed.ensures in
    all_arrivals c.loop-place.place c.loop-place.arrivals.items c.args.log.now
    (omega (arith, c.loop-place-test.false, long))
    c.loop-place.invariant.1 c.loop-place.invariant.0
