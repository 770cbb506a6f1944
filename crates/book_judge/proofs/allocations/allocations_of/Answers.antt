use Rattle.book_judge.proofs.Common.{◌≡◌, ◌≤◌, ◌<◌, ◌-◌, ℕ, arith, drop, length, subst}
use Rattle.book_judge.specs.Inside.Allocations.{AreHeld, by_log}
use Rattle.book_judge.proofs.Crossed.Supplies.{held_before, log_next, log_start}
use Rattle.book_judge.proofs.allocations.allocations_of.Goals as goal

pub places-init : goal.places-init
places-init c = (
  omega arith,
  log_start (length c.args.log.now) c.args.log.now c.new-allocations.result (omega arith) c.new-allocations.ensures,
)

pub add_crossing-requires : goal.add_crossing-requires
add_crossing-requires c = held_before c.places.place (c.places.place - 1) c.args.log.now c.places.allocations (omega arith) c.places.invariant.1

pub places-preserved : goal.places-preserved
places-preserved c =
    let low : c.places.place ≤ length c.args.log.now = c.places.invariant.0 in
    let some : 0 < c.places.place = c.places-test.true in (
      omega (arith, low),
      log_next c.places.place (c.places.place - 1) c.args.log.now c.index-log-place.result c.places.allocations c.add_crossing.new.self
          (omega (arith, some)) (omega (arith, low, some)) c.index-log-place.is c.places.invariant.1 c.in_ok-add_crossing.ensures,
    )

pub returns : goal.returns
returns c =
    let none : c.places.place ≡ 0 = omega (arith, c.places-test.false) in
    subst (λ (k : ℕ). AreHeld k (by_log k (drop k c.args.log.now)) c.places.allocations) none c.places.invariant.1
