use Rattle.book_judge.proofs.Common.{◌≡◌, ◌≤◌, ◌-◌, ◌∙◌, ℕ, List, arith, length, subst, suc}
use Rattle.book_judge.specs.Inside.Allocations.{IsHeldFrom}
use Rattle.book_judge.specs.declared.allocations.Total.{Total}
use Rattle.book_judge.proofs.Crossed.Streamed.{past_end, piece_there}
use Rattle.book_judge.proofs.Crossed.Supplies.{not_none, since_last, since_none}
use Rattle.book_judge.proofs.allocations.Supply.since.Goals as goal

pub returns-then-count-eq0 : goal.returns-then-count-eq0
returns-then-count-eq0 c = λ granted floor h.
    c.nothing.ensures
    ∙ since_none granted floor c.args.from c.held_from-count.result c.args.self.now h
    (subst (λ (ts : List Total). IsHeldFrom ts c.args.from c.held_from-count.result) c.deref.ensures.value c.held_from-count.ensures) c.if-count-eq0.true

pub returns-in-Some : goal.returns-in-Some
returns-in-Some c = λ granted floor h.
    since_last granted floor c.args.from c.held_from-count.result (c.held_from-count.result - 1) c.args.self.now c.in-Some.total.now h
    (subst (λ (ts : List Total). IsHeldFrom ts c.args.from c.held_from-count.result) c.deref.ensures.value c.held_from-count.ensures)
    (not_none c.held_from-count.result c.if-count-eq0.false)
    (piece_there c.args.self.now.totals.items c.deref-2.result.now (c.held_from-count.result - 1) c.in-Some.total.now
    c.deref-2.ensures.value c.in-Some.ensures.lookup.0 c.in-Some.ensures.lookup.1)

pub returns-in-None : goal.returns-in-None
returns-in-None c = λ granted floor h.
    absurd
    (let held : IsHeldFrom c.args.self.now.totals.items c.args.from c.held_from-count.result =
    subst (λ (ts : List Total). IsHeldFrom ts c.args.from c.held_from-count.result) c.deref.ensures.value c.held_from-count.ensures in
    let few : c.held_from-count.result ≤ length c.args.self.now.totals.items = held.within in
    let past : length c.args.self.now.totals.items ≤ c.held_from-count.result - 1 =
    past_end c.args.self.now.totals.items c.deref-2.result.now (c.held_from-count.result - 1) c.deref-2.ensures.value c.in-None.ensures.lookup.0 in
    let some : c.held_from-count.result ≡ suc (c.held_from-count.result - 1) = not_none c.held_from-count.result c.if-count-eq0.false in
    omega (arith, few, past, some))
