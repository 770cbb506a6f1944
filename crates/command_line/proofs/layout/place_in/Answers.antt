use Rattle.std.proofs.Common.{false, subst, sym, ◌∙◌, ◌≤◌, length, ◌+◌, ℕ}
use Rattle.command_line.proofs.Verdicts.Among.{place_found, place_on, place_past, place_small}
use Rattle.command_line.proofs.layout.place_in.Goals as goal

pub loop-at-preserved : goal.loop-at-preserved
loop-at-preserved c =
    place_on c.args.counted.now c.args.place c.loop-at.at c.loop-at.left c.in-Some.next false c.loop-at-test.true
    (sym c.in-Some.is ∙ c.pass_one.ensures) c.loop-at.invariant

pub returns-in_default-clause-same : goal.returns-in_default-clause-same
returns-in_default-clause-same c =
    place_found c.args.counted.now c.args.place c.loop-at.at c.loop-at.left false c.loop-at-test.true
    (sym c.in_default.is ∙ c.pass_one.ensures) c.loop-at.invariant

pub returns-in_default-clause-small : goal.returns-in_default-clause-small
returns-in_default-clause-small c =
    subst (λ (n : ℕ). n ≤ length c.args.counted.now + c.args.place) (sym (returns-in_default-clause-same c))
    (place_small c.args.counted.now c.args.place)

pub returns-clause-same : goal.returns-clause-same
returns-clause-same c =
    place_past c.args.counted.now c.args.place c.loop-at.at c.loop-at.left c.loop-at-test.false c.loop-at.auto.at-end
    c.loop-at.invariant

pub returns-clause-small : goal.returns-clause-small
returns-clause-small c =
    subst (λ (n : ℕ). n ≤ length c.args.counted.now + c.args.place) (sym (returns-clause-same c))
    (place_small c.args.counted.now c.args.place)
