use Rattle.std.proofs.Common.{◌≡◌, Bool, not, sym, ◌∙◌, subst}
use Rattle.std.specs.Bool.{OnFalse}
use Rattle.trace.proofs.Rounds.Same.{if_apart, if_same, not_same}
use Rattle.trace.proofs.events.are_same.Goals as goal

pub returns-then-not-have_changed-clause-same : goal.returns-then-not-have_changed-clause-same
returns-then-not-have_changed-clause-same c =
    if_same c.have_changed-then-not-have_changed.result c.args.one.now c.args.other.now
    (sym c.have_changed.ensures ∙ c.if-not-have_changed.true) c.have_changed-then-not-have_changed.ensures

pub returns-then-not-have_changed-clause-apart : goal.returns-then-not-have_changed-clause-apart
returns-then-not-have_changed-clause-apart c =
    if_apart c.have_changed-then-not-have_changed.result c.args.one.now c.args.other.now
    c.have_changed-then-not-have_changed.ensures

pub returns-else-not-have_changed-clause-apart : goal.returns-else-not-have_changed-clause-apart
returns-else-not-have_changed-clause-apart c =
    subst (λ (some : Bool). OnFalse (not some) (c.args.one.now ≡ c.args.other.now → ⊥))
    (sym c.if-not-have_changed.false)
    (not_same c.args.one.now c.args.other.now (sym c.have_changed.ensures ∙ c.if-not-have_changed.false))
