use Rattle.trace.proofs.Common.{◌≡◌, ℕ, zero, suc, true, false, [], ◌∷◌, arith, refl, sym, ap, subst, ◌∙◌, is_lt, FlowPart}
use Rattle.std.specs.Fmt.{digits}
use Rattle.std.specs.List.Sorted.{IsStrictlySortedBy}
use Rattle.trace.specs.Changes.{IsLostAt, is_there}
use Rattle.trace.specs.Worked.{known}
use Rattle.trace.proofs.Changes.FlowLaws.{only_one}
use Rattle.trace.proofs.worked.worked_flows.Goals as goal

pub returns-clause-told : goal.returns-clause-told
unfolding digits
returns-clause-told c = refl

pub returns-clause-kept : goal.returns-clause-kept
unfolding digits
returns-clause-kept c = refl

pub returns-clause-new : goal.returns-clause-new
unfolding digits
returns-clause-new c = refl

pub returns-clause-other : goal.returns-clause-other
unfolding digits
returns-clause-other c = refl

pub returns-clause-state : goal.returns-clause-state
unfolding digits
returns-clause-state c = refl

pub returns-clause-gone : goal.returns-clause-gone
unfolding digits
returns-clause-gone c = refl

pub returns-clause-same : goal.returns-clause-same
unfolding digits
returns-clause-same c = refl

pub returns-clause-order : goal.returns-clause-order
unfolding digits
returns-clause-order c = refl

pub returns-clause-sides : goal.returns-clause-sides
unfolding digits
returns-clause-sides c = refl

pub returns-clause-lists : goal.returns-clause-lists
unfolding digits
returns-clause-lists c = refl

pub returns-clause-all : goal.returns-clause-all
unfolding digits
returns-clause-all c = refl

pub returns-clause-after : goal.returns-clause-after
unfolding digits
returns-clause-after c = refl

pub returns-clause-null : goal.returns-clause-null
returns-clause-null c = record {
  place = 0;
  flow = known;
  lost = record { within = omega arith; was = (0, omega arith, refl); none = refl };
  null = refl;
}

-- the only flow of the only list is there
not_lost : (place : ℕ) (p : FlowPart) → IsLostAt ((known ∷ []) ∷ []) ((record known { number = 8 } ∷ []) ∷ []) place p
    → ⊥
not_lost zero p lost =
    let there : is_there (record known { number = 8 } ∷ []) p ≡ true =
    subst (λ (q : FlowPart). is_there (record known { number = 8 } ∷ []) q ≡ true) (only_one known p lost.was) refl in
    let two : true ≡ false = sym there ∙ lost.none in cc
not_lost (suc place) p lost = absurd (omega (arith, lost.within))

pub returns-clause-no_null : goal.returns-clause-no_null
returns-clause-no_null c = λ g. not_lost g.place g.flow g.lost

pub returns-clause-rise : goal.returns-clause-rise
unfolding IsStrictlySortedBy
returns-clause-rise c = ((refl, (refl, tt)), ((refl, tt), (tt, tt)))

pub returns-clause-fall : goal.returns-clause-fall
unfolding IsStrictlySortedBy
returns-clause-fall c = (λ r. let two : false ≡ true = ap is_lt r.0.0 in cc, refl)

pub returns-clause-twice : goal.returns-clause-twice
unfolding IsStrictlySortedBy
returns-clause-twice c = (λ r. let two : false ≡ true = ap is_lt r.0.0 in cc, refl)
