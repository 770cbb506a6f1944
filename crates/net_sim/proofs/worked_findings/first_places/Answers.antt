use Rattle.net_sim.proofs.Common.{◌<◌, [], inl, inr, refl, arith, IsStamped, Life}
use Rattle.net_sim.proofs.Audits.Elements.{contains_head, contains_none}
use Rattle.net_sim.proofs.worked_findings.first_places.Goals as goal

-- where nothing crossed no stamp names a message
unstamped : (x : Life) → IsStamped [] x → ⊥
unstamped x s = s.own.2

pub returns-clause-first : goal.returns-clause-first
returns-clause-first c = λ x y h i.
    inr (refl, (λ z there. absurd (contains_none z there), λ all. unstamped x (all x (contains_head x []))))

pub returns-clause-second : goal.returns-clause-second
returns-clause-second c = λ x y h i f. elim f [
  | inl few ↦ (let less : 2 < 2 = few.0 in omega (arith, less))
  | inr at ↦ unstamped x (at.1.0 x (contains_head x []))
]
