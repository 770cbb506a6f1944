-- All parts are the same as others, or are not.
use Rattle.trace.proofs.Common.{◌≡◌, ◌⊎◌, inl, inr, Bool, true, false, List, [], ◌∷◌, refl, sym, ap, ap₂, ◌∙◌, false≢true, same_flow_part, AllParts, FlowPart}
use Rattle.trace.proofs.Changes.FlowLaws.{part_is}
use Rattle.trace.proofs.Changes.Flowing.{part_same}
use Rattle.trace.proofs.Closed.{first_same, rest_same}
use Rattle.trace.proofs.Rounds.Same.{same_or_not}

abbrev IsOrNot : {X : Type 0} → X → X → Type 0
IsOrNot x y = (x ≡ y) ⊎ (x ≡ y → ⊥)

flow_or_not : (p q : FlowPart) → IsOrNot p q
flow_or_not p q = by (same_flow_part p q) refl where
  by : (b : Bool) → same_flow_part p q ≡ b → IsOrNot p q
  by true e = inl (part_is p q e)
  by false e = inr (λ same. false≢true (sym e ∙ ap (same_flow_part p) (sym same) ∙ part_same p))

list_or_not : {X : Type 0} → ((x y : X) → IsOrNot x y) → (xs ys : List X) → IsOrNot xs ys
list_or_not items [] [] = inl refl
list_or_not items [] (y ∷ ys) = inr (λ e. absurd (cc))
list_or_not items (x ∷ xs) [] = inr (λ e. absurd (cc))
list_or_not {X} items (x ∷ xs) (y ∷ ys) = by (items x y) (list_or_not items xs ys) where
  by : IsOrNot x y → IsOrNot xs ys → IsOrNot (x ∷ xs) (y ∷ ys)
  by (inl e) (inl f) = inl (ap₂ (λ (z : X) (zs : List X). z ∷ zs) e f)
  by (inl e) (inr n) = inr (λ same. n (rest_same same))
  by (inr n) others = inr (λ same. n (first_same same))

pub parts_or_not : (p q : AllParts) → IsOrNot p q
parts_or_not p q = by (same_or_not _ _) (list_or_not (list_or_not flow_or_not) _ _) where
  by : IsOrNot p.fixed q.fixed → IsOrNot p.flows q.flows → IsOrNot p q
  by (inl e) (inl f) = inl (λ i. record { fixed = e i; flows = f i })
  by (inl e) (inr n) = inr (λ same. n (ap (λ (x : AllParts). x.flows) same))
  by (inr n) others = inr (λ same. n (ap (λ (x : AllParts). x.fixed) same))
