use Rattle.subnet_trace.proofs.Common.{◌≡◌, ℕ, List, [], ◌∷◌, None, Some, length, ap, refl, arith, Wire, Line}
use Rattle.imp_node.specs.Examples.{ack_frame}
use Rattle.subnet.specs.Examples.{imp_1}
use Rattle.subnet_trace.proofs.worked.worked_names.Goals as goal

-- two lists of other lengths
longer : {X : Type 0} (xs ys : List X) (n : ℕ) → xs ≡ ys → length xs ≡ n → length ys ≡ 0 → n ≡ 0
longer xs ys n e a b = let same : length xs ≡ length ys = ap length e in omega (arith, same, a, b)

pub returns-clause-other_imp : goal.returns-clause-other_imp
returns-clause-other_imp c same = let bad : None ≡ Some imp_1 = same in absurd (cc)

pub returns-clause-other_line : goal.returns-clause-other_line
returns-clause-other_line c same = let frames : (ack_frame ∷ []) ≡ [] = ap (λ (w : Wire). w.forward) same in absurd (cc)

pub returns-clause-other_text : goal.returns-clause-other_text
returns-clause-other_text c same = let long = ap length (same.parts (Line 0) refl) in absurd (omega (arith, long))

pub returns-clause-other_hosts : goal.returns-clause-other_hosts
returns-clause-other_hosts c same = let long = ap length same.hosts in absurd (omega (arith, long))

pub returns-clause-other_sites : goal.returns-clause-other_sites
returns-clause-other_sites c same = let long = ap length same.sites in absurd (omega (arith, long))

pub returns-clause-other_ends : goal.returns-clause-other_ends
returns-clause-other_ends c same =
    let first : 1 ≡ 2 = ap (λ (es : List (ℕ × ℕ)). first_of es) same.lines in absurd (omega (arith, first)) where
      first_of : List (ℕ × ℕ) → ℕ
      first_of [] = 0
      first_of (e ∷ es) = e.0
