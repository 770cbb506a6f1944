-- What a route table concludes.
use Rattle.std.proofs.Common.{◌≡◌, ℕ, zero, suc, ◌+◌, ◌-◌, ◌==◌, ◌<◌, ◌≤◌, min, false, List, [], ◌∷◌, length, get_or, drop, Option, Some, None, refl, true, sym, ap, ◌∙◌, arith, inl, inr}
use Rattle.std.proofs.lemmas.Bool.Decides.{nat_tests}
use Rattle.std.proofs.lemmas.List.{drop_more, get_or_default, get_or_past}
use Rattle.std.proofs.lemmas.Bool.{cases_lt, eq-eqb}
use Rattle.routing.specs.Vector.{infinite}
use Rattle.routing.specs.RouteTable.{distance_in, heard_distance, least_heard}

pub least_heard-le : (ports : List (Option (List ℕ))) (imp : ℕ) → least_heard ports imp ≤ infinite
least_heard-le [] imp = omega arith
least_heard-le (heard ∷ others) imp = omega (arith, least_heard-le others imp)

-- no port hears of IMP 0
pub least_heard-none : (ports : List (Option (List ℕ))) (imp : ℕ) → imp ≡ 0 → least_heard ports imp ≡ infinite
least_heard-none [] imp none = refl
least_heard-none (None ∷ others) imp none = omega (arith, least_heard-none others imp none)
least_heard-none (Some distances ∷ others) imp none =
    let zero : (imp == 0) ≡ true = eq-eqb imp 0 none in
    let first : distance_in distances imp ≡ infinite = rw zero refl in
    omega (arith, first, least_heard-none others imp none)

-- no port has heard less
pub least_heard-least : (ports : List (Option (List ℕ))) (imp port : ℕ) → port < length ports → least_heard ports imp ≤ heard_distance (get_or ports port None) imp
least_heard-least [] imp port there = absurd (omega (arith, there))
least_heard-least (heard ∷ others) imp zero there = omega arith
least_heard-least (heard ∷ others) imp (suc port) there = omega (arith, least_heard-least others imp port (omega (arith, there)))

-- a finite least distance was heard on a port
pub record IsHeardOn (ports : List (Option (List ℕ))) (imp distance : ℕ) : Type 0 where
  pub port : ℕ
  pub there : port < length ports
  pub is : heard_distance (get_or ports port None) imp ≡ distance

pub least_heard-attained : (ports : List (Option (List ℕ))) (imp : ℕ) → least_heard ports imp < infinite → IsHeardOn ports imp (least_heard ports imp)
least_heard-attained [] imp finite = absurd (omega (arith, finite))
least_heard-attained (heard ∷ others) imp finite = elim (cases_lt (least_heard others imp) (heard_distance heard imp)) [
  | inl lt ↦
      let rest : IsHeardOn others imp (least_heard others imp) = least_heard-attained others imp (omega (arith, finite, lt)) in
      let least : least_heard (heard ∷ others) imp ≡ least_heard others imp = omega (arith, lt) in
      record { port = suc rest.port; there = omega (arith, rest.there); is = rest.is ∙ sym least }
  | inr le ↦
      let least : least_heard (heard ∷ others) imp ≡ heard_distance heard imp = omega (arith, le) in
      record { port = 0; there = omega arith; is = sym least }
]

-- ---- the ports one after the other

-- a distance by its place
pub distance_at : (distances : List ℕ) (k : ℕ) → k < length distances → distance_in distances (k + 1) ≡ get_or distances k 0
distance_at distances k there =
    let some : (k + 1 == 0) ≡ false = grind (arith, nat_tests) in
    let back : k + 1 - 1 ≡ k = omega arith in
    rw (some, back) (get_or_default distances k infinite 0 there)

-- a distance of an IMP that there can't be
pub distance_past : (distances : List ℕ) (imp : ℕ) → length distances < imp → distance_in distances imp ≡ infinite
distance_past distances imp past =
    let some : (imp == 0) ≡ false = grind (arith, nat_tests) in
    rw some (get_or_past distances (imp - 1) infinite (omega (arith, past)))

-- the port at a place and those after it
pub heard_next : (ports : List (Option (List ℕ))) (i : ℕ) (heard : Option (List ℕ)) (imp : ℕ) → i < length ports → heard ≡ get_or ports i heard
    → least_heard (drop i ports) imp ≡ min (heard_distance heard imp) (least_heard (drop (i + 1) ports) imp)
heard_next ports i heard imp there is =
    ap (λ (ports : List (Option (List ℕ))). least_heard ports imp) (drop_more ports i heard there) ∙ ap (λ (heard : Option (List ℕ)). min (heard_distance heard imp) (least_heard (drop (i + 1) ports) imp)) (sym is)
