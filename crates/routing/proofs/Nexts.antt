-- Distances and next lines of a table.
use Rattle.std.proofs.Common.{◌≡◌, ℕ, ◌+◌, ◌-◌, ◌<◌, ◌≤◌, ◌==◌, Bool, true, false, List, length, get_or, min, Option, Some, None, IsSome, refl, ◌∙◌, ap, sym, arith, inl, inr, eqb, nat_lt, subst, map, if◌then◌else◌, replicate}
use Rattle.std.specs.Prelude.{◌⊎◌}
use Rattle.std.specs.List.{position_or_len, range_with_len}
use Rattle.std.proofs.lemmas.Bool.{cases_lt, eq-eqb, eqb-true, eqb-false}
use Rattle.std.proofs.lemmas.Bool.Decides.{nat_tests}
use Rattle.std.proofs.lemmas.List.Sums.{fails_before_first, passes_at_first}
use Rattle.std.proofs.lemmas.List.Elements.{All-replicate}
use Rattle.std.proofs.lemmas.List.{get_or-replicate, length-replicate}
use Rattle.std.proofs.lemmas.List.FromFn.{length-map-range_with_len, get_or-map-range_with_len}
use Rattle.interface.specs.Host.{most_imps}
use Rattle.routing.specs.Vector.{infinite, IsVector}
use Rattle.routing.specs.RouteTable.{Table, heard_distance, least_heard, distance_in, distance_to, distances_of, nearest, vector_of, claiming, next_of, IsNext}
use Rattle.routing.specs.Inside.{IsKept}
use Rattle.routing.proofs.Tables.{least_heard-least, least_heard-attained, IsHeardOn, least_heard-none, distance_past}

same_by : (b : Bool) (x y : ℕ) → eqb x y ≡ b → (x ≡ y) ⊎ (x ≡ y → ⊥)
same_by true x y e = inl (eqb-true x y e)
same_by false x y e = inr (eqb-false x y e)

-- two numbers are the same, or they aren't
same_or_other : (x y : ℕ) → (x ≡ y) ⊎ (x ≡ y → ⊥)
same_or_other x y = same_by (eqb x y) x y refl

other_by : (b : Bool) (x y : ℕ) → eqb x y ≡ b → (x ≡ y → ⊥) → b ≡ false
other_by true x y e other = absurd (other (eqb-true x y e))
other_by false x y e other = refl

is_other : (x y : ℕ) → (x ≡ y → ⊥) → (x == y) ≡ false
is_other x y other = other_by (x == y) x y refl other

pub distance-own : (t : Table) (imp : ℕ) → imp ≡ t.own → distance_to t imp ≡ 0
unfolding distance_to
distance-own t imp own = (let yes : (imp == t.own) ≡ true = eq-eqb imp t.own own in rw yes refl)

pub distance-other : (t : Table) (imp : ℕ) → (imp ≡ t.own → ⊥) → distance_to t imp ≡ min (least_heard t.heard imp + 1) infinite
unfolding distance_to
distance-other t imp other = (let no : (imp == t.own) ≡ false = is_other imp t.own other in rw no refl)

-- a distance, where the least that was heard is known
pub distance-by : (t : Table) (imp least : ℕ) → least ≡ least_heard t.heard imp → (if imp == t.own then 0 else min (least + 1) infinite) ≡ distance_to t imp
unfolding distance_to
distance-by t imp least is = ap (λ (n : ℕ). if imp == t.own then 0 else min (n + 1) infinite) is

pub distance-le : (t : Table) (imp : ℕ) → distance_to t imp ≤ infinite
distance-le t imp = elim (same_or_other imp t.own) [
  | inl own ↦ omega (arith, distance-own t imp own)
  | inr other ↦ omega (arith, distance-other t imp other)
]

pub distance-zero : (t : Table) (imp : ℕ) → distance_to t imp ≡ 0 → imp ≡ t.own
distance-zero t imp nothing = elim (same_or_other imp t.own) [
  | inl own ↦ own
  | inr other ↦ absurd (omega (arith, nothing, distance-other t imp other))
]

-- no table's distance is more than one above what a port heard
pub distance-heard : (t : Table) (imp port : ℕ) → port < length t.heard → distance_to t imp ≤ heard_distance (get_or t.heard port None) imp + 1
distance-heard t imp port there = elim (same_or_other imp t.own) [
  | inl own ↦ omega (arith, distance-own t imp own)
  | inr other ↦ omega (arith, distance-other t imp other, least_heard-least t.heard imp port there)
]

-- a finite distance to another IMP is one above what a port heard
pub distance-attained : (t : Table) (imp : ℕ) → (imp ≡ t.own → ⊥) → distance_to t imp < infinite → IsHeardOn t.heard imp (distance_to t imp - 1)
distance-attained t imp other finite =
    let is : distance_to t imp ≡ min (least_heard t.heard imp + 1) infinite = distance-other t imp other in
    let least : least_heard t.heard imp ≡ distance_to t imp - 1 = omega (arith, is, finite) in
    subst (λ (distance : ℕ). IsHeardOn t.heard imp distance) least (least_heard-attained t.heard imp (omega (arith, is, finite)))

-- the next line

pub next-own : (t : Table) (imp : ℕ) → imp ≡ t.own → next_of t imp ≡ None
unfolding next_of
next-own t imp own = (let yes : (imp == t.own) ≡ true = eq-eqb imp t.own own in rw yes refl)

nowhere_by : (t : Table) (imp : ℕ) → (imp ≡ t.own → ⊥) → distance_to t imp ≡ infinite → next_of t imp ≡ None
unfolding next_of
nowhere_by t imp other far =
    let no : (imp == t.own) ≡ false = is_other imp t.own other in
    let yes : (distance_to t imp == infinite) ≡ true = eq-eqb (distance_to t imp) infinite far in
    rw (no, yes) refl

pub next-nowhere : (t : Table) (imp : ℕ) → distance_to t imp ≡ infinite → next_of t imp ≡ None
next-nowhere t imp far = elim (same_or_other imp t.own) [
  | inl own ↦ next-own t imp own
  | inr other ↦ nowhere_by t imp other far
]

-- whether a port attains a distance
abbrev attains : Table → ℕ → Option (List ℕ) → Bool
attains t imp heard = heard_distance heard imp + 1 == distance_to t imp

next_is : (t : Table) (imp : ℕ) → (imp ≡ t.own → ⊥) → distance_to t imp < infinite → position_or_len (attains t imp) t.heard < length t.heard
    → next_of t imp ≡ Some (position_or_len (attains t imp) t.heard)
unfolding next_of
next_is t imp other finite there =
    let no : (imp == t.own) ≡ false = is_other imp t.own other in
    let near : (distance_to t imp == infinite) ≡ false = is_other (distance_to t imp) infinite (λ far. omega (arith, far, finite)) in
    let found : nat_lt (position_or_len (attains t imp) t.heard) (length t.heard) ≡ true = grind (arith, nat_tests, there) in
    rw (no, near, found) refl

found_before : (t : Table) (imp port : ℕ) → port < length t.heard → attains t imp (get_or t.heard port None) ≡ true → position_or_len (attains t imp) t.heard < length t.heard
found_before t imp port there passes = elim (cases_lt port (position_or_len (attains t imp) t.heard)) [
  | inl lt ↦ absurd (let fails : attains t imp (get_or t.heard port None) ≡ false = fails_before_first (attains t imp) t.heard port None lt in cc)
  | inr le ↦ omega (arith, le, there)
]

live_by : (heard : Option (List ℕ)) (imp distance : ℕ) → heard_distance heard imp + 1 ≡ distance → distance < infinite → IsSome heard
live_by (Some distances) imp distance is finite = refl
live_by None imp distance is finite = absurd (omega (arith, is, finite))

pub next-line : (t : Table) (imp : ℕ) → (imp ≡ t.own → ⊥) → distance_to t imp < infinite → (port : ℕ) × (next_of t imp ≡ Some port) × IsNext t imp port
next-line t imp other finite =
    let on : IsHeardOn t.heard imp (distance_to t imp - 1) = distance-attained t imp other finite in
    let positive : 0 < distance_to t imp = omega (arith, distance-other t imp other) in
    let passes : attains t imp (get_or t.heard on.port None) ≡ true =
    eq-eqb (heard_distance (get_or t.heard on.port None) imp + 1) (distance_to t imp) (omega (arith, on.is, positive)) in
    let port : ℕ = position_or_len (attains t imp) t.heard in
    let there : port < length t.heard = found_before t imp on.port on.there passes in
    let is : heard_distance (get_or t.heard port None) imp + 1 ≡ distance_to t imp =
    eqb-true (heard_distance (get_or t.heard port None) imp + 1) (distance_to t imp) (passes_at_first (attains t imp) t.heard None there) in (
      port,
      next_is t imp other finite there,
      record {
        there = there;
        live = live_by (get_or t.heard port None) imp (distance_to t imp) is finite;
        attains = is;
        lowest = λ lower below.
            let fails : attains t imp (get_or t.heard lower None) ≡ false = fails_before_first (attains t imp) t.heard lower None below in
            let at_most : distance_to t imp ≤ heard_distance (get_or t.heard lower None) imp + 1 = distance-heard t imp lower (omega (arith, below, there)) in
            let apart : heard_distance (get_or t.heard lower None) imp + 1 ≡ distance_to t imp → ⊥ =
            eqb-false (heard_distance (get_or t.heard lower None) imp + 1) (distance_to t imp) fails in
            elim (same_or_other (heard_distance (get_or t.heard lower None) imp + 1) (distance_to t imp)) [
              | inl same ↦ absurd (apart same)
              | inr unlike ↦ omega (arith, at_most, unlike)
            ];
      },
    )

-- the vector

distances-are : (t : Table) → IsVector (distances_of t)
distances-are t = record {
  one_each = length-map-range_with_len (λ (place : ℕ). distance_to t (place + 1)) 0 most_imps;
  in_range = λ place d there.
      let is : get_or (distances_of t) place d ≡ distance_to t (place + 1) =
      get_or-map-range_with_len (λ (place : ℕ). distance_to t (place + 1)) 0 most_imps place place d (omega (arith, there)) (omega arith) in
      rw is (distance-le t (place + 1));
}

nearest-is : IsVector nearest
unfolding nearest
nearest-is = record { one_each = length-replicate {A = ℕ} most_imps 0; in_range = All-replicate (λ (d : ℕ). d ≤ infinite) most_imps 0 (omega arith) }

pub vector-is : (t : Table) → IsVector (vector_of t)
unfolding vector_of
vector-is t = by t.claims where
  by : (claims : Bool) → IsVector (if claims then nearest else distances_of t)
  by true = nearest-is
  by false = distances-are t

-- what is announced where nothing is claimed, and what is claimed
vector-true : (t : Table) → t.claims ≡ false → vector_of t ≡ distances_of t
unfolding vector_of
vector-true t is = rw is refl

pub vector-claimed : (t : Table) (imp : ℕ) → 0 < imp → imp ≤ most_imps → t.claims ≡ true → distance_in (vector_of t) imp ≡ 0
unfolding vector_of nearest
vector-claimed t imp some most is =
    let is_imp : (imp == 0) ≡ false = is_other imp 0 (λ none. omega (arith, none, some)) in
    rw (is, is_imp) (get_or-replicate most_imps (imp - 1) 0 infinite (omega (arith, some, most)))

-- distances and next lines don't depend on what is claimed
pub distance-claims : (t : Table) (claims : Bool) (imp : ℕ) → distance_to (record t { claims = claims }) imp ≡ distance_to t imp
unfolding distance_to
distance-claims t claims imp = refl

pub next-claimed : (t : Table) (imp : ℕ) → next_of (claiming t) imp ≡ next_of t imp
unfolding next_of distance_to
next-claimed t imp = refl

distances-distance : (t : Table) (imp : ℕ) → 0 < imp → imp ≤ most_imps → distance_in (distances_of t) imp ≡ distance_to t imp
distances-distance t imp some most =
    let is_imp : (imp == 0) ≡ false = is_other imp 0 (λ none. omega (arith, none, some)) in
    let at : get_or (map (λ (place : ℕ). distance_to t (place + 1)) (range_with_len 0 most_imps)) (imp - 1) infinite ≡ distance_to t (imp - 1 + 1) =
    get_or-map-range_with_len (λ (place : ℕ). distance_to t (place + 1)) 0 most_imps (imp - 1) (imp - 1) infinite (omega (arith, some, most)) (omega arith) in
    rw is_imp (at ∙ ap (λ (n : ℕ). distance_to t n) (omega (arith, some)))

pub vector-distance : (t : Table) (imp : ℕ) → 0 < imp → imp ≤ most_imps → t.claims ≡ false → distance_in (vector_of t) imp ≡ distance_to t imp
vector-distance t imp some most is = ap (λ (distances : List ℕ). distance_in distances imp) (vector-true t is) ∙ distances-distance t imp some most

-- what is announced shows whether an IMP claims: if it doesn't, it is at distance 0 from itself only
claim_apart : (s t : Table) → s.claims ≡ true → t.claims ≡ false → vector_of s ≡ vector_of t → ⊥
claim_apart s t claims honest e =
    let own : (imp : ℕ) → 0 < imp → imp ≤ most_imps → imp ≡ t.own = λ imp some most.
    distance-zero t imp (sym (vector-distance t imp some most honest) ∙ ap (λ (distances : List ℕ). distance_in distances imp) (sym e) ∙ vector-claimed s imp some most claims) in
    omega (arith, own 1 (omega arith) (omega arith), own 2 (omega arith) (omega arith))

pub claims-shown : (s t : Table) → vector_of s ≡ vector_of t → s.claims ≡ t.claims
claims-shown s t e = by s.claims t.claims refl refl where
  by : (a b : Bool) → s.claims ≡ a → t.claims ≡ b → a ≡ b
  by true true p q = refl
  by false false p q = refl
  by true false p q = absurd (claim_apart s t p q e)
  by false true p q = absurd (claim_apart t s q p (sym e))

-- the distance to IMP 0, which there can't be
vector-zero : (t : Table) (imp : ℕ) → imp ≡ 0 → (imp ≡ t.own → ⊥) → distance_in (distances_of t) imp ≡ distance_to t imp
vector-zero t imp none other =
    let some : (imp == 0) ≡ true = eq-eqb imp 0 none in
    rw some (omega (arith, distance-other t imp other, least_heard-none t.heard imp none))

told_by : (t : Table) (imp : ℕ) → ((imp : ℕ) → most_imps < imp → least_heard t.heard imp ≡ infinite) → (imp ≡ t.own → ⊥) → (most_imps < imp) ⊎ (imp ≤ most_imps)
    → distance_in (distances_of t) imp ≡ distance_to t imp
told_by t imp no_imp other (inl far) =
    let vector : IsVector (distances_of t) = distances-are t in
    distance_past (distances_of t) imp (omega (arith, far, vector.one_each)) ∙ omega (arith, distance-other t imp other, no_imp imp far)
told_by t imp no_imp other (inr most) = elim (same_or_other imp 0) [
  | inl none ↦ vector-zero t imp none other
  | inr some ↦ distances-distance t imp (omega (arith, some)) most
]

-- the distance to another IMP, looked up
pub distance-told : (t : Table) (told : List ℕ) (imp : ℕ) → IsKept t told → (imp ≡ t.own → ⊥) → distance_in told imp ≡ distance_to t imp
distance-told t told imp kept other = subst (λ (told : List ℕ). distance_in told imp ≡ distance_to t imp) (sym kept.told_is) (told_by t imp kept.no_imp other (cases_lt most_imps imp))
