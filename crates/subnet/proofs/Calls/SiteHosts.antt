-- The hosts of sites are those that the sites say.
use Rattle.subnet.proofs.Common.{list_any, cases_Bool, nat_tests, host_there, AreHosts, hosts_of_one, hosts_from}
use Rattle.std.proofs.Common.{◌≡◌, ℕ, zero, suc, ◌+◌, ◌<◌, Bool, true, false, List, [], ◌∷◌, ◌++◌, Option, Some, None, refl, ap, ◌∙◌, ◌==◌, ◌||◌, inl, inr, eqb-true, eq-eqb, arith}
use Rattle.std.specs.Prelude.{nat_lt, slice_index_or}
use Rattle.interface.specs.Host.{Host, same_host, is_host, host_before, InOrder}
use Rattle.interface.proofs.lemmas.{before_from_numbers, both_ways, or_nothing, same_host-refl}
use Rattle.subnet.proofs.Calls.Carrying.{any_append}

-- ---- tests of numbers

pub unlike : (x k : ℕ) → (x ≡ k → ⊥) → (x == k) ≡ false
unlike x k other = elim (cases_Bool (x == k)) [
  | inl same ↦ absurd (other (eqb-true x k same))
  | inr differs ↦ differs
]

pub below_both : (h count : ℕ) → nat_lt h count ≡ nat_lt (suc h) (suc count)
below_both h count = both_ways _ (nat_lt (suc h) (suc count)) (λ e. grind (arith, nat_tests, e)) (λ e. grind (arith, nat_tests, e))

-- ---- hosts of one IMP

abbrev host_of : ℕ → ℕ → Host
host_of i k = record { imp = i; host = k }

other_imp : (g h : Host) → (g.imp ≡ h.imp → ⊥) → same_host g h ≡ false
other_imp g h other = rw (unlike g.imp h.imp other) refl

one_beside : (i k count : ℕ) (h : Host) → (h.imp ≡ i → ⊥) → is_host (hosts_of_one i k count) h ≡ false
one_beside i k zero h other = refl
one_beside i k (suc count) h other = ap (λ (b : Bool). b || is_host (hosts_of_one i (k + 1) count) h) (other_imp h _ other) ∙ one_beside i (k + 1) count h other

one_at : (i k count x : ℕ) → is_host (hosts_of_one i k count) (host_of i (k + x)) ≡ nat_lt x count
one_at i k zero x = both_ways false (nat_lt x 0) (λ e. absurd (cc)) (λ e. grind (arith, nat_tests, e))
one_at i k (suc count) zero =
    let same : k + 0 ≡ k = omega arith in
    let first : same_host (host_of i (k + 0)) (host_of i k) ≡ true = ap (λ (j : ℕ). same_host (host_of i j) (host_of i k)) same ∙ same_host-refl (host_of i k) in
    ap (λ (b : Bool). b || is_host (hosts_of_one i (k + 1) count) (host_of i (k + 0))) first ∙ both_ways true (nat_lt 0 (suc count)) (λ e. grind (arith, nat_tests)) (λ e. refl)
one_at i k (suc count) (suc x) =
    let on : k + suc x ≡ k + 1 + x = omega arith in
    let far : (k + suc x ≡ k) → ⊥ = λ e. omega (arith, e) in
    let first : same_host (host_of i (k + suc x)) (host_of i k) ≡ false = rw (eq-eqb i i refl, unlike _ k far) refl in
    ap (λ (b : Bool). b || is_host (hosts_of_one i (k + 1) count) (host_of i (k + suc x))) first
    ∙ ap (λ (j : ℕ). is_host (hosts_of_one i (k + 1) count) (host_of i j)) on
    ∙ one_at i (k + 1) count x
    ∙ below_both x count

-- ---- hosts of all

below : (i : ℕ) (sites : List (Option ℕ)) (h : Host) → h.imp < i → is_host (hosts_from i sites) h ≡ false
below i [] h less = refl
below i (None ∷ sites) h less = below (i + 1) sites h (omega (arith, less))
below i (Some count ∷ sites) h less =
    any_append (same_host h) (hosts_of_one i 0 count) (hosts_from (i + 1) sites)
    ∙ ap (λ (b : Bool). b || is_host (hosts_from (i + 1) sites) h) (one_beside i 0 count h (λ e. omega (arith, e, less)))
    ∙ below (i + 1) sites h (omega (arith, less))

at_site : (i x k : ℕ) (sites : List (Option ℕ)) → is_host (hosts_from i sites) (host_of (i + x) k) ≡ host_there (slice_index_or sites x None) k
at_site i x k [] = refl
at_site i zero k (None ∷ sites) = below _ sites _ (omega arith)
at_site i (suc x) k (None ∷ sites) =
    let on : i + suc x ≡ i + 1 + x = omega arith in
    ap (λ (j : ℕ). is_host (hosts_from (i + 1) sites) (host_of j k)) on ∙ at_site (i + 1) x k sites
at_site i zero k (Some count ∷ sites) =
    let same : i + 0 ≡ i = omega arith in
    let number : k ≡ 0 + k = omega arith in
    let rest : is_host (hosts_from (i + 1) sites) (host_of (i + 0) k) ≡ false = below _ sites _ (omega arith) in
    let first : is_host (hosts_of_one i 0 count) (host_of (i + 0) k) ≡ nat_lt k count =
    ap (λ (j : ℕ). is_host (hosts_of_one i 0 count) (host_of j k)) same ∙ ap (λ (j : ℕ). is_host (hosts_of_one i 0 count) (host_of i j)) number ∙ one_at i 0 count k in
    any_append (same_host (host_of (i + 0) k)) (hosts_of_one i 0 count) (hosts_from (i + 1) sites)
    ∙ ap (λ (b : Bool). b || is_host (hosts_from (i + 1) sites) (host_of (i + 0) k)) first
    ∙ ap (λ (b : Bool). nat_lt k count || b) rest
    ∙ or_nothing _
at_site i (suc x) k (Some count ∷ sites) =
    let on : i + suc x ≡ i + 1 + x = omega arith in
    let far : (i + suc x ≡ i) → ⊥ = λ e. omega (arith, e) in
    any_append (same_host (host_of (i + suc x) k)) (hosts_of_one i 0 count) (hosts_from (i + 1) sites)
    ∙ ap (λ (b : Bool). b || is_host (hosts_from (i + 1) sites) (host_of (i + suc x) k)) (one_beside i 0 count (host_of (i + suc x) k) far)
    ∙ ap (λ (j : ℕ). is_host (hosts_from (i + 1) sites) (host_of j k)) on
    ∙ at_site (i + 1) x k sites

pub hosts_fit : (sites : List (Option ℕ)) → AreHosts (hosts_from 0 sites) sites
hosts_fit sites h =
    let number : h.imp ≡ 0 + h.imp = omega arith in
    ap (λ (j : ℕ). is_host (hosts_from 0 sites) (host_of j h.host)) number ∙ at_site 0 h.imp h.host sites

-- ---- their order

-- a host is before the first of a list
abbrev Before : Host → List Host → Type 0
Before g [] = Unit {0}
Before g (h ∷ hosts) = host_before g h ≡ true

then_rest : (g : Host) (hosts : List Host) → Before g hosts → InOrder hosts → InOrder (g ∷ hosts)
then_rest g [] before rest = tt
then_rest g (h ∷ hosts) before rest = (before, rest)

before_later : (g : Host) (j : ℕ) (sites : List (Option ℕ)) → g.imp < j → Before g (hosts_from j sites)
before_later g j [] less = tt
before_later g j (None ∷ sites) less = before_later g (j + 1) sites (omega (arith, less))
before_later g j (Some zero ∷ sites) less = before_later g (j + 1) sites (omega (arith, less))
before_later g j (Some (suc count) ∷ sites) less = before_from_numbers g _ (inl less)

one_then : (i k count : ℕ) (rest : List Host) → ((x : ℕ) → Before (host_of i x) rest) → InOrder rest → InOrder (hosts_of_one i k count ++ rest)
one_then i k zero rest before order = order
one_then i k (suc zero) rest before order = then_rest _ rest (before k) order
one_then i k (suc (suc count)) rest before order = (before_from_numbers _ (host_of i (k + 1)) (inr (refl, omega arith)), one_then i (k + 1) (suc count) rest before order)

in_order_from : (i : ℕ) (sites : List (Option ℕ)) → InOrder (hosts_from i sites)
in_order_from i [] = tt
in_order_from i (None ∷ sites) = in_order_from (i + 1) sites
in_order_from i (Some count ∷ sites) = one_then i 0 count _ (λ x. before_later (host_of i x) (i + 1) sites (omega arith)) (in_order_from (i + 1) sites)

pub hosts_ordered : (sites : List (Option ℕ)) → InOrder (hosts_from 0 sites)
hosts_ordered sites = in_order_from 0 sites
