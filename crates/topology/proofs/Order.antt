-- IMPs and hosts in order.
use Rattle.topology.proofs.Common.{div-add-mod, mod_below, ImpHosts}
use Rattle.std.proofs.Common.{◌≡◌, ℕ, zero, suc, ◌<◌, ◌≤◌, ◌+◌, ◌*◌, ◌/◌, ◌%◌, ◌==◌, Bool, true, false, List, [], ◌∷◌, ◌++◌, Option, Some, None, refl, sym, ap, ◌∙◌, subst, arith, lit<, inl, inr, add-one, append-nil, cond, eqb-true}
use Rattle.std.proofs.lemmas.Bool.{cases_lt}
use Rattle.std.proofs.lemmas.List.Elements.{All-nil, All-cons, All-append, All-head, All-tail}
use Rattle.std.specs.List.{All, cons_option}
use Rattle.interface.specs.Host.{Host, host_before, InOrder}
use Rattle.interface.proofs.lemmas.{before_from_numbers}
use Rattle.topology.specs.Topology.{hosts_below, host_if, has_host, numbered_below, imp_of_number, IsRising}
use Rattle.topology.proofs.Documents.{some_same}

ordered_more : (hosts : List Host) (h : Host) → InOrder hosts → All (λ g. host_before g h ≡ true) hosts → InOrder (hosts ++ h ∷ [])
ordered_more [] h o b = tt
ordered_more (g ∷ []) h o b = (All-head (λ g. host_before g h ≡ true) g [] b, tt)
ordered_more (g ∷ k ∷ hosts) h o b = (o.0, ordered_more (k ∷ hosts) h o.1 (All-tail (λ g. host_before g h ≡ true) g (k ∷ hosts) b))

-- a host is at a place below this one
record StandsBelow (n : ℕ) (h : Host) : Type 0 where
  place : 4 * h.imp + h.host < n + 4
  host : h.host ≤ 3

before_from_place : (g h : Host) → g.host ≤ 3 → 4 * g.imp + g.host < 4 * h.imp + h.host → h.host ≤ 3 → host_before g h ≡ true
before_from_place g h small less few = before_from_numbers g h (elim (cases_lt g.imp h.imp) [
  | inl imp ↦ inl imp
  | inr imp ↦ inr (omega arith, omega arith)
])

abbrev place_of : ℕ → Host
place_of n = record { imp = n / 4 + 1; host = n % 4 }

stands_more : (n : ℕ) (h : Host) → StandsBelow n h → StandsBelow (n + 1) h
stands_more n h b = let place : 4 * h.imp + h.host < n + 4 = b.place in record { place = omega arith; host = b.host }

stands_here : (n : ℕ) → StandsBelow (n + 1) (place_of n)
stands_here n =
    let parts : 4 * (n / 4) + n % 4 ≡ n = div-add-mod n 4 in
    let low : n % 4 < 4 = mod_below n 4 (lit< tt) in
    record { place = omega arith; host = omega arith }

host_if_all : (P : Host → Type 0) (test : Bool) (h : Host) → P h → All P (host_if test h)
host_if_all P true h p = All-cons P h [] p (All-nil P)
host_if_all P false h p = All-nil P

All-more : (P Q : Host → Type 0) (xs : List Host) → ((h : Host) → P h → Q h) → All P xs → All Q xs
All-more P Q [] f a = All-nil Q
All-more P Q (x ∷ xs) f a = All-cons Q x xs (f x (All-head P x xs a)) (All-more P Q xs f (All-tail P x xs a))

pub hosts_next : (imps : List ImpHosts) (n : ℕ) → hosts_below imps (n + 1) ≡ hosts_below imps n ++ host_if (has_host imps (n / 4 + 1) (n % 4)) (record { imp = n / 4 + 1; host = n % 4 })
unfolding hosts_below
hosts_next imps n = ap (hosts_below imps) (add-one n)

pub numbered_next : (imps : List ImpHosts) (n : ℕ) → numbered_below imps (n + 1) ≡ numbered_below imps n ++ cons_option (imp_of_number imps n) []
unfolding numbered_below
numbered_next imps n = ap (numbered_below imps) (add-one n)

below_hosts : (imps : List ImpHosts) (n : ℕ) → All (StandsBelow n) (hosts_below imps n)
unfolding hosts_below
below_hosts imps zero = All-nil (StandsBelow 0)
below_hosts imps (suc n) =
    let here : All (StandsBelow (n + 1)) (hosts_below imps n ++ host_if (has_host imps (n / 4 + 1) (n % 4)) (place_of n)) = All-append (StandsBelow (n + 1)) (hosts_below imps n) (host_if (has_host imps (n / 4 + 1) (n % 4)) (place_of n)) (All-more (StandsBelow n) (StandsBelow (n + 1)) (hosts_below imps n) (stands_more n) (below_hosts imps n)) (host_if_all (StandsBelow (n + 1)) (has_host imps (n / 4 + 1) (n % 4)) (place_of n) (stands_here n)) in
    subst (λ k. All (StandsBelow k) (hosts_below imps (suc n))) (add-one n) here

ordered_if : (hosts : List Host) (test : Bool) (h : Host) → InOrder hosts → All (λ g. host_before g h ≡ true) hosts → InOrder (hosts ++ host_if test h)
ordered_if hosts true h o b = ordered_more hosts h o b
ordered_if hosts false h o b = subst InOrder (sym (append-nil hosts)) o

pub hosts_ordered : (imps : List ImpHosts) (n : ℕ) → InOrder (hosts_below imps n)
unfolding hosts_below
hosts_ordered imps zero = tt
hosts_ordered imps (suc n) =
    let parts : 4 * (n / 4) + n % 4 ≡ n = div-add-mod n 4 in
    let low : n % 4 < 4 = mod_below n 4 (lit< tt) in
    ordered_if (hosts_below imps n) (has_host imps (n / 4 + 1) (n % 4)) (place_of n) (hosts_ordered imps n)
    (All-more (StandsBelow n) (λ g. host_before g (place_of n) ≡ true) (hosts_below imps n)
    (λ g b. let place : 4 * g.imp + g.host < n + 4 = b.place in before_from_place g (place_of n) b.host (omega arith) (omega arith)) (below_hosts imps n))

rising_more : (imps : List ImpHosts) (i : ImpHosts) → IsRising imps → All (λ j. j.imp < i.imp) imps → IsRising (imps ++ i ∷ [])
rising_more [] i o b = tt
rising_more (j ∷ []) i o b = (All-head (λ j. j.imp < i.imp) j [] b, tt)
rising_more (j ∷ k ∷ imps) i o b = (o.0, rising_more (k ∷ imps) i o.1 (All-tail (λ j. j.imp < i.imp) j (k ∷ imps) b))

found_in : (imps : List ImpHosts) (n : ℕ) (j i : ImpHosts) (test : Bool) → test ≡ (j.imp == n) → cond test (Some j) (imp_of_number imps n) ≡ Some i → ((k : ImpHosts) → imp_of_number imps n ≡ Some k → k.imp ≡ n) → i.imp ≡ n
found_in imps n j i true is e others = let same : j ≡ i = some_same e in sym (ap (λ (k : ImpHosts). k.imp) same) ∙ eqb-true j.imp n (sym is)
found_in imps n j i false is e others = others i e

found_number : (imps : List ImpHosts) (n : ℕ) (i : ImpHosts) → imp_of_number imps n ≡ Some i → i.imp ≡ n
found_number [] n i e = cc
found_number (j ∷ imps) n i e = found_in imps n j i (j.imp == n) refl e (found_number imps n)

rising_if : (imps : List ImpHosts) (n : ℕ) (o : Option ImpHosts) → IsRising imps → All (λ j. j.imp < n) imps → ((i : ImpHosts) → o ≡ Some i → i.imp ≡ n) → IsRising (imps ++ cons_option o [])
rising_if imps n None r b is = subst IsRising (sym (append-nil imps)) r
rising_if imps n (Some i) r b is = rising_more imps i r (subst (λ k. All (λ j. j.imp < k) imps) (sym (is i refl)) b)

below_if : (n : ℕ) (o : Option ImpHosts) → ((i : ImpHosts) → o ≡ Some i → i.imp ≡ n) → All (λ j. j.imp < n + 1) (cons_option o [])
below_if n None is = All-nil (λ j. j.imp < n + 1)
below_if n (Some i) is = let same : i.imp ≡ n = is i refl in All-cons (λ j. j.imp < n + 1) i [] (omega arith) (All-nil (λ j. j.imp < n + 1))

imps_more : (n : ℕ) (xs : List ImpHosts) → All (λ j. j.imp < n) xs → All (λ j. j.imp < n + 1) xs
imps_more n [] a = All-nil (λ j. j.imp < n + 1)
imps_more n (x ∷ xs) a = let low : x.imp < n = All-head (λ j. j.imp < n) x xs a in All-cons (λ j. j.imp < n + 1) x xs (omega arith) (imps_more n xs (All-tail (λ j. j.imp < n) x xs a))

numbered_low : (imps : List ImpHosts) (n : ℕ) → All (λ j. j.imp < n) (numbered_below imps n)
unfolding numbered_below
numbered_low imps zero = All-nil (λ j. j.imp < 0)
numbered_low imps (suc n) =
    let here : All (λ j. j.imp < n + 1) (numbered_below imps (suc n)) = All-append (λ j. j.imp < n + 1) (numbered_below imps n) (cons_option (imp_of_number imps n) []) (imps_more n (numbered_below imps n) (numbered_low imps n)) (below_if n (imp_of_number imps n) (found_number imps n)) in
    subst (λ k. All (λ j. j.imp < k) (numbered_below imps (suc n))) (add-one n) here

pub numbered_rising : (imps : List ImpHosts) (n : ℕ) → IsRising (numbered_below imps n)
unfolding numbered_below
numbered_rising imps zero = tt
numbered_rising imps (suc n) = rising_if (numbered_below imps n) n (imp_of_number imps n) (numbered_rising imps n) (numbered_low imps n) (found_number imps n)

pub hosts_none : (imps : List ImpHosts) → hosts_below imps 0 ≡ []
unfolding hosts_below
hosts_none imps = refl

pub numbered_none : (imps : List ImpHosts) → numbered_below imps 0 ≡ []
unfolding numbered_below
numbered_none imps = refl
