-- The hosts of a topology are those that its IMPs have.
use Rattle.topology.proofs.Common.{div-add-mod, mod_below, nat_tests, list_all, Host, is_host, most_imps, same_host, ImpHosts}
use Rattle.std.proofs.Common.{◌≡◌, ◌≢◌, ℕ, zero, suc, ◌<◌, ◌≤◌, ◌+◌, ◌*◌, ◌-◌, ◌/◌, ◌%◌, ◌==◌, ◌&&◌, nat_lt, nat_le, Bool, true, false, List, [], ◌∷◌, ◌++◌, length, filter, ap, refl, sym, ◌∙◌, subst, arith, lit<, inl, inr, ◌⊎◌, eqb-true, Result, Ok, Err, IfErr}
use Rattle.std.proofs.lemmas.Bool.{false≢true, and_parts, or_right, or_cases, or_left}
use Rattle.std.proofs.lemmas.List.Elements.{filter-append}
use Rattle.std.proofs.lemmas.List.Folds.{list_any-append}
use Rattle.interface.proofs.lemmas.{both_ways, same_host-refl, same_host-true}
use Rattle.topology.specs.Topology.{TopologyFields, IsTopology, has_host, host_if, hosts_below, hosts_of, is_imp, most_hosts}

abbrev pub place_of : ℕ → Host
place_of n = record { imp = n / 4 + 1; host = n % 4 }

-- a host at a place is there if its IMP has it
here_only : (test : Bool) (g h : Host) → is_host (host_if test g) h ≡ true → (test ≡ true) × (h ≡ g)
here_only true g h e = elim (or_cases (same_host h g) false e) [ inl same ↦ (refl, same_host-true h g same) | inr unlike ↦ absurd (false≢true unlike) ]
here_only false g h e = absurd (false≢true e)

here : (test : Bool) (g h : Host) → test ≡ true → h ≡ g → is_host (host_if test g) h ≡ true
here true g h t e = or_left (same_host h g) false (subst (λ (k : Host). same_host h k ≡ true) e (same_host-refl h))
here false g h t e = absurd (false≢true t)

-- a host that is in the list is one of its IMP
stands : (imps : List ImpHosts) (n : ℕ) (h : Host) → is_host (hosts_below imps n) h ≡ true → has_host imps h.imp h.host ≡ true
unfolding hosts_below
stands imps zero h e = absurd (false≢true e)
stands imps (suc n) h e =
    elim (or_cases (is_host (hosts_below imps n) h) (is_host (host_if (has_host imps (n / 4 + 1) (n % 4)) (place_of n)) h)
    (sym (list_any-append (same_host h) (hosts_below imps n) (host_if (has_host imps (n / 4 + 1) (n % 4)) (place_of n))) ∙ e)) [
      | inl before ↦ stands imps n h before
      | inr last ↦
          let found = here_only (has_host imps (n / 4 + 1) (n % 4)) (place_of n) h last in
          subst (λ (k : Host). has_host imps k.imp k.host ≡ true) (sym found.1) found.0
    ]

at_place : (n : ℕ) (h : Host) → 4 * h.imp + h.host ≡ n + 4 → 1 ≤ h.imp → h.host < 4 → h ≡ place_of n
at_place n h e some few =
    let parts : 4 * (n / 4) + n % 4 ≡ n = div-add-mod n 4 in
    let low : n % 4 < 4 = mod_below n 4 (lit< tt) in
    let imp : h.imp ≡ n / 4 + 1 = omega arith in
    let host : h.host ≡ n % 4 = omega arith in
    (λ i. record { imp = imp i; host = host i })

last_or_before : (m n : ℕ) → m < suc n + 4 → (m < n + 4) ⊎ (m ≡ n + 4)
last_or_before m n h = by (nat_lt m (n + 4)) refl
  where
    by : (t : Bool) → nat_lt m (n + 4) ≡ t → (m < n + 4) ⊎ (m ≡ n + 4)
    by true e = inl (grind (arith, nat_tests))
    by false e = let most : n + 4 ≤ m = grind (arith, nat_tests) in inr (omega arith)

-- a host of an IMP is at its place
stood : (imps : List ImpHosts) (n : ℕ) (h : Host) → has_host imps h.imp h.host ≡ true → 1 ≤ h.imp → h.host < 4 → 4 * h.imp + h.host < n + 4 → is_host (hosts_below imps n) h ≡ true
unfolding hosts_below
stood imps zero h has some few low = absurd (omega arith)
stood imps (suc n) h has some few low =
    let front = is_host (hosts_below imps n) h in
    let back = is_host (host_if (has_host imps (n / 4 + 1) (n % 4)) (place_of n)) h in
    list_any-append (same_host h) (hosts_below imps n) (host_if (has_host imps (n / 4 + 1) (n % 4)) (place_of n)) ∙
    elim (last_or_before (4 * h.imp + h.host) n low) [
      | inl before ↦ or_left front back (stood imps n h has some few before)
      | inr last ↦
          let is : h ≡ place_of n = at_place n h last some few in
          or_right front back (here (has_host imps (n / 4 + 1) (n % 4)) (place_of n) h (subst (λ (k : Host). has_host imps k.imp k.host ≡ true) is has) is)
    ]

-- an IMP of a topology is numbered from 1 to the greatest, and has hosts 0 to 3
record InRange (imp host : ℕ) : Type 0 where
  some : 1 ≤ imp
  most : imp ≤ most_imps
  few : host < 4

of_imp : (i : ImpHosts) (imp host : ℕ) → is_imp i ≡ true → (i.imp == imp && nat_lt host i.hosts) ≡ true → InRange imp host
of_imp i imp host good has =
    let low = and_parts (nat_le 1 i.imp) (nat_le i.imp most_imps && nat_le i.hosts 4) good in
    let high = and_parts (nat_le i.imp most_imps) (nat_le i.hosts 4) low.1 in
    let both = and_parts (i.imp == imp) (nat_lt host i.hosts) has in
    let same : i.imp ≡ imp = eqb-true i.imp imp both.0 in
    let one : 1 ≤ i.imp = let t = low.0 in grind (arith, nat_tests) in
    let greatest : i.imp ≤ most_imps = let t = high.0 in grind (arith, nat_tests) in
    let four : i.hosts ≤ 4 = let t = high.1 in grind (arith, nat_tests) in
    let below : host < i.hosts = let t = both.1 in grind (arith, nat_tests) in
    record { some = omega arith; most = omega arith; few = omega arith }

in_range : (imps : List ImpHosts) (imp host : ℕ) → list_all is_imp imps ≡ true → has_host imps imp host ≡ true → InRange imp host
in_range [] imp host good has = absurd (false≢true has)
in_range (i ∷ imps) imp host good has =
    let all = and_parts (is_imp i) (list_all is_imp imps) good in
    elim (or_cases (i.imp == imp && nat_lt host i.hosts) (has_host imps imp host) has) [
      | inl this ↦ of_imp i imp host all.0 this
      | inr other ↦ in_range imps imp host all.1 other
    ]

pub hosts_of_imps : (t : TopologyFields) (h : Host) → IsTopology t → is_host (hosts_of t) h ≡ has_host t.imps h.imp h.host
hosts_of_imps t h keeps = both_ways (is_host (hosts_of t) h) (has_host t.imps h.imp h.host) (stands t.imps (most_imps * most_hosts) h) (λ has.
    let counted : (nat_le 1 (length t.imps) ≡ true) × ((nat_le (length t.imps) most_imps && list_all is_imp t.imps) ≡ true) = and_parts (nat_le 1 (length t.imps)) (nat_le (length t.imps) most_imps && list_all is_imp t.imps) keeps.imps in
    let range : InRange h.imp h.host = in_range t.imps h.imp h.host (and_parts (nat_le (length t.imps) most_imps) (list_all is_imp t.imps) counted.1).1 has in
    let some : 1 ≤ h.imp = range.some in
    let most : h.imp ≤ most_imps = range.most in
    let few : h.host < 4 = range.few in
    stood t.imps (most_imps * most_hosts) h has some few (omega arith))

-- ---- memory

nonempty_front : (xs ys : List Host) → xs ≢ [] → xs ++ ys ≢ []
nonempty_front [] ys some e = some refl
nonempty_front (x ∷ xs) ys some e = cc

-- a host that is there and passes a test is picked
picked_back : (p : Host → Bool) (xs : List Host) (test : Bool) (g : Host) → test ≡ true → p g ≡ true
    → xs ++ filter p (host_if test g) ≢ []
picked_back p [] true g t is = λ none.
    let one : filter p (g ∷ []) ≡ g ∷ [] = rw is refl in
    let two : g ∷ [] ≡ [] = sym one ∙ none in cc
picked_back p (x ∷ xs) test g t is = λ none. cc
picked_back p [] false g t is = λ none. false≢true t

pub picked_next : (p : Host → Bool) (imps : List ImpHosts) (n : ℕ) → filter p (hosts_below imps (suc n))
    ≡ filter p (hosts_below imps n) ++ filter p (host_if (has_host imps (n / 4 + 1) (n % 4)) (place_of n))
unfolding hosts_below
picked_next p imps n =
    filter-append p (hosts_below imps n) (host_if (has_host imps (n / 4 + 1) (n % 4)) (place_of n))

more : (p : Host → Bool) (imps : List ImpHosts) (n k : ℕ) → filter p (hosts_below imps n) ≢ []
    → filter p (hosts_below imps (n + k)) ≢ []
more p imps n zero some =
    subst (λ m. filter p (hosts_below imps m) ≢ []) (let e : n ≡ n + 0 = omega arith in e) some
more p imps n (suc k) some =
    subst (λ m. filter p (hosts_below imps m) ≢ []) (let e : suc (n + k) ≡ n + suc k = omega arith in e)
    (λ none. nonempty_front (filter p (hosts_below imps (n + k)))
    (filter p (host_if (has_host imps ((n + k) / 4 + 1) ((n + k) % 4)) (place_of (n + k))))
    (more p imps n k some) (sym (picked_next p imps (n + k)) ∙ none))

-- where a host is put in its place, of those that pass a test, there is such a host
pub some_picked : (p : Host → Bool) (imps : List ImpHosts) (n : ℕ) → n < most_imps * most_hosts
    → has_host imps (n / 4 + 1) (n % 4) ≡ true → p (place_of n) ≡ true
    → filter p (hosts_below imps (most_imps * most_hosts)) ≢ []
some_picked p imps n low has is =
    subst (λ m. filter p (hosts_below imps m) ≢ [])
    (let e : suc n + (most_imps * most_hosts - suc n) ≡ most_imps * most_hosts = omega arith in e)
    (more p imps (suc n) (most_imps * most_hosts - suc n)
    (λ none. picked_back p (filter p (hosts_below imps n)) (has_host imps (n / 4 + 1) (n % 4)) (place_of n) has is
    (sym (picked_next p imps n) ∙ none)))

pub some_host : (imps : List ImpHosts) (n : ℕ) → n < most_imps * most_hosts
    → has_host imps (n / 4 + 1) (n % 4) ≡ true → hosts_below imps (most_imps * most_hosts) ≢ []
some_host imps n low has = λ none. some_picked (λ h. true) imps n low has refl (ap (filter (λ h. true)) none)

pub if_err : {T E P : Type 0} (r : Result T E) → P → IfErr r (λ e. P)
if_err (Ok x) p = tt
if_err (Err e) p = p
