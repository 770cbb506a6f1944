-- What sites are like, and which hosts they list.
use Rattle.topology.proofs.Common.{div-add-mod, mod_below, nat_tests, list_all, range_with_len, Host, most_imps, ImpHosts}
use Rattle.std.proofs.Common.{◌≡◌, ℕ, zero, suc, ◌<◌, ◌≤◌, ◌+◌, ◌*◌, ◌/◌, ◌%◌, ◌==◌, ◌&&◌, nat_lt, nat_le, Bool, true, false, List, [], ◌∷◌, ◌++◌, All, length, map, Option, Some, None, refl, sym, ap, ◌∙◌, arith, lit<, append-nil, append_assoc, IfSome, eqb-true, inl, inr}
use Rattle.std.proofs.lemmas.Bool.{cases_Bool, and_parts}
use Rattle.std.proofs.lemmas.List.Elements.{All-nil, All-cons}
use Rattle.std.proofs.lemmas.List.FromFn.{map-range_with_len_more, length-map-range_with_len}
use Rattle.topology.specs.Topology.{AreSites, IsRising, IsTopology, TopologyFields, has_host, host_if, hosts_at, hosts_below, hosts_from, hosts_of, is_imp, site_of, sites_of}
use Rattle.topology.proofs.Hosts.{place_of}
use Rattle.interface.proofs.lemmas.{or_nothing}

-- ---- one site

-- whether there are enough hosts that one has this number
abbrev in_site : Option ℕ → ℕ → Bool
in_site None host = false
in_site (Some count) host = nat_lt host count

unlike : (x n : ℕ) → (x ≡ n → ⊥) → (x == n) ≡ false
unlike x n other = elim (cases_Bool (x == n)) [
  | inl same ↦ absurd (other (eqb-true x n same))
  | inr differs ↦ differs
]

-- no IMP after one has its number or one below
none_behind : (i : ImpHosts) (imps : List ImpHosts) (n host : ℕ) → IsRising (i ∷ imps) → n ≤ i.imp → has_host imps n host ≡ false
none_behind i [] n host rising low = refl
none_behind i (j ∷ imps) n host rising low =
    let above : i.imp < j.imp = rising.0 in
    let other : (j.imp == n) ≡ false = unlike j.imp n (λ e. omega (arith, above, low, e)) in
    rw other (none_behind j imps n host rising.1 (omega (arith, above, low)))

rest_rises : (i : ImpHosts) (imps : List ImpHosts) → IsRising (i ∷ imps) → IsRising imps
rest_rises i [] rising = tt
rest_rises i (j ∷ imps) rising = rising.1

hosts_there : (imps : List ImpHosts) (n host : ℕ) → IsRising imps → has_host imps n host ≡ in_site (site_of imps n) host
hosts_there [] n host rising = refl
hosts_there (i ∷ imps) n host rising = elim (cases_Bool (i.imp == n)) [
  | inl same ↦ (
      let is : i.imp ≡ n = eqb-true i.imp n same in
      let behind : has_host imps n host ≡ false = none_behind i imps n host rising (omega (arith, is)) in
      rw (same, behind) (or_nothing (nat_lt host i.hosts)))
  | inr other ↦ rw other (hosts_there imps n host (rest_rises i imps rising))
]

-- an IMP that is found keeps the rules
site_few : (imps : List ImpHosts) (n : ℕ) → list_all is_imp imps ≡ true → IfSome (site_of imps n) (λ count. count ≤ 4)
site_few [] n good = tt
site_few (i ∷ imps) n good =
    let all : (is_imp i ≡ true) × (list_all is_imp imps ≡ true) = and_parts (is_imp i) (list_all is_imp imps) good in
    let low : (nat_le 1 i.imp ≡ true) × ((nat_le i.imp most_imps && nat_le i.hosts 4) ≡ true) = and_parts (nat_le 1 i.imp) (nat_le i.imp most_imps && nat_le i.hosts 4) all.0 in
    let high : (nat_le i.imp most_imps ≡ true) × (nat_le i.hosts 4 ≡ true) = and_parts (nat_le i.imp most_imps) (nat_le i.hosts 4) low.1 in
    let few : i.hosts ≤ 4 = let t = high.1 in grind (arith, nat_tests) in
    elim (cases_Bool (i.imp == n)) [
      | inl same ↦ rw same few
      | inr other ↦ rw other (site_few imps n all.1)
    ]

none_at_zero : (imps : List ImpHosts) → list_all is_imp imps ≡ true → site_of imps 0 ≡ None
none_at_zero [] good = refl
none_at_zero (i ∷ imps) good =
    let all : (is_imp i ≡ true) × (list_all is_imp imps ≡ true) = and_parts (is_imp i) (list_all is_imp imps) good in
    let low : (nat_le 1 i.imp ≡ true) × ((nat_le i.imp most_imps && nat_le i.hosts 4) ≡ true) = and_parts (nat_le 1 i.imp) (nat_le i.imp most_imps && nat_le i.hosts 4) all.0 in
    let some : 1 ≤ i.imp = let t = low.0 in grind (arith, nat_tests) in
    rw (unlike i.imp 0 (λ e. omega (arith, some, e))) (none_at_zero imps all.1)

are_good : (t : TopologyFields) → IsTopology t → list_all is_imp t.imps ≡ true
are_good t keeps =
    let counted : (nat_le 1 (length t.imps) ≡ true) × ((nat_le (length t.imps) most_imps && list_all is_imp t.imps) ≡ true) = and_parts (nat_le 1 (length t.imps)) (nat_le (length t.imps) most_imps && list_all is_imp t.imps) keeps.imps in
    (and_parts (nat_le (length t.imps) most_imps) (list_all is_imp t.imps) counted.1).1

all_few : (imps : List ImpHosts) (a n : ℕ) → list_all is_imp imps ≡ true → All (λ site. IfSome site (λ count. count ≤ 4)) (map (site_of imps) (range_with_len a n))
all_few imps a zero good = All-nil (λ site. IfSome site (λ count. count ≤ 4))
all_few imps a (suc n) good = All-cons (λ site. IfSome site (λ count. count ≤ 4)) (site_of imps a) (map (site_of imps) (range_with_len (a + 1) n)) (site_few imps a good) (all_few imps (a + 1) n good)

pub sites_kept : (t : TopologyFields) → IsTopology t → AreSites (sites_of t)
sites_kept t keeps = record {
  none = none_at_zero t.imps (are_good t keeps);
  numbers = length-map-range_with_len (site_of t.imps) 0 (most_imps + 1);
  counts = all_few t.imps 0 (most_imps + 1) (are_good t keeps);
}

-- ---- the hosts that they list

hosts_more : (number : ℕ) (sites : List (Option ℕ)) (site : Option ℕ) (last : ℕ) → number + length sites ≡ last → hosts_from number (sites ++ site ∷ []) ≡ hosts_from number sites ++ hosts_at last site
hosts_more number [] site last is = append-nil (hosts_at number site) ∙ ap (λ n. hosts_at n site) (let e : number ≡ last = omega (arith, is) in e)
hosts_more number (first ∷ sites) site last is =
    ap (λ hosts. hosts_at number first ++ hosts) (hosts_more (number + 1) sites site last (omega (arith, is)))
    ∙ sym (append_assoc (hosts_at number first) (hosts_from (number + 1) sites) (hosts_at last site))

record StandsAt (place number host : ℕ) : Type 0 where
  number_is : place / 4 + 1 ≡ number
  host_is : place % 4 ≡ host

stands_at : (place m host : ℕ) → place ≡ 4 * m + host → host < 4 → StandsAt place (m + 1) host
stands_at place m host is few =
    let parts : 4 * (place / 4) + place % 4 ≡ place = div-add-mod place 4 in
    let low : place % 4 < 4 = mod_below place 4 (lit< tt) in
    record { number_is = omega arith; host_is = omega arith }

-- a host at its place
at_place : (imps : List ImpHosts) (place n host : ℕ) → IsRising imps → StandsAt place n host
    → host_if (has_host imps (place / 4 + 1) (place % 4)) (place_of place) ≡ host_if (in_site (site_of imps n) host) (record { imp = n; host = host })
at_place imps place n host rising is = rw (is.number_is, is.host_is) (ap (λ there. host_if there (record { imp = n; host = host })) (hosts_there imps n host rising))

abbrev if_in : ℕ → Option ℕ → ℕ → List Host
if_in n site host = host_if (in_site site host) (record { imp = n; host = host })

-- the four places of one IMP
four : (n : ℕ) (site : Option ℕ) → IfSome site (λ count. count ≤ 4) → if_in n site 0 ++ (if_in n site 1 ++ (if_in n site 2 ++ if_in n site 3)) ≡ hosts_at n site
four n None few = refl
four n (Some zero) few = refl
four n (Some (suc zero)) few = refl
four n (Some (suc (suc zero))) few = refl
four n (Some (suc (suc (suc zero)))) few = refl
four n (Some (suc (suc (suc (suc zero))))) few = refl
four n (Some (suc (suc (suc (suc (suc count)))))) few = absurd (let h : suc (suc (suc (suc (suc count)))) ≤ 4 = few in omega (arith, h))

together : (xs a b c d : List Host) → (((xs ++ a) ++ b) ++ c) ++ d ≡ xs ++ (a ++ (b ++ (c ++ d)))
together xs a b c d = append_assoc ((xs ++ a) ++ b) c d ∙ append_assoc (xs ++ a) b (c ++ d) ∙ append_assoc xs a (b ++ (c ++ d))

four_more : (imps : List ImpHosts) (m p : ℕ) → IsRising imps → list_all is_imp imps ≡ true → p ≡ 4 * m → hosts_below imps (suc (suc (suc (suc p)))) ≡ hosts_below imps p ++ hosts_at (m + 1) (site_of imps (m + 1))
unfolding hosts_below
four_more imps m p rising good is =
    rw (
      at_place imps p (m + 1) 0 rising (stands_at p m 0 (omega (arith, is)) (lit< tt)),
      at_place imps (suc p) (m + 1) 1 rising (stands_at (suc p) m 1 (omega (arith, is)) (lit< tt)),
      at_place imps (suc (suc p)) (m + 1) 2 rising (stands_at (suc (suc p)) m 2 (omega (arith, is)) (lit< tt)),
      at_place imps (suc (suc (suc p))) (m + 1) 3 rising (stands_at (suc (suc (suc p))) m 3 (omega (arith, is)) (lit< tt)),
    )
    (together (hosts_below imps p) (if_in (m + 1) (site_of imps (m + 1)) 0) (if_in (m + 1) (site_of imps (m + 1)) 1) (if_in (m + 1) (site_of imps (m + 1)) 2) (if_in (m + 1) (site_of imps (m + 1)) 3)
    ∙ ap (λ hosts. hosts_below imps p ++ hosts) (four (m + 1) (site_of imps (m + 1)) (site_few imps (m + 1) good)))

-- one number more
pub sites_more : (imps : List ImpHosts) (n : ℕ) → map (site_of imps) (range_with_len 0 (n + 1)) ≡ map (site_of imps) (range_with_len 0 n) ++ site_of imps n ∷ []
sites_more imps n = map-range_with_len_more (site_of imps) 0 n n (omega arith)

listed_below : (imps : List ImpHosts) (m : ℕ) → IsRising imps → list_all is_imp imps ≡ true → hosts_below imps (4 * m) ≡ hosts_from 0 (map (site_of imps) (range_with_len 0 (m + 1)))
unfolding hosts_below
listed_below imps zero rising good = rw (none_at_zero imps good) refl
listed_below imps (suc m) rising good =
    let places : 4 * suc m ≡ suc (suc (suc (suc (4 * m)))) = omega arith in
    let counted : length (map (site_of imps) (range_with_len 0 (m + 1))) ≡ m + 1 = length-map-range_with_len (site_of imps) 0 (m + 1) in
    let count : 0 + length (map (site_of imps) (range_with_len 0 (m + 1))) ≡ m + 1 = omega (arith, counted) in
    ap (hosts_below imps) places ∙ four_more imps m (4 * m) rising good refl
    ∙ ap (λ hosts. hosts ++ hosts_at (m + 1) (site_of imps (m + 1))) (listed_below imps m rising good)
    ∙ sym (hosts_more 0 (map (site_of imps) (range_with_len 0 (m + 1))) (site_of imps (m + 1)) (m + 1) count)
    ∙ ap (hosts_from 0) (sym (sites_more imps (m + 1)))
    ∙ ap (λ n. hosts_from 0 (map (site_of imps) (range_with_len 0 n))) (let e : m + 1 + 1 ≡ suc m + 1 = omega arith in e)

pub hosts_listed : (t : TopologyFields) → IsTopology t → hosts_of t ≡ hosts_from 0 (sites_of t)
hosts_listed t keeps = listed_below t.imps most_imps keeps.rising (are_good t keeps)
