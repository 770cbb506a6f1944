-- Strangers are hosts of the network, in their order, and a raw network has none.
use Rattle.topology.proofs.Common.{nat_tests, Host, is_host, same_host, true, ◌≡◌, Data}
use Rattle.std.proofs.Common.{Bool, false, List, [], ◌∷◌, Option, None, Some, ℕ, arith, codes, filter, nat_le, nat_lt, refl, subst, sym, ◌∙◌}
use Rattle.std.proofs.lemmas.Bool.{and_parts, false≢true, or_left, or_right}
use Rattle.std.proofs.lemmas.List.Elements.{All-cons, All-filter, All-nil, All-weaker}
use Rattle.std.specs.List.{All}
use Rattle.std.specs.Prelude.{option_and_then}
use Rattle.toml.specs.Data.{Items, as_array, get, item, no_items}
use Rattle.interface.proofs.lemmas.{and_none, same_host-refl}
use Rattle.topology.specs.Topology.{ArePicked, IsTopology, TopologyFields, all_foreign, are_foreign, are_numbers, hosts_of, is_between, is_foreign, is_number, items_in, named_in, names, naming, number_at, number_of, topology_if}

each_there : (hosts : List Host) → All (λ h. is_host hosts h ≡ true) hosts
each_there [] = All-nil (λ h. is_host [] h ≡ true)
each_there (g ∷ hosts) =
    All-cons (λ h. is_host (g ∷ hosts) h ≡ true) g hosts
    (or_left (same_host g g) (is_host hosts g) (same_host-refl g))
    (All-weaker (λ h. is_host hosts h ≡ true) (λ h. is_host (g ∷ hosts) h ≡ true)
    (λ h there. or_right (same_host h g) (is_host hosts h) there) hosts (each_there hosts))

-- hosts that are picked out of these are some of them
pub picked_there : (hosts strangers : List Host) → ArePicked hosts strangers → All (λ h. is_host hosts h ≡ true) strangers
picked_there hosts strangers (p, picked) =
    subst (All (λ h. is_host hosts h ≡ true)) (sym picked)
    (All-filter p (λ h. is_host hosts h ≡ true) hosts (each_there hosts))

none_kept : (p : Host → Bool) (hosts : List Host) → ((h : Host) → p h ≡ false) → filter p hosts ≡ []
none_kept p [] none = refl
none_kept p (h ∷ hosts) none = rw (none h) (none_kept p hosts none)

-- nobody is picked
pub none_picked : (hosts strangers : List Host) → strangers ≡ [] → ArePicked hosts strangers
none_picked hosts strangers none = (λ h. false, none ∙ sym (none_kept (λ h. false) hosts (λ h. refl)))

-- ---- a raw network

none_below : (n : Option ℕ) → is_between 0 0 n ≡ false
none_below None = refl
none_below (Some n) = let none : nat_lt n 0 ≡ false = grind (arith, nat_tests) in rw none (and_none (nat_le 0 n))

no_numbers : (host : ℕ) (hosts : Option ℕ) (items : Option Items) → are_numbers true hosts items ≡ true
    → names host (items_in items) ≡ false
no_numbers host None items e = absurd (false≢true e)
no_numbers host (Some hosts) None e = absurd (false≢true e)
no_numbers host (Some hosts) (Some no_items) e = refl
no_numbers host (Some hosts) (Some (item d items)) e =
    absurd (false≢true (sym (none_below (number_of d)) ∙ (and_parts _ _ e).0))

no_foreign : (host : ℕ) (imp : Data) (o : Option Data) → are_foreign true imp o ≡ true
    → names host (items_in (option_and_then as_array o)) ≡ false
no_foreign host imp None e = refl
no_foreign host imp (Some d) e = no_numbers host (number_at (codes "hosts") imp) (as_array d) e

-- in a raw network no IMP may name a stranger
none_foreign : (imps : Items) (h : Host) → all_foreign true imps ≡ true → is_foreign imps h ≡ false
none_foreign no_items h e = refl
none_foreign (item imp imps) h e =
    let (first, rest) = and_parts (are_foreign true imp (get (codes "foreign") imp)) (all_foreign true imps) e in
    rw (no_foreign h.host imp (get (codes "foreign") imp) first, and_none (is_number h.imp (number_at (codes "id") imp)))
    (none_foreign imps h rest)

-- ---- the rules

-- a topology keeps its rules with the strangers that its IMPs name rightly
pub named_keeps : (imps : Items) (t : TopologyFields) (named : List Host) → IsTopology t
    → all_foreign t.raw imps ≡ true → named ≡ named_in imps t.imps → IsTopology (record t { strangers = named })
named_keeps imps t named keeps right are = record {
  imps = keeps.imps;
  rising = keeps.rising;
  lines = keeps.lines;
  strangers = (is_foreign imps, are);
  programs = λ raw.
      are
      ∙ none_kept (is_foreign imps) (hosts_of t)
      (λ h. none_foreign imps h (subst (λ r. all_foreign r imps ≡ true) raw right));
}

if_right : (right : Bool) (n t : TopologyFields) → topology_if right n ≡ Some t → (right ≡ true) × (n ≡ t)
if_right true n t e = (refl, (let same : Some n ≡ Some t = e in cc))
if_right false n t e = absurd (let no : None ≡ Some t = e in cc)

pub naming_keeps : (imps : Items) (o : Option TopologyFields) → ((t : TopologyFields) → o ≡ Some t → IsTopology t)
    → (t : TopologyFields) → option_and_then (naming imps) o ≡ Some t → IsTopology t
naming_keeps imps None keeps t e = absurd (let no : None ≡ Some t = e in cc)
naming_keeps imps (Some n) keeps t e =
    let (right, is) = if_right (all_foreign n.raw imps) (record n { strangers = named_in imps n.imps }) t e in
    subst IsTopology is (named_keeps imps n (named_in imps n.imps) (keeps n refl) right refl)
