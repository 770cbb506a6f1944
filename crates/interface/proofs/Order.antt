-- The order of hosts and of flows.
use Rattle.std.proofs.Common.{◌≡◌, ℕ, zero, ◌<◌, ◌==◌, nat_lt, true, false, List, [], ◌∷◌, ◌⊎◌, refl, ap, sym, subst, arith, suc, Some, inl, inr}
use Rattle.std.specs.List.{slice_get}
use Rattle.std.specs.declared.cmp.Ordering.{Ordering}
use Rattle.std.specs.declared.cmp.Ordering.TheVariants.{Less, Equal, Greater}
use Rattle.std.specs.Ordering.{nat_cmp, ordering_then, ordering_reverse, is_lt}
use Rattle.std.specs.Cmp.{IsTotalOrder, nat_cmp_total}
use Rattle.std.proofs.lemmas.Bool.Decides.{nat_tests}
use Rattle.std.proofs.lemmas.Cmp.{on_total, then_total}
use Rattle.std.proofs.lemmas.Map.Lookups.{CmpEqualImpliesEq, exact_pairs, exact_unsigned}
use Rattle.interface.specs.Host.{Host, host_cmp, host_before, InOrder}
use Rattle.interface.specs.Flow.{flow_cmp, flow_before, same_flow}
use Rattle.interface.specs.declared.address.Flow.{Flow}
use Rattle.interface.proofs.Lists.{same_flow-refl}

pub hosts_total : IsTotalOrder host_cmp
hosts_total = then_total (on_total (λ h. h.imp) nat_cmp_total) (on_total (λ h. h.host) nat_cmp_total)

pub flows_total : IsTotalOrder flow_cmp
flows_total = then_total (on_total (λ f. f.source) hosts_total) (then_total (on_total (λ f. f.destination) hosts_total) (on_total (λ f. f.link.0) nat_cmp_total))

-- hosts that compare alike are one, and so are flows
pub exact_hosts : CmpEqualImpliesEq host_cmp
exact_hosts g h e = ap (λ (p : ℕ × ℕ). record { imp = p.0; host = p.1 }) (exact_pairs nat_cmp nat_cmp exact_unsigned exact_unsigned (g.imp, g.host) (h.imp, h.host) e)

pub exact_flows : CmpEqualImpliesEq flow_cmp
exact_flows f g e = ap (λ (p : Host × (Host × ℕ)). record { source = p.0; destination = p.1.0; link = record { 0 = p.1.1 } })
    (exact_pairs host_cmp (λ (a b : Host × ℕ). ordering_then (host_cmp a.0 b.0) (nat_cmp a.1 b.1)) exact_hosts (exact_pairs host_cmp nat_cmp exact_hosts exact_unsigned)
    (f.source, (f.destination, f.link.0)) (g.source, (g.destination, g.link.0)) e)

-- ---- before

is_less : (o : Ordering) → is_lt o ≡ true → o ≡ Less
is_less Less e = refl
is_less Equal e = absurd (cc)
is_less Greater e = absurd (cc)

trans_of : {K : Type 0} {R : K → K → Ordering} → IsTotalOrder R → (x y z : K) → is_lt (R x y) ≡ true → is_lt (R y z) ≡ true → is_lt (R x z) ≡ true
trans_of {K} {R} total x y z a b = ap is_lt (total.trans x y z (is_less (R x y) a) (is_less (R y z) b))

reversed_alike : (o : Ordering) → o ≡ ordering_reverse o → is_lt o ≡ false
reversed_alike Less e = absurd (cc)
reversed_alike Equal e = refl
reversed_alike Greater e = refl

never_of : {K : Type 0} {R : K → K → Ordering} → IsTotalOrder R → (x : K) → is_lt (R x x) ≡ false
never_of {K} {R} total x = reversed_alike (R x x) (total.antisymm x x)

other_way : (o p : Ordering) → p ≡ ordering_reverse o → is_lt o ≡ false → (o ≡ Equal) ⊎ (is_lt p ≡ true)
other_way Less p e h = absurd (cc)
other_way Equal p e h = inl refl
other_way Greater p e h = inr (ap is_lt e)

pub host_before_trans : (g h k : Host) → host_before g h ≡ true → host_before h k ≡ true → host_before g k ≡ true
host_before_trans g h k = trans_of hosts_total g h k

pub host_before_never : (h : Host) → host_before h h ≡ false
host_before_never h = never_of hosts_total h

less_cmp : (x y : ℕ) → x < y → nat_cmp x y ≡ Less
less_cmp x y lt = let test : nat_lt x y ≡ true = grind (arith, nat_tests, lt) in rw test refl

same_cmp : (x y : ℕ) → x ≡ y → nat_cmp x y ≡ Equal
same_cmp x y e =
    let less : nat_lt x y ≡ false = grind (arith, nat_tests, e) in
    let same : (x == y) ≡ true = grind (arith, nat_tests, e) in
    rw less (rw same refl)

-- a host at an earlier IMP, or of a lower number at the same one, is before another
pub before_from_numbers : (g h : Host) → (g.imp < h.imp) ⊎ ((g.imp ≡ h.imp) × (g.host < h.host)) → host_before g h ≡ true
before_from_numbers g h lower = elim lower [
  | inl imp ↦ rw (less_cmp g.imp h.imp imp) refl
  | inr host ↦ rw (same_cmp g.imp h.imp host.0) (rw (less_cmp g.host h.host host.1) refl)
]

pub flow_before_trans : (f g h : Flow) → flow_before f g ≡ true → flow_before g h ≡ true → flow_before f h ≡ true
flow_before_trans f g h = trans_of flows_total f g h

pub flow_before_never : (f : Flow) → flow_before f f ≡ false
flow_before_never f = never_of flows_total f

-- of two flows that differ one is before the other
pub flow_before_else : (f g : Flow) → same_flow g f ≡ false → flow_before f g ≡ false → flow_before g f ≡ true
flow_before_else f g differ h = elim (other_way (flow_cmp f g) (flow_cmp g f) (flows_total.antisymm g f) h) [
  | inl same ↦ (
      let P : Flow → Type 0 = λ k. same_flow g k ≡ true in
      let one : same_flow g f ≡ true = subst P (sym (exact_flows f g same)) (same_flow-refl g) in
      absurd (cc)
      )
  | inr before ↦ before
]

-- ---- each host once

some_same : {X : Type 0} {x y : X} → Some x ≡ Some y → x ≡ y
some_same e = cc

first_before : (g : Host) (hosts : List Host) (j : ℕ) (h : Host) → InOrder (g ∷ hosts) → slice_get hosts j ≡ Some h → host_before g h ≡ true
first_before g [] j h order at = absurd (cc)
first_before g (k ∷ hosts) zero h order at = let P : Host → Type 0 = λ x. host_before g x ≡ true in subst P (some_same at) order.0
first_before g (k ∷ hosts) (suc j) h order at = host_before_trans g k h order.0 (first_before k hosts j h order.1 at)

later_order : (g : Host) (hosts : List Host) → InOrder (g ∷ hosts) → InOrder hosts
later_order g [] order = tt
later_order g (h ∷ hosts) order = order.1

not_again : (g : Host) (hosts : List Host) (j : ℕ) (h : Host) → InOrder (g ∷ hosts) → Some g ≡ Some h → slice_get hosts j ≡ Some h → ⊥
not_again g hosts j h order first at =
    let P : Host → Type 0 = λ x. host_before x h ≡ true in
    let before : host_before h h ≡ true = subst P (some_same first) (first_before g hosts j h order at) in
    let never : host_before h h ≡ false = host_before_never h in
    absurd (cc)

pub each_once : (hosts : List Host) (i j : ℕ) (h : Host) → InOrder hosts → slice_get hosts i ≡ Some h → slice_get hosts j ≡ Some h → i ≡ j
each_once [] i j h order at again = absurd (cc)
each_once (g ∷ hosts) zero zero h order at again = refl
each_once (g ∷ hosts) zero (suc j) h order at again = absurd (not_again g hosts j h order at again)
each_once (g ∷ hosts) (suc i) zero h order at again = absurd (not_again g hosts i h order again at)
each_once (g ∷ hosts) (suc i) (suc j) h order at again = ap suc (each_once hosts i j h (later_order g hosts order) at again)
