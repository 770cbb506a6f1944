-- What a map has at a flow after a change at another, and at the same.
use Rattle.std.proofs.Common.{◌≡◌, ℕ, ◌<◌, Bool, true, false, not, List, [], ◌∷◌, ◌||◌, ◌&&◌, Option, Some, None, refl, ap, sym, ◌∙◌, cond, ◌==◌, if◌then◌else◌, arith, IsSome, is_some}
use Rattle.std.specs.Option.{option_map}
use Rattle.std.specs.List.{list_any}
use Rattle.std.specs.declared.cmp.Ordering.{Ordering}
use Rattle.std.specs.declared.cmp.Ordering.TheVariants.{Less, Equal, Greater}
use Rattle.std.specs.Ordering.{nat_cmp, ordering_then, eq_by_cmp, is_eq}
use Rattle.std.specs.Cmp.{eq_by_cmp_equiv}
use Rattle.std.specs.FinMap.{FinMap, get, insert, keys, get-insert, get-retain_keys, contains_key-keys}
use Rattle.interface.specs.Host.{Host, same_host, host_cmp}
use Rattle.interface.specs.Mailboxes.{same_flow}
use Rattle.interface.specs.declared.address.Flow.{Flow}
use Rattle.link_table.specs.Flows.{Sources, Destinations, ended, ended_in, changed, changed_from, begun, flow_answered, given_up, handed, number_in, answered_in, given_up_in, handed_in}
use Rattle.link_table.specs.Keys.{flow_cmp, is_from, drop_from, has_from}
use Rattle.link_table.specs.declared.destination.Fate.{Fate}
use Rattle.link_table.specs.declared.source.Standing.{Standing}
use Rattle.link_table.specs.declared.source.Standing.TheVariants as standing
use Rattle.interface.proofs.lemmas.{exact_flows, flows_total, or_false, is_equal}
use Rattle.link_table.specs.Flows.{last_of}
use Rattle.link_table.specs.Numbers.{modulus}
use Rattle.link_table.proofs.NumberLemmas.{next_in, some_number}
use Rattle.std.proofs.lemmas.Bool.{cases_order}
use Rattle.std.proofs.lemmas.Bool.Decides.{nat_tests}
use Rattle.std.proofs.Common.{◌⊎◌, inl, inr}
use Rattle.link_table.proofs.EntryLemmas.{nothing}

tied_then : (a b : Ordering) → is_eq (ordering_then a b) ≡ (is_eq a && is_eq b)
tied_then Less b = refl
tied_then Equal b = refl
tied_then Greater b = refl

both_same : (a b c d : Bool) → a ≡ b → c ≡ d → (a && c) ≡ (b && d)
both_same a b c d e f = ap (λ (x : Bool). x && c) e ∙ ap (λ (y : Bool). b && y) f

and_turned : (a b c : Bool) → (a && (b && c)) ≡ ((a && b) && c)
and_turned true b c = refl
and_turned false b c = refl

tied_numbers : (a b : ℕ) → is_eq (nat_cmp a b) ≡ (a == b)
tied_numbers a b = by (cases_order a b) where
  by : (a ≡ b) ⊎ ((a < b) ⊎ (b < a)) → is_eq (nat_cmp a b) ≡ (a == b)
  by (inl e) = grind (arith, nat_tests, e)
  by (inr (inl lt)) = grind (arith, nat_tests, lt)
  by (inr (inr lt)) = grind (arith, nat_tests, lt)

tied_hosts : (g h : Host) → is_eq (host_cmp g h) ≡ same_host g h
tied_hosts g h =
    tied_then (nat_cmp g.imp h.imp) (nat_cmp g.host h.host)
    ∙ both_same (is_eq (nat_cmp g.imp h.imp)) (g.imp == h.imp) (is_eq (nat_cmp g.host h.host)) (g.host == h.host) (tied_numbers g.imp h.imp) (tied_numbers g.host h.host)

-- flows that compare alike are the same flow
tied_flows : (f g : Flow) → eq_by_cmp flow_cmp f g ≡ same_flow f g
tied_flows f g =
    let source : Bool = is_eq (host_cmp f.source g.source) in
    let destination : Bool = is_eq (host_cmp f.destination g.destination) in
    let link : Bool = is_eq (nat_cmp f.link.0 g.link.0) in
    let ends : (source && destination) ≡ (same_host f.source g.source && same_host f.destination g.destination) =
    both_same source (same_host f.source g.source) destination (same_host f.destination g.destination) (tied_hosts f.source g.source) (tied_hosts f.destination g.destination) in
    tied_then (host_cmp f.source g.source) (ordering_then (host_cmp f.destination g.destination) (nat_cmp f.link.0 g.link.0))
    ∙ ap (λ (b : Bool). source && b) (tied_then (host_cmp f.destination g.destination) (nat_cmp f.link.0 g.link.0))
    ∙ and_turned source destination link
    ∙ both_same (source && destination) (same_host f.source g.source && same_host f.destination g.destination) link (f.link.0 == g.link.0) ends (tied_numbers f.link.0 g.link.0)

-- after one flow's value was put in
pub get_put : {V : Type 0} (m : FinMap flow_cmp V) (f g : Flow) (v : V) → get (insert m f v) g ≡ (if same_flow g f then Some v else get m g)
get_put m f g v = get-insert flows_total m f v g ∙ ap (λ b. cond b (Some v) (get m g)) (tied_flows g f)

-- what a map has at a flow goes for the same flow by another name
pub get_same : {V : Type 0} (m : FinMap flow_cmp V) (f g : Flow) → same_flow g f ≡ true → get m g ≡ get m f
get_same m f g e = ap (get m) (exact_flows g f (is_equal (flow_cmp g f) (tied_flows g f ∙ e)))

-- after what is known of one flow was changed
pub get_changed : {V : Type 0} (change : V → V) (m : FinMap flow_cmp V) (f g : Flow) → get (changed change m f) g ≡ (if same_flow g f then option_map change (get m f) else get m g)
get_changed {V} change m f g = by (get m f) refl where
  none : (b : Bool) → same_flow g f ≡ b → get m f ≡ None → get m g ≡ (if b then None else get m g)
  none true e n = get_same m f g e ∙ n
  none false e n = refl

  by : (o : Option V) → get m f ≡ o → get (changed_from change m f o) g ≡ (if same_flow g f then option_map change o else get m g)
  by None e = none (same_flow g f) refl e
  by (Some v) e = get_put m f g (change v)

pub get_begun : (m : Sources) (f g : Flow) → get (begun m f) g ≡ (if same_flow g f then Some (standing.Outstanding (number_in (get m f))) else get m g)
unfolding begun
get_begun m f g = get_put m f g (standing.Outstanding (number_in (get m f)))

pub get_answered : (m : Sources) (f g : Flow) (n : ℕ) → get (flow_answered m f n) g ≡ (if same_flow g f then option_map (answered_in n) (get m f) else get m g)
unfolding flow_answered
get_answered m f g n = get_changed (answered_in n) m f g

pub get_given_up : (m : Sources) (f g : Flow) → get (given_up m f) g ≡ (if same_flow g f then option_map given_up_in (get m f) else get m g)
unfolding given_up
get_given_up m f g = get_changed given_up_in m f g

pub get_handed : (m : Sources) (f g : Flow) → get (handed m f) g ≡ (if same_flow g f then option_map handed_in (get m f) else get m g)
unfolding handed
get_handed m f g = get_changed handed_in m f g

-- after a message met another fate
pub get_ended : (m : Destinations) (f g : Flow) (n : ℕ) (new : Fate) → get (ended m f n new) g ≡ (if same_flow g f then option_map (ended_in n new) (get m f) else get m g)
unfolding ended
get_ended m f g n new = get_changed (ended_in n new) m f g

-- what is begun is a number
pub number_begun : (s : Option Standing) → number_in s < modulus
number_begun None = some_number
number_begun (Some s) = next_in (last_of s)

-- after the flows from an IMP were dropped
pub get_dropped : {V : Type 0} (m : FinMap flow_cmp V) (imp : ℕ) (g : Flow) → get (drop_from imp m) g ≡ (if is_from imp g then None else get m g)
get_dropped m imp g =
    get-retain_keys m (λ f. not (is_from imp f)) g (λ f e. ap (λ x. not (is_from imp x)) (sym (exact_flows g f e)))
    ∙ turned (is_from imp g) where
      turned : (b : Bool) → cond (not b) (get m g) None ≡ (if b then None else get m g)
      turned true = refl
      turned false = refl

-- a flow from an IMP is in no list in which none is from there
apart : (imp : ℕ) (g : Flow) (fs : List Flow) → is_from imp g ≡ true → list_any (is_from imp) fs ≡ false → list_any (eq_by_cmp flow_cmp g) fs ≡ false
apart imp g [] from none = refl
apart imp g (f ∷ fs) from none =
    let parts : (is_from imp f ≡ false) × (list_any (is_from imp) fs ≡ false) = or_false (is_from imp f) (list_any (is_from imp) fs) none in
    by (eq_by_cmp flow_cmp g f) refl parts.0 (apart imp g fs from parts.1) where
      by : (b : Bool) → eq_by_cmp flow_cmp g f ≡ b → is_from imp f ≡ false → list_any (eq_by_cmp flow_cmp g) fs ≡ false → (b || list_any (eq_by_cmp flow_cmp g) fs) ≡ false
      by true e other rest = (let same : is_from imp g ≡ is_from imp f = ap (is_from imp) (exact_flows g f (is_equal (flow_cmp g f) e)) in absurd (cc))
      by false e other rest = rest

pub kept_none : {V : Type 0} (m : FinMap flow_cmp V) (imp : ℕ) → has_from imp m ≡ false → (g : Flow) → is_from imp g ≡ true → get m g ≡ None
kept_none m imp none g from = nothing (get m g) (contains_key-keys m g ∙ apart imp g (keys m) from none)

-- a flow of a list that is from an IMP
record Found (imp : ℕ) (fs : List Flow) : Type 0 where
  pub flow : Flow
  pub from : is_from imp flow ≡ true
  pub among : list_any (eq_by_cmp flow_cmp flow) fs ≡ true

found : (imp : ℕ) (fs : List Flow) → list_any (is_from imp) fs ≡ true → Found imp fs
found imp [] some = absurd (cc)
found imp (f ∷ fs) some = by (is_from imp f) refl some (found imp fs) where
  or_true : (a b : Bool) → b ≡ true → (a || b) ≡ true
  or_true true b e = refl
  or_true false b e = e

  more : Found imp fs → Found imp (f ∷ fs)
  more h = record { flow = h.flow; from = h.from; among = or_true (eq_by_cmp flow_cmp h.flow f) (list_any (eq_by_cmp flow_cmp h.flow) fs) h.among }

  itself : eq_by_cmp flow_cmp f f ≡ true
  itself = (eq_by_cmp_equiv flows_total).refl f

  by : (b : Bool) → is_from imp f ≡ b → (b || list_any (is_from imp) fs) ≡ true → (list_any (is_from imp) fs ≡ true → Found imp fs) → Found imp (f ∷ fs)
  by true e h rest = record { flow = f; from = e; among = ap (λ (b : Bool). b || list_any (eq_by_cmp flow_cmp f) fs) itself }
  by false e h rest = more (rest h)

pub kept_one : {V : Type 0} (m : FinMap flow_cmp V) (imp : ℕ) → has_from imp m ≡ true → (g : Flow) × (is_from imp g ≡ true) × IsSome (get m g)
kept_one m imp some =
    let h : Found imp (keys m) = found imp (keys m) some in
    (h.flow, h.from, contains_key-keys m h.flow ∙ h.among)
