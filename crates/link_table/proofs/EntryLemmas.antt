-- The entries of a map, in the order of its flows.
use Rattle.std.proofs.Common.{T, unwrap_or, ◌≡◌, ◌==◌, ℕ, Bool, true, false, List, [], ◌∷◌, ◌||◌, ◌&&◌, Option, Some, None, IsSome, is_some, refl, ap, sym, ◌∙◌, cond}
use Rattle.std.specs.List.{list_any, AllByRecursion}
use Rattle.std.specs.List.Sorted.{IsStrictlySortedBy}
use Rattle.std.specs.declared.cmp.Ordering.{Ordering}
use Rattle.std.specs.declared.cmp.Ordering.TheVariants.{Less, Equal, Greater}
use Rattle.std.specs.Ordering.{eq_by_cmp, is_lt, is_eq, ordering_reverse}
use Rattle.std.specs.Cmp.{eq_by_cmp_equiv}
use Rattle.std.specs.FinMap.{entries, entries_sorted, get, get-entries, from_entries, from_sorted, get-from_entries, get-from_sorted, entries-from_sorted, same_map}
use Rattle.std.specs.FinMap.Entries.{find, below_all, is_sorted}
use Rattle.std.specs.Map.{keys_of}
use Rattle.std.proofs.lemmas.Bool.{and_from}
use Rattle.interface.specs.Host.{Host, same_host}
use Rattle.interface.specs.declared.address.Flow.{Flow}
use Rattle.link_table.specs.Keys.{flow_cmp}
use Rattle.link_table.specs.Flows.{Sources, outstanding_in, has_outstanding, has_outstanding_to}
use Rattle.link_table.specs.declared.source.Standing.{Standing}
use Rattle.interface.proofs.lemmas.{exact_flows, flows_total, or_false, and_first, and_second, is_equal}

-- ---- the map of entries whose flows rise

rises : {V : Type 0} (f : Flow) (es : List (Flow × V)) → AllByRecursion (λ g. flow_cmp f g ≡ Less) (keys_of es) → below_all flow_cmp f es ≡ true
rises f [] h = refl
rises f (e ∷ es) h = and_from (is_lt (flow_cmp f e.0)) (below_all flow_cmp f es) (ap is_lt h.0) (rises f es h.1)

sorted_from : {V : Type 0} (es : List (Flow × V)) → IsStrictlySortedBy flow_cmp (keys_of es) → is_sorted flow_cmp es ≡ true
unfolding IsStrictlySortedBy
sorted_from [] h = refl
sorted_from (e ∷ es) h = and_from (below_all flow_cmp e.0 es) (is_sorted flow_cmp es) (rises e.0 es h.0) (sorted_from es h.1)

known : (b : Bool) → T b → b ≡ true
known true t = refl
known false t = absurd t

told : (b : Bool) → b ≡ true → T b
told true e = tt
told false e = absurd (cc)

-- entries whose flows rise are those of the map that they make
pub entries_again : {V : Type 0} (es : List (Flow × V)) → IsStrictlySortedBy flow_cmp (keys_of es) → entries (from_entries {R = flow_cmp} es) ≡ es
entries_again es h =
    let sorted : T (is_sorted flow_cmp es) = told (is_sorted flow_cmp es) (sorted_from es h) in
    ap entries (same_map flows_total exact_flows (from_entries {R = flow_cmp} es) (from_sorted {R = flow_cmp} es)
    (λ f. get-from_entries flows_total es f ∙ sym (get-from_sorted flow_cmp es f sorted)))
    ∙ entries-from_sorted flow_cmp es sorted

-- ---- what a map has at the flow of an entry

above_is_other : (o : Ordering) → is_lt o ≡ true → is_eq (ordering_reverse o) ≡ false
above_is_other Less e = refl
above_is_other Equal e = absurd (cc)
above_is_other Greater e = absurd (cc)

-- an entry that passes a test, and what its flow finds
record Found {V : Type 0} (test : Flow × V → Bool) (es : List (Flow × V)) : Type 0 where
  pub flow : Flow
  pub value : V
  pub passes : test (flow, value) ≡ true
  pub at : find flow_cmp flow es ≡ Some value
  pub above : (g : Flow) → below_all flow_cmp g es ≡ true → is_lt (flow_cmp g flow) ≡ true

found : {V : Type 0} (test : Flow × V → Bool) (es : List (Flow × V)) → is_sorted flow_cmp es ≡ true → list_any test es ≡ true → Found test es
found test [] sorted some = absurd (cc)
found {V} test (e ∷ es) sorted some = by (test e) refl some (found test es (and_second (below_all flow_cmp e.0 es) (is_sorted flow_cmp es) sorted)) where
  below : below_all flow_cmp e.0 es ≡ true
  below = and_first (below_all flow_cmp e.0 es) (is_sorted flow_cmp es) sorted

  itself : eq_by_cmp flow_cmp e.0 e.0 ≡ true
  itself = (eq_by_cmp_equiv flows_total).refl e.0

  later : Found test es → Found test (e ∷ es)
  later h =
      let other : eq_by_cmp flow_cmp h.flow e.0 ≡ false = ap is_eq (flows_total.antisymm h.flow e.0) ∙ above_is_other (flow_cmp e.0 h.flow) (h.above e.0 below) in
      record {
        flow = h.flow;
        value = h.value;
        passes = h.passes;
        at = ap (λ (b : Bool). cond b (Some e.1) (find flow_cmp h.flow es)) other ∙ h.at;
        above = λ g all. h.above g (and_second (is_lt (flow_cmp g e.0)) (below_all flow_cmp g es) all);
      }

  by : (b : Bool) → test e ≡ b → (b || list_any test es) ≡ true → (list_any test es ≡ true → Found test es) → Found test (e ∷ es)
  by true passes h rest = record {
    flow = e.0;
    value = e.1;
    passes = passes;
    at = ap (λ (b : Bool). cond b (Some e.1) (find flow_cmp e.0 es)) itself;
    above = λ g all. and_first (is_lt (flow_cmp g e.0)) (below_all flow_cmp g es) all;
  }
  by false passes h rest = later (rest h)

-- where no entry passes a test, what a flow finds doesn't
none_found : {V : Type 0} (test : Flow × V → Bool) (es : List (Flow × V)) (f : Flow) (v : V) → list_any test es ≡ false → find flow_cmp f es ≡ Some v → test (f, v) ≡ false
none_found test [] f v none at = absurd (cc)
none_found {V} test (e ∷ es) f v none at = by (eq_by_cmp flow_cmp f e.0) refl at (none_found test es f v) where
  parts : (test e ≡ false) × (list_any test es ≡ false)
  parts = or_false (test e) (list_any test es) none

  by : (b : Bool) → eq_by_cmp flow_cmp f e.0 ≡ b → cond b (Some e.1) (find flow_cmp f es) ≡ Some v → (list_any test es ≡ false → find flow_cmp f es ≡ Some v → test (f, v) ≡ false)
      → test (f, v) ≡ false
  by true same found rest =
      let flow : f ≡ e.0 = exact_flows f e.0 (is_equal (flow_cmp f e.0) same) in
      let value : e.1 ≡ v = ap (λ (o : Option V). unwrap_or o e.1) found in
      ap (λ (g : Flow). test (g, v)) flow ∙ ap (λ (w : V). test (e.0, w)) (sym value) ∙ parts.0
  by false other found rest = rest parts.1 found

-- ---- a host, or an IMP, with an outstanding message

pub nothing : {V : Type 0} (o : Option V) → is_some o ≡ false → o ≡ None
nothing None e = refl
nothing (Some v) e = absurd (cc)

neither_of : (a b : Bool) → a ≡ true → (a && b) ≡ false → b ≡ false
neither_of true b e h = h
neither_of false b e h = absurd (cc)

-- flows that pass a test and have a message without an answer
abbrev awaits : (Flow → Bool) → Flow × Standing → Bool
awaits test entry = test entry.0 && is_some (outstanding_in (Some entry.1))

none_awaits : (test : Flow → Bool) (m : Sources) → list_any (awaits test) (entries m) ≡ false → (g : Flow) → test g ≡ true → outstanding_in (get m g) ≡ None
none_awaits test m none g from = by (get m g) refl where
  by : (o : Option Standing) → get m g ≡ o → outstanding_in o ≡ None
  by None e = refl
  by (Some s) e = nothing (outstanding_in (Some s)) (neither_of (test g) (is_some (outstanding_in (Some s))) from
      (none_found (awaits test) (entries m) g s none (sym (get-entries m g) ∙ e)))

one_awaits : (test : Flow → Bool) (m : Sources) → list_any (awaits test) (entries m) ≡ true → (g : Flow) × (test g ≡ true) × IsSome (outstanding_in (get m g))
one_awaits test m some =
    let one : Found (awaits test) (entries m) = found (awaits test) (entries m) (known (is_sorted flow_cmp (entries m)) (entries_sorted m)) some in (
      one.flow,
      and_first (test one.flow) (is_some (outstanding_in (Some one.value))) one.passes,
      ap (λ (o : Option Standing). is_some (outstanding_in o)) (get-entries m one.flow ∙ one.at) ∙ and_second (test one.flow) (is_some (outstanding_in (Some one.value))) one.passes,
    )

-- where a host has none, no flow from it has
pub outstanding_none : (m : Sources) (h : Host) → has_outstanding h m ≡ false → (g : Flow) → same_host g.source h ≡ true → outstanding_in (get m g) ≡ None
unfolding has_outstanding
outstanding_none m h none g from = none_awaits (λ f. same_host f.source h) m none g from

-- where it has one, a flow from it has
pub outstanding_one : (m : Sources) (h : Host) → has_outstanding h m ≡ true → (g : Flow) × (same_host g.source h ≡ true) × IsSome (outstanding_in (get m g))
unfolding has_outstanding
outstanding_one m h some = one_awaits (λ f. same_host f.source h) m some

-- where none to an IMP has, no flow to a host there has
pub outstanding_to_none : (m : Sources) (imp : ℕ) → has_outstanding_to imp m ≡ false → (g : Flow) → (g.destination.imp == imp) ≡ true → outstanding_in (get m g) ≡ None
unfolding has_outstanding_to
outstanding_to_none m imp none g to = none_awaits (λ f. f.destination.imp == imp) m none g to

-- where one has, a flow to a host there has
pub outstanding_to_one : (m : Sources) (imp : ℕ) → has_outstanding_to imp m ≡ true → (g : Flow) × ((g.destination.imp == imp) ≡ true) × IsSome (outstanding_in (get m g))
unfolding has_outstanding_to
outstanding_to_one m imp some = one_awaits (λ f. f.destination.imp == imp) m some
