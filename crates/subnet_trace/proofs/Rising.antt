-- In the lists of a subnet flows rise, and two subnets over one network have the same lists and parts.
use Rattle.subnet_trace.proofs.Common.{◌≡◌, ℕ, suc, true, List, [], ◌∷◌, ◌++◌, filter, length, map, None, Option, Some, refl, sym, ap, ap₂, ◌∙◌, All-cons, All-nil, All-append, Flow, flow_cmp, State, named, is_imp, Net, imp_at, FlowPart, IsOneNetwork, IsTold, ends_of, kept_of, sources_of, kept_part, length-map, Ordering, Less, Equal, Greater, and_parts}
use Rattle.std.specs.List.{range_with_len, flat_map, All, AllByRecursion}
use Rattle.subnet_trace.specs.Parts.{Imp, Line, all_parts, flows_at, Part, parts_of_net}
use Rattle.std.specs.FinMap as fin
use Rattle.std.specs.FinMap.Entries.{below_all, is_sorted}
use Rattle.std.specs.List.Sorted.{IsStrictlySortedBy}
use Rattle.std.specs.Option.{is_some}
use Rattle.std.specs.Ordering.{is_lt}
use Rattle.std.specs.Prelude.{slice_index_or}
use Rattle.subnet_trace.proofs.Tables.{known}
use Rattle.trace.specs.Changes.{AreOfOne, Rises}

-- ---- the parts that tables of flows are made into

behind : {V : Type 0} (part : Flow × V → FlowPart) → ((e : Flow × V) → (part e).flow ≡ e.0) → (f : Flow)
    (es : List (Flow × V)) → below_all flow_cmp f es ≡ true
    → AllByRecursion (λ g. flow_cmp f g ≡ Less) (map (λ p. p.flow) (map part es))
behind part same f [] h = tt
behind part same f (e ∷ es) h =
    let parts = and_parts (is_lt (flow_cmp f e.0)) (below_all flow_cmp f es) h in
    (ap (flow_cmp f) (same e) ∙ by (flow_cmp f e.0) parts.0, behind part same f es parts.1) where
      by : (o : Ordering) → is_lt o ≡ true → o ≡ Less
      by Less is = refl
      by Equal is = absurd (cc)
      by Greater is = absurd (cc)

entries_rise : {V : Type 0} (part : Flow × V → FlowPart) → ((e : Flow × V) → (part e).flow ≡ e.0)
    → (es : List (Flow × V)) → is_sorted flow_cmp es ≡ true → Rises (map part es)
unfolding IsStrictlySortedBy
entries_rise part same [] h = tt
entries_rise part same (e ∷ es) h =
    let parts = and_parts (below_all flow_cmp e.0 es) (is_sorted flow_cmp es) h in
    (behind part same _ es (ap (λ (f : Flow). below_all flow_cmp f es) (same e) ∙ parts.0), entries_rise part same es parts.1)

map_rises : {V : Type 0} (part : Flow × V → FlowPart) → ((e : Flow × V) → (part e).flow ≡ e.0)
    → (m : fin.FinMap flow_cmp V) → Rises (map part (fin.entries m))
map_rises part same m = entries_rise part same _
    (known _ (fin.entries_sorted m))

sources_rise : (o : Option State) → Rises (sources_of o)
unfolding IsStrictlySortedBy
sources_rise None = tt
sources_rise (Some s) = map_rises _ (λ e. refl) _

kept_rise : (o : Option State) → Rises (kept_of o)
unfolding IsStrictlySortedBy
kept_rise None = tt
kept_rise (Some s) = map_rises kept_part (λ e. refl) s.kept

-- ---- all lists

lists_rise : (n : Net) (imps : List ℕ) → All Rises (flat_map (flows_at n) imps)
lists_rise n [] = All-nil Rises
lists_rise n (i ∷ imps) = All-append Rises (flows_at n i) (flat_map (flows_at n) imps)
    (All-cons Rises (sources_of (imp_at n.imps i)) (kept_of _ ∷ []) (sources_rise _)
    (All-cons Rises (kept_of _) [] (kept_rise _) (All-nil Rises)))
    (lists_rise n imps)

lists_long : (n m : Net) (imps : List ℕ) → length (flat_map (flows_at n) imps) ≡ length (flat_map (flows_at m) imps)
lists_long n m [] = refl
lists_long n m (i ∷ imps) = ap (λ (k : ℕ). suc (suc k)) (lists_long n m imps)

-- ---- two subnets over one network

abbrev imps_of : Net → List ℕ
imps_of n = filter (is_imp n) (range_with_len 0 (length n.imps))

same_imps : (n m : Net) → IsTold n → IsTold m → IsOneNetwork n m → imps_of n ≡ imps_of m
same_imps n m p q one =
    let count : length n.imps ≡ length m.imps =
    p.places ∙ ap (λ (sites : List (Option ℕ)). length sites) one.sites ∙ sym q.places in
    ap₂ (λ (sites : List (Option ℕ)) (k : ℕ). filter (λ i. is_some (slice_index_or sites i None)) (range_with_len 0 k))
    one.sites count

same_parts : (n m : Net) → IsTold n → IsTold m → IsOneNetwork n m → all_parts n ≡ all_parts m
same_parts n m p q one =
    let lines : length n.lines ≡ length m.lines =
    sym (length-map n.lines ends_of) ∙ ap (λ (ends : List (ℕ × ℕ)). length ends) one.lines ∙ length-map m.lines ends_of in
    ap₂ (λ (imps : List ℕ) (k : ℕ). map (λ i. Imp i) imps ++ map (λ l. Line l) (range_with_len 0 k))
    (same_imps n m p q one) lines

pub rises : (n m : Net) → IsTold n → IsTold m → IsOneNetwork n m → AreOfOne (parts_of_net n) (parts_of_net m)
rises n m p q one = record {
  fixed = length-map (all_parts n) (named n) ∙ ap (λ (parts : List Part). length parts) (same_parts n m p q one)
      ∙ sym (length-map (all_parts m) (named m));
  lists = lists_long n m _
      ∙ ap (λ (imps : List ℕ). length (flat_map (flows_at m) imps)) (same_imps n m p q one);
  rose = lists_rise n _;
  rise = lists_rise m _;
}
