-- What holds of each flow in a table, after each change of the table.
use Rattle.subnet_trace.proofs.Common.{All-cons, All-nil, All, Flow, Fate, Noted, Standing, Ordering, Less, Equal, Greater, and_parts}
use Rattle.std.proofs.Common.{◌≡◌, ℕ, ◌<◌, ◌==◌, ◌&&◌, Bool, true, false, List, [], ◌∷◌, if◌then◌else◌, Option, Some, None, IfSome, refl, sym, ap, ◌∙◌, subst, arith, cond, T}
use Rattle.std.specs.FinMap.{empty, get, get-empty, FinMap, entries, entries_sorted, get-entries}
use Rattle.link_table.specs.Flows.{Sources, handed, last_of, number_in, begun, Destinations, answered_in, ended, ended_in, flow_answered, given_up, given_up_in, handed_in, noted}
use Rattle.link_table.specs.Keys.{flow_cmp, drop_from, is_from}
use Rattle.link_table.proofs.lemmas.{get_begun, get_put, get_answered, get_dropped, get_ended, get_given_up, get_handed, number_begun}
use Rattle.subnet_trace.specs.Told.{IsFlowNamed, IsKeptTold, IsSourceTold, IsShort}
use Rattle.std.specs.Cmp.{eq_by_cmp_equiv}
use Rattle.std.specs.FinMap.Entries.{below_all, find, is_sorted}
use Rattle.std.specs.Option.{option_map}
use Rattle.std.specs.Ordering.{eq_by_cmp, is_eq, is_lt, ordering_reverse}
use Rattle.interface.specs.Flow.{same_flow}
use Rattle.interface.proofs.lemmas.{flows_total, same_flow-true}
use Rattle.link_table.specs.Numbers.{modulus}
use Rattle.link_table.specs.declared.source.Standing.TheVariants as standing

-- of each flow that is found, with what is found
abbrev pub TableHas : {V : Type 0} → (Flow × V → Type 0) → FinMap flow_cmp V → Type 0
TableHas P m = (f : Flow) → IfSome (get m f) (λ v. P (f, v))

pub none_has : {V : Type 0} (P : Flow × V → Type 0) → TableHas P empty
none_has {V} P f = subst (λ (o : Option V). IfSome o (λ v. P (f, v))) (sym (get-empty flow_cmp f)) tt

-- ---- one flow changes

put_has : {V : Type 0} (P : Flow × V → Type 0) (m n : FinMap flow_cmp V) (f : Flow) (o : Option V) → ((g : Flow) → get n g ≡ (if same_flow g f then o else get m g)) → IfSome o (λ v. P (f, v)) → TableHas P m → TableHas P n
put_has {V} P m n f o is new old g = subst (λ (x : Option V). IfSome x (λ v. P (g, v))) (sym (is g)) (by (same_flow g f) refl) where
  by : (b : Bool) → same_flow g f ≡ b → IfSome (if b then o else get m g) (λ v. P (g, v))
  by true e = subst (λ (h : Flow). IfSome o (λ v. P (h, v))) (sym (same_flow-true g f e)) new
  by false e = old g

changed_has : {V : Type 0} (P : Flow × V → Type 0) (change : V → V) → ((f : Flow) (v : V) → P (f, v) → P (f, change v)) → (m n : FinMap flow_cmp V) (f : Flow) → ((g : Flow) → get n g ≡ (if same_flow g f then option_map change (get m f) else get m g)) → TableHas P m → TableHas P n
changed_has {V} P change keeps m n f is old = put_has P m n f _ is (by (get m f) (old f)) old where
  by : (o : Option V) → IfSome o (λ v. P (f, v)) → IfSome (option_map change o) (λ v. P (f, v))
  by None h = tt
  by (Some v) h = keeps f v h

-- a number that is begun is below 65,536
short_number : (n : ℕ) → n < modulus → IsShort n
unfolding modulus
short_number n below = omega (arith, below)

pub number_short : (o : Option Standing) → IsShort (number_in o)
number_short o = short_number _ (number_begun o)

pub begun_has : (m : Sources) (f : Flow) → IsFlowNamed f → TableHas IsSourceTold m → TableHas IsSourceTold (begun m f)
begun_has m f named old = put_has IsSourceTold m _ f _ (λ g. get_begun m f g) (record { flow = named; number = number_short _ }) old

answered_same : (n : ℕ) (s : Standing) → last_of (answered_in n s) ≡ last_of s
answered_same n (standing.Idle l) = refl
answered_same n (standing.Outstanding l) = by (l == n) where
  by : (b : Bool) → last_of (if b then standing.Answered l else standing.Outstanding l) ≡ l
  by true = refl
  by false = refl
answered_same n (standing.Answered l) = refl

given_up_same : (s : Standing) → last_of (given_up_in s) ≡ last_of s
given_up_same (standing.Idle l) = refl
given_up_same (standing.Outstanding l) = refl
given_up_same (standing.Answered l) = refl

handed_same : (s : Standing) → last_of (handed_in s) ≡ last_of s
handed_same (standing.Idle l) = refl
handed_same (standing.Outstanding l) = refl
handed_same (standing.Answered l) = refl

same_last : (f : Flow) (s t : Standing) → last_of t ≡ last_of s → IsSourceTold (f, s) → IsSourceTold (f, t)
same_last f s t same is = record { flow = is.flow; number = subst IsShort (sym same) is.number }

pub answered_has : (m : Sources) (f : Flow) (n : ℕ) → TableHas IsSourceTold m → TableHas IsSourceTold (flow_answered m f n)
answered_has m f n old = changed_has IsSourceTold _ (λ g s. same_last g s (answered_in n s) (answered_same n s)) m _ f (λ g. get_answered m f g n) old

pub given_up_has : (m : Sources) (f : Flow) → TableHas IsSourceTold m → TableHas IsSourceTold (given_up m f)
given_up_has m f old = changed_has IsSourceTold given_up_in (λ g s. same_last g s (given_up_in s) (given_up_same s)) m _ f (λ g. get_given_up m f g) old

pub handed_has : (m : Sources) (f : Flow) → TableHas IsSourceTold m → TableHas IsSourceTold (handed m f)
handed_has m f old = changed_has IsSourceTold handed_in (λ g s. same_last g s (handed_in s) (handed_same s)) m _ f (λ g. get_handed m f g) old

pub noted_has : (m : Destinations) (f : Flow) (n : ℕ) (new : Fate) → IsFlowNamed f → IsShort n → TableHas IsKeptTold m → TableHas IsKeptTold (noted m f n new)
noted_has m f n new named short old =
    let entry : Noted = record { number = n; fate = new } in
    put_has IsKeptTold m _ f _ (λ g. get_put m f g entry) (record { flow = named; number = short }) old

pub ended_has : (m : Destinations) (f : Flow) (n : ℕ) (new : Fate) → TableHas IsKeptTold m → TableHas IsKeptTold (ended m f n new)
ended_has m f n new old = changed_has IsKeptTold _ keeps m _ f (λ g. get_ended m f g n new) old where
  keeps : (g : Flow) (v : Noted) → IsKeptTold (g, v) → IsKeptTold (g, ended_in n new v)
  keeps g v is = by (v.number == n) where
    by : (b : Bool) → IsKeptTold (g, (if b then record v { fate = new } else v))
    by true = record { flow = is.flow; number = is.number }
    by false = is

pub dropped_has : (m : Destinations) (imp : ℕ) → TableHas IsKeptTold m → TableHas IsKeptTold (drop_from imp m)
dropped_has m imp old g = subst (λ (o : Option Noted). IfSome o (λ v. IsKeptTold (g, v))) (sym (get_dropped m imp g)) (by (is_from imp g)) where
  by : (b : Bool) → IfSome (if b then None else get m g) (λ v. IsKeptTold (g, v))
  by true = tt
  by false = old g

-- ---- all entries

pub known : (b : Bool) → T b → b ≡ true
known true t = refl
known false t = absurd t

above_is_other : (o : Ordering) → is_lt o ≡ true → is_eq (ordering_reverse o) ≡ false
above_is_other Less e = refl
above_is_other Equal e = absurd (cc)
above_is_other Greater e = absurd (cc)

abbrev IsAbove : {V : Type 0} → Flow → Flow × V → Type 0
IsAbove f e = is_lt (flow_cmp f e.0) ≡ true

all_above : {V : Type 0} (f : Flow) (es : List (Flow × V)) → below_all flow_cmp f es ≡ true → All (IsAbove f) es
all_above f [] h = All-nil (IsAbove f)
all_above f (e ∷ es) h = let parts = and_parts (is_lt (flow_cmp f e.0)) (below_all flow_cmp f es) h in All-cons (IsAbove f) e es parts.0 (all_above f es parts.1)

-- what is found after an entry is found also with it
later_found : {V : Type 0} (P : Flow × V → Type 0) (e : Flow × V) (es : List (Flow × V)) → ((f : Flow) (v : V) → find flow_cmp f (e ∷ es) ≡ Some v → P (f, v)) → (f : Flow) (v : V) → find flow_cmp f es ≡ Some v → IsAbove e.0 (f, v) → P (f, v)
later_found {V} P e es found f v at above =
    let other : eq_by_cmp flow_cmp f e.0 ≡ false = ap is_eq (flows_total.antisymm f e.0) ∙ above_is_other _ above in
    found f v (ap (λ (b : Bool). cond b (Some e.1) (find flow_cmp f es)) other ∙ at)

-- what is found is all that is there
all_found : {V : Type 0} (P : Flow × V → Type 0) (es : List (Flow × V)) → is_sorted flow_cmp es ≡ true → ((f : Flow) (v : V) → find flow_cmp f es ≡ Some v → P (f, v)) → All P es
all_found P [] sorted found = All-nil P
all_found {V} P (e ∷ es) sorted found =
    let parts : (below_all flow_cmp e.0 es ≡ true) × (is_sorted flow_cmp es ≡ true) = and_parts (below_all flow_cmp e.0 es) (is_sorted flow_cmp es) sorted in
    let Q : Flow × V → Type 0 = λ x. IsAbove e.0 x → P x in
    let later : All Q es = all_found Q es parts.1 (later_found P e es found) in
    let above : All (IsAbove e.0) es = all_above e.0 es parts.0 in
    All-cons P e es (found e.0 e.1 (ap (λ (b : Bool). cond b (Some e.1) (find flow_cmp e.0 es)) ((eq_by_cmp_equiv flows_total).refl e.0))) (λ k d low. later k d low (above k d low))

pub table_all : {V : Type 0} (P : Flow × V → Type 0) (m : FinMap flow_cmp V) → TableHas P m → All P (entries m)
table_all {V} P m has = all_found P _ (known _ (entries_sorted m)) (λ f v at. subst (λ (o : Option V). IfSome o (λ w. P (f, w))) (get-entries m f ∙ at) (has f))
