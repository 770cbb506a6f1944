-- Where no part has changed, and flows rise in each list, all parts are as they were.
use Rattle.trace.proofs.Common.{◌≡◌, inl, inr, ℕ, suc, ◌==◌, ◌&&◌, ◌||◌, Bool, true, false, not, List, [], ◌∷◌, ◌++◌, filter, length, map, arith, refl, sym, ap, subst, ◌∙◌, All-head, All-nil, All-tail, is_lt, Flow, gone, same_flow_part, same_name, same_side, same_state, told, AllParts, FlowPart, Boxes, Host, Waiting, all_members, member, part_name, part_text, plain_inside}
use Rattle.std.proofs.lemmas.Bool.{or_cases, or_right}
use Rattle.std.proofs.lemmas.Cmp.{tied_itself}
use Rattle.std.proofs.lemmas.List.{length-map}
use Rattle.std.proofs.lemmas.Map.Keys.{sorted_head, sorted_tail}
use Rattle.std.specs.List.{All, AllByRecursion}
use Rattle.std.specs.declared.cmp.Ordering.TheVariants.{Less, Equal}
use Rattle.interface.specs.Flow.{flow_cmp, same_flow}
use Rattle.interface.proofs.lemmas.{and_true, flows_total, same_flow-true}
use Rattle.trace.specs.Changes.{AreOfOne, Rises, altered, changed, changed_flows, changed_lists, changed_parts, is_there, is_told}
use Rattle.trace.proofs.Changes.Changed as fixed
use Rattle.trace.proofs.Changes.FlowLaws.{part_is}
use Rattle.trace.proofs.Changes.Flowing.{keeps}

-- ---- the order of flows

-- a flow before all those of a list
abbrev IsBefore : Flow → List FlowPart → Type 0
IsBefore f list = AllByRecursion (λ g. flow_cmp f g ≡ Less) (map (λ p. p.flow) list)

not_before_itself : (f g : Flow) → flow_cmp f g ≡ Less → f ≡ g → ⊥
not_before_itself f g less same =
    let itself : flow_cmp f g ≡ Equal = ap (flow_cmp f) (sym same) ∙ tied_itself flows_total f in
    let two : true ≡ false = ap is_lt (sym less ∙ itself) in cc

name_flow : (p q : FlowPart) → same_name p q ≡ true → p.flow ≡ q.flow
name_flow p q e = same_flow-true p.flow q.flow (and_true (same_side p.side q.side) (same_flow p.flow q.flow) e).1

-- what is found in a list comes after what is before all of it
before_found : (f : Flow) (list : List FlowPart) (p : FlowPart) → IsBefore f list → is_there list p ≡ true
    → flow_cmp f p.flow ≡ Less
before_found f [] p h e = absurd (cc)
before_found f (q ∷ list) p h e = elim (or_cases (same_name q p) (is_there list p) e) [
  | inl same ↦ subst (λ (g : Flow). flow_cmp f g ≡ Less) (name_flow q p same) h.0
  | inr rest ↦ before_found f list p h.1 rest
]

name_of : (p q : FlowPart) → same_flow_part p q ≡ true → same_name p q ≡ true
name_of p q e =
    let outer = and_true (same_name p q && same_state p.state q.state) (p.number == q.number) e in
    (and_true (same_name p q) (same_state p.state q.state) outer.0).0

told_there : (list : List FlowPart) (p : FlowPart) → is_told list p ≡ true → is_there list p ≡ true
told_there [] p e = e
told_there (q ∷ list) p e = elim (or_cases (same_flow_part q p) (is_told list p) e) [
  | inl same ↦ ap (λ (b : Bool). b || is_there list p) (name_of q p same)
  | inr rest ↦ or_right (same_name q p) (is_there list p) (told_there list p rest)
]

-- ---- two lists in which flows rise

-- each of one list is in the other: with what is known of it, or by its name
abbrev AllTold : List FlowPart → List FlowPart → Type 0
AllTold before now = AllByRecursion (λ p. is_told before p ≡ true) now

abbrev AllThere : List FlowPart → List FlowPart → Type 0
AllThere before now = AllByRecursion (λ p. is_there now p ≡ true) before

-- those that come after a flow are not found there
told_later : (b : FlowPart) (before now : List FlowPart) → IsBefore b.flow now → AllTold (b ∷ before) now
    → AllTold before now
told_later b before [] h all = tt
told_later b before (p ∷ now) h all = (
  elim (or_cases (same_flow_part b p) (is_told before p) all.0) [
    | inl same ↦ absurd (not_before_itself b.flow p.flow h.0 (name_flow b p (name_of b p same)))
    | inr rest ↦ rest
  ],
  told_later b before now h.1 all.1,
)

there_later : (n : FlowPart) (before now : List FlowPart) → IsBefore n.flow before → AllThere before (n ∷ now)
    → AllThere before now
there_later n [] now h all = tt
there_later n (p ∷ before) now h all = (
  elim (or_cases (same_name n p) (is_there now p) all.0) [
    | inl same ↦ absurd (not_before_itself n.flow p.flow h.0 (name_flow n p same))
    | inr rest ↦ rest
  ],
  there_later n before now h.1 all.1,
)

-- the first of each is the first of the other
first_is : (b n : FlowPart) (before now : List FlowPart) → IsBefore b.flow before → IsBefore n.flow now
    → is_told (b ∷ before) n ≡ true → is_there (n ∷ now) b ≡ true → n ≡ b
first_is b n before now low high told there = elim (or_cases (same_flow_part b n) (is_told before n) told) [
  | inl same ↦ sym (part_is b n same)
  | inr behind ↦
      let less : flow_cmp b.flow n.flow ≡ Less = before_found b.flow before n low (told_there before n behind) in
      absurd (elim (or_cases (same_name n b) (is_there now b) there) [
        | inl same ↦ not_before_itself b.flow n.flow less (sym (name_flow n b same))
        | inr rest ↦ not_before_itself b.flow b.flow
            (flows_total.trans b.flow n.flow b.flow less (before_found n.flow now b high rest)) refl
      ])
]

same_list : (before now : List FlowPart) → Rises before → Rises now → AllTold before now → AllThere before now
    → now ≡ before
same_list [] [] rose rise all there = refl
same_list [] (n ∷ now) rose rise all there = absurd (let two : false ≡ true = all.0 in cc)
same_list (b ∷ before) [] rose rise all there = absurd (let two : false ≡ true = there.0 in cc)
same_list (b ∷ before) (n ∷ now) rose rise all there =
    let flows : List FlowPart → List Flow = map (λ p. p.flow) in
    let low : IsBefore b.flow before = sorted_head flow_cmp b.flow (flows before) rose in
    let high : IsBefore n.flow now = sorted_head flow_cmp n.flow (flows now) rise in
    let first : n ≡ b = first_is b n before now low high all.0 there.0 in
    let after : IsBefore b.flow now = subst (λ (p : FlowPart). IsBefore p.flow now) first high in
    let behind : IsBefore n.flow before = subst (λ (p : FlowPart). IsBefore p.flow before) (sym first) low in
    let rest : now ≡ before = same_list before now (sorted_tail flow_cmp b.flow (flows before) rose)
    (sorted_tail flow_cmp n.flow (flows now) rise) (told_later b before now after all.1)
    (there_later n before now behind there.1) in
    λ i. first i ∷ rest i

-- ---- where none has changed

-- two lists are empty where they are so together
none_of : (xs ys : List (List ℕ)) → xs ++ ys ≡ [] → (xs ≡ []) × (ys ≡ [])
none_of [] ys e = (refl, e)
none_of (x ∷ xs) ys e = absurd (let long : suc (length (xs ++ ys)) ≡ 0 = ap length e in omega (arith, long))

none_mapped : {X Y : Type 0} (f : X → Y) (xs : List X) → map f xs ≡ [] → xs ≡ []
none_mapped f [] e = refl
none_mapped f (x ∷ xs) e = absurd (let long : suc (length (map f xs)) ≡ 0 = ap length e in omega (arith, long))

-- all have passed a test where none fails it
none_failed : (test : FlowPart → Bool) (xs : List FlowPart) → filter (λ p. not (test p)) xs ≡ []
    → AllByRecursion (λ p. test p ≡ true) xs
none_failed test [] e = tt
none_failed test (x ∷ xs) e = by (test x) refl (none_failed test xs) where
  by : (b : Bool) → test x ≡ b
      → (filter (λ p. not (test p)) xs ≡ [] → AllByRecursion (λ p. test p ≡ true) xs)
      → AllByRecursion (λ p. test p ≡ true) (x ∷ xs)
  by true passed rest = (passed, rest (sym (keeps _ x xs false (ap not passed)) ∙ e))
  by false failed rest = absurd
      (let long : suc (length (filter (λ p. not (test p)) xs)) ≡ 0
      = ap length (sym (keeps _ x xs true (ap not failed)) ∙ e) in omega (arith, long))

none_in_list : (before now : List FlowPart) → Rises before → Rises now → changed_flows before now ≡ [] → now ≡ before
none_in_list before now rose rise none =
    let both = none_of (map told (altered before now)) _ none in
    same_list before now rose rise
    (none_failed _ now (none_mapped told _ both.0))
    (none_failed _ before (none_mapped gone _ both.1))

none_in_lists : (before now : List (List FlowPart)) → length before ≡ length now → All Rises before → All Rises now
    → changed_lists before now ≡ [] → now ≡ before
none_in_lists [] [] long rose rise none = refl
none_in_lists [] (n ∷ now) long rose rise none = absurd (omega (arith, long))
none_in_lists (b ∷ before) [] long rose rise none = absurd (omega (arith, long))
none_in_lists (b ∷ before) (n ∷ now) long rose rise none =
    let both = none_of (changed_flows b n) _ none in
    let first : n ≡ b = none_in_list b n (All-head Rises b before rose) (All-head Rises n now rise) both.0 in
    let rest : now ≡ before = none_in_lists before now (omega (arith, long)) (All-tail Rises b before rose)
    (All-tail Rises n now rise) both.1 in
    λ i. first i ∷ rest i

pub none : (before now : AllParts) → AreOfOne before now → changed_parts before now ≡ [] → now ≡ before
none before now are is =
    let both = none_of (changed before.fixed now.fixed) _ is in
    let fixed_same : now.fixed ≡ before.fixed = fixed.none before.fixed now.fixed are.fixed both.0 in
    let flows_same : now.flows ≡ before.flows =
    none_in_lists _ _ are.lists are.rose are.rise both.1 in
    λ i. record { fixed = fixed_same i; flows = flows_same i }

-- ---- plain mailboxes, of which no flows are known

pub rises : (one other : Boxes) → one.hosts ≡ other.hosts
    → AreOfOne (plain_inside.members one) (plain_inside.members other)
rises one other same = record {
  fixed = all_long one ∙ ap (λ (hs : List Host). suc (length hs)) same ∙ sym (all_long other);
  lists = refl;
  rose = All-nil Rises;
  rise = All-nil Rises;
} where
  all_long : (b : Boxes) → length (all_members b) ≡ suc (length b.hosts)
  all_long b = ap suc (length-map (map (λ h. Waiting h) b.hosts) (λ p. member (part_name p) (part_text b p))
      ∙ length-map b.hosts (λ h. Waiting h))
