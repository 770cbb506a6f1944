-- Which parts are among those that have changed: those that are always there, and flows.
use Rattle.trace.proofs.Common.{◌≡◌, ◌⊎◌, inl, inr, ℕ, zero, suc, ◌<◌, ◌==◌, ◌&&◌, ◌||◌, Bool, true, false, not, List, [], ◌∷◌, ◌++◌, drop, filter, length, map, arith, refl, sym, ap, subst, ◌∙◌, nat_tests, slice_index_or, gone, same_flow_part, same_name, same_side, same_state, told, AllParts, FlowPart, FlowState, Side}
use Rattle.std.proofs.lemmas.List.Elements.{Contains-append_cases, Contains-append_left, Contains-append_right, Contains-push, Contains-push_cases}
use Rattle.std.specs.List.{Contains, flat_map}
use Rattle.interface.specs.Flow.{same_flow}
use Rattle.interface.proofs.lemmas.{and_true, same_flow-true, contains_head, contains_tail, contains_none}
use Rattle.trace.specs.Changes.{IsGone, altered, changed, changed_flows, changed_lists, changed_parts, is_there, is_told, lost, members_of}
use Rattle.trace.specs.declared.flow_part.FlowState.TheVariants as state
use Rattle.trace.specs.declared.flow_part.Side.TheVariants as side
use Rattle.trace.proofs.Changes.Changed as fixed
use Rattle.trace.proofs.Changes.Flowing.{keeps, lists_first, no_lists}

-- ---- two that are the same

side_is : (x y : Side) → same_side x y ≡ true → x ≡ y
side_is side.Source side.Source e = refl
side_is side.Source side.Kept e = absurd (cc)
side_is side.Kept side.Source e = absurd (cc)
side_is side.Kept side.Kept e = refl

state_is : (x y : FlowState) → same_state x y ≡ true → x ≡ y
state_is state.Outstanding state.Outstanding e = refl
state_is state.Answered state.Answered e = refl
state_is state.Idle state.Idle e = refl
state_is state.Waits state.Waits e = refl
state_is state.Taken state.Taken e = refl
state_is state.Dead state.Dead e = refl
state_is state.Never state.Never e = refl
state_is x y e = absurd (cc)

pub part_is : (p q : FlowPart) → same_flow_part p q ≡ true → p ≡ q
part_is p q e =
    let outer = and_true (same_name p q && same_state p.state q.state) (p.number == q.number) e in
    let inner = and_true (same_name p q) (same_state p.state q.state) outer.0 in
    let names = and_true (same_side p.side q.side) (same_flow p.flow q.flow) inner.0 in
    let sides : p.side ≡ q.side = side_is p.side q.side names.0 in
    let flows : p.flow ≡ q.flow = same_flow-true p.flow q.flow names.1 in
    let states : p.state ≡ q.state = state_is _ _ inner.1 in
    let numbers : p.number ≡ q.number = grind (arith, nat_tests, outer.1) in
    λ i. record { side = sides i; flow = flows i; state = states i; number = numbers i }

-- ---- one list

pub only_one : {X : Type 0} (x y : X) → Contains (x ∷ []) y → x ≡ y
only_one x y h = elim (Contains-push_cases [] x y h) [
  | inl none ↦ absurd (contains_none y none)
  | inr is ↦ is
]

-- a flow that was in a list with a state was there
told_before : (before : List FlowPart) (p : FlowPart) → is_told before p ≡ true → Contains (map told before) (told p)
told_before [] p e = absurd (cc)
told_before (q ∷ before) p e = by (same_flow_part q p) refl (λ h. told_before before p h) e where
  by : (b : Bool) → same_flow_part q p ≡ b → (is_told before p ≡ true → Contains (map told before) (told p))
      → (b || is_told before p) ≡ true → Contains (map told (q ∷ before)) (told p)
  by true same before_it h = subst (λ (t : List ℕ). Contains (map told (q ∷ before)) t) (ap told (part_is q p same))
      (contains_head _ _)
  by false other before_it h = contains_tail _ _ _ (before_it h)

-- what passes a test is among what does
passes : (text : FlowPart → List ℕ) (test : FlowPart → Bool) (x : FlowPart) (xs : List FlowPart) → test x ≡ true
    → Contains (map text (filter test (x ∷ xs))) (text x)
passes text test x xs e = subst (λ (ps : List FlowPart). Contains (map text ps) (text x)) (sym (keeps test x xs true e))
    (contains_head _ _)

passes_later : (text : FlowPart → List ℕ) (test : FlowPart → Bool) (x : FlowPart) (xs : List FlowPart) (t : List ℕ)
    → Contains (map text (filter test xs)) t → Contains (map text (filter test (x ∷ xs))) t
passes_later text test x xs t h = by (test x) refl where
  by : (b : Bool) → test x ≡ b → Contains (map text (filter test (x ∷ xs))) t
  by true e = subst (λ (ps : List FlowPart). Contains (map text ps) t) (sym (keeps test x xs true e))
      (contains_tail _ _ t h)
  by false e = subst (λ (ps : List FlowPart). Contains (map text ps) t) (sym (keeps test x xs false e)) h

-- and each of them is among all
passed : (text : FlowPart → List ℕ) (test : FlowPart → Bool) (xs : List FlowPart) (t : List ℕ)
    → Contains (map text (filter test xs)) t → Contains (map text xs) t
passed text test [] t h = h
passed text test (x ∷ xs) t h = by (test x) refl (λ g. passed text test xs t g) where
  by : (b : Bool) → test x ≡ b → (Contains (map text (filter test xs)) t → Contains (map text xs) t)
      → Contains (map text (x ∷ xs)) t
  by true e among =
      let there : Contains (text x ∷ map text (filter test xs)) t =
      subst (λ (ps : List FlowPart). Contains (map text ps) t) (keeps test x xs true e) h in
      elim (Contains-append_cases (text x ∷ []) (map text (filter test xs)) t there) [
        | inl first ↦ Contains-append_left (text x ∷ []) (map text xs) t first
        | inr rest ↦ contains_tail _ _ t (among rest)
      ]
  by false e among =
      let there : Contains (map text (filter test xs)) t =
      subst (λ (ps : List FlowPart). Contains (map text ps) t) (keeps test x xs false e) h in
      contains_tail _ _ t (among there)

abbrev Either : List (List ℕ) → List (List ℕ) → List ℕ → Type 0
Either xs ys t = Contains xs t ⊎ Contains ys t

flow_kept : (before now : List FlowPart) (t : List ℕ) → Contains (map told now) t
    → Either (map told (altered before now)) (map told before) t
flow_kept before [] t h = absurd (contains_none t h)
flow_kept before (x ∷ now) t h = elim (Contains-append_cases (told x ∷ []) (map told now) t h) [
  | inl first ↦ by (is_told before x) refl first
  | inr rest ↦ more (flow_kept before now t rest)
] where
  new : FlowPart → Bool
  new p = not (is_told before p)

  more : Either (map told (altered before now)) (map told before) t
      → Either (map told (altered before (x ∷ now))) (map told before) t
  more (inl g) = inl (passes_later told new x now t g)
  more (inr g) = inr g

  by : (b : Bool) → is_told before x ≡ b → Contains (told x ∷ []) t
      → Either (map told (altered before (x ∷ now))) (map told before) t
  by true e first = inr
      (subst (λ (u : List ℕ). Contains (map told before) u) (only_one _ t first) (told_before before x e))
  by false e first = inl
      (subst (λ (u : List ℕ). Contains (map told (altered before (x ∷ now))) u) (only_one _ t first)
      (passes told new x now (ap not e)))

-- ---- list by list

abbrev all_told : List (List FlowPart) → List (List ℕ)
all_told ls = flat_map (map told) ls

joined : (ps qs rs ss : List (List ℕ)) (t : List ℕ) → Either ps rs t → Either (ps ++ qs) (rs ++ ss) t
joined ps qs rs ss t (inl h) = inl (Contains-append_left ps qs t h)
joined ps qs rs ss t (inr h) = inr (Contains-append_left rs ss t h)

joined_later : (ps qs rs ss : List (List ℕ)) (t : List ℕ) → Either qs ss t → Either (ps ++ qs) (rs ++ ss) t
joined_later ps qs rs ss t (inl h) = inl (Contains-append_right ps qs t h)
joined_later ps qs rs ss t (inr h) = inr (Contains-append_right rs ss t h)

among_changed : (before now : List FlowPart) (t : List ℕ) → Either (map told (altered before now)) (map told before) t
    → Either (changed_flows before now) (map told before) t
among_changed before now t (inl h) = inl
    (Contains-append_left (map told (altered before now)) (map gone (lost before now)) t h)
among_changed before now t (inr h) = inr h

lists_kept : (before now : List (List FlowPart)) (t : List ℕ) → Contains (all_told now) t
    → Either (changed_lists before now) (all_told before) t
lists_kept before [] t h = absurd (contains_none t h)
lists_kept [] (n ∷ now) t h = elim (Contains-append_cases (map told n) (all_told now) t h) [
  | inl first ↦ joined (changed_flows [] n) (changed_lists [] now) [] [] t
      (among_changed [] n t (flow_kept [] n t first))
  | inr rest ↦ joined_later _ _ [] [] t (lists_kept [] now t rest)
]
lists_kept (b ∷ before) (n ∷ now) t h = elim (Contains-append_cases (map told n) (all_told now) t h) [
  | inl first ↦ joined (changed_flows b n) (changed_lists before now) (map told b) (all_told before) t
      (among_changed b n t (flow_kept b n t first))
  | inr rest ↦ joined_later _ _ _ _ t
      (lists_kept before now t rest)
]

-- the null of a flow that was in a list, and is in it no more
record IsGoneFrom (before now : List FlowPart) (t : List ℕ) : Type 0 where
  flow : FlowPart
  was : Contains before flow
  none : is_there now flow ≡ false
  null : t ≡ gone flow

flow_lost : (before now : List FlowPart) (t : List ℕ) → Contains (map gone (lost before now)) t
    → IsGoneFrom before now t
flow_lost [] now t h = absurd (contains_none t h)
flow_lost (x ∷ before) now t h = by (is_there now x) refl (flow_lost before now t) where
  out : FlowPart → Bool
  out q = not (is_there now q)

  earlier : IsGoneFrom before now t → IsGoneFrom (x ∷ before) now t
  earlier g = record { flow = g.flow; was = contains_tail x before g.flow g.was; none = g.none; null = g.null }

  by : (b : Bool) → is_there now x ≡ b → (Contains (map gone (lost before now)) t → IsGoneFrom before now t)
      → IsGoneFrom (x ∷ before) now t
  by true e rest = earlier
      (rest (subst (λ (ps : List FlowPart). Contains (map gone ps) t) (keeps out x before false (ap not e)) h))
  by false e rest =
      let some : Contains (gone x ∷ map gone (lost before now)) t =
      subst (λ (ps : List FlowPart). Contains (map gone ps) t) (keeps out x before true (ap not e)) h in
      elim (Contains-append_cases (gone x ∷ []) (map gone (lost before now)) t some) [
        | inl first ↦ record { flow = x; was = contains_head x before; none = e; null = sym (only_one _ t first) }
        | inr more ↦ earlier (rest more)
      ]

-- there now, or such a null
abbrev IsOnly : List (List FlowPart) → List (List FlowPart) → List ℕ → Type 0
IsOnly before now t = Contains (all_told now) t ⊎ IsGone before now t

only_first : (before now : List (List FlowPart)) (n : List FlowPart) (t : List ℕ)
    → Contains (changed_flows (slice_index_or before 0 []) n) t → IsOnly before (n ∷ now) t
only_first before now n t h = elim (Contains-append_cases (map told (altered was n)) (map gone (lost was n)) t h) [
  | inl first ↦ inl (Contains-append_left (map told n) (all_told now) t (passed told (λ p. not (is_told was p)) n t first))
  | inr rest ↦ inr (at_first (flow_lost was n t rest))
] where
  was : List FlowPart
  was = slice_index_or before 0 []

  at_first : IsGoneFrom was n t → IsGone before (n ∷ now) t
  at_first g = record {
    place = 0;
    flow = g.flow;
    lost = record { within = omega arith; was = g.was; none = g.none };
    null = g.null;
  }

only_later : (before now : List (List FlowPart)) (n : List FlowPart) (t : List ℕ) → IsOnly (drop 1 before) now t
    → IsOnly before (n ∷ now) t
only_later before now n t (inl h) = inl (Contains-append_right (map told n) (all_told now) t h)
only_later [] now n t (inr g) = absurd (contains_none g.flow g.lost.was)
only_later (b ∷ before) now n t (inr g) = inr
    (record {
      place = suc g.place;
      flow = g.flow;
      lost = record { within = omega (arith, g.lost.within); was = g.lost.was; none = g.lost.none };
      null = g.null;
    })

lists_only : (before now : List (List FlowPart)) (t : List ℕ) → Contains (changed_lists before now) t
    → IsOnly before now t
lists_only before [] t h = absurd (contains_none t (subst (λ (xs : List (List ℕ)). Contains xs t) (no_lists before) h))
lists_only before (n ∷ now) t h = elim
    (Contains-append_cases (changed_flows (slice_index_or before 0 []) n) (changed_lists (drop 1 before) now) t
    (subst (λ (xs : List (List ℕ)). Contains xs t) (lists_first before now n) h)) [
      | inl first ↦ only_first before now n t first
      | inr rest ↦ only_later before now n t (lists_only (drop 1 before) now t rest)
    ]

-- a flow of a list that is there no more
flow_gone : (before now : List FlowPart) (p : FlowPart) → Contains before p → is_there now p ≡ false
    → Contains (map gone (lost before now)) (gone p)
flow_gone [] now p h none = absurd (contains_none p h)
flow_gone (x ∷ before) now p h none = elim (Contains-append_cases (x ∷ []) before p h) [
  | inl first ↦ subst (λ (q : FlowPart). Contains (map gone (lost (x ∷ before) now)) (gone q)) (only_one x p first)
      (passes gone out x before (ap (λ (q : FlowPart). not (is_there now q)) (only_one x p first) ∙ ap not none))
  | inr rest ↦ passes_later gone out x before _ (flow_gone before now p rest none)
] where
  out : FlowPart → Bool
  out q = not (is_there now q)

lists_gone : (before now : List (List FlowPart)) (i : ℕ) (p : FlowPart) → i < length now
    → Contains (slice_index_or before i []) p → is_there (slice_index_or now i []) p ≡ false
    → Contains (changed_lists before now) (gone p)
lists_gone before [] i p lt h none = absurd (omega (arith, lt))
lists_gone [] (n ∷ now) zero p lt h none = absurd (contains_none p h)
lists_gone [] (n ∷ now) (suc i) p lt h none = absurd (contains_none p h)
lists_gone (b ∷ before) (n ∷ now) zero p lt h none =
    Contains-append_left (changed_flows b n) (changed_lists before now) (gone p)
    (Contains-append_right (map told (altered b n)) (map gone (lost b n)) (gone p) (flow_gone b n p h none))
lists_gone (b ∷ before) (n ∷ now) (suc i) p lt h none = Contains-append_right (changed_flows b n)
    (changed_lists before now) (gone p) (lists_gone before now i p (omega (arith, lt)) h none)

-- ---- all parts

pub kept : (before now : AllParts) (t : List ℕ) → Contains (members_of now) t
    → Contains (changed_parts before now) t ⊎ Contains (members_of before) t
kept before now t h = elim (Contains-append_cases now.fixed (all_told now.flows) t h) [
  | inl first ↦ joined (changed before.fixed now.fixed) (changed_lists before.flows now.flows) before.fixed
      (all_told before.flows) t (fixed.kept before.fixed now.fixed t first)
  | inr rest ↦ joined_later (changed before.fixed now.fixed) (changed_lists before.flows now.flows) before.fixed
      (all_told before.flows) t (lists_kept before.flows now.flows t rest)
]

pub only : (before now : AllParts) (t : List ℕ) → Contains (changed_parts before now) t
    → Contains (members_of now) t ⊎ IsGone before.flows now.flows t
only before now t h = elim
    (Contains-append_cases (changed before.fixed now.fixed) (changed_lists before.flows now.flows) t h) [
      | inl first ↦ inl (Contains-append_left now.fixed (all_told now.flows) t (fixed.only before.fixed now.fixed t first))
      | inr rest ↦ elim (lists_only _ _ t rest) [
        | inl there ↦ inl (Contains-append_right now.fixed (all_told now.flows) t there)
        | inr left ↦ inr left
      ]
    ]

pub all_lost : (before now : AllParts) (i : ℕ) (p : FlowPart) → i < length now.flows
    → Contains (slice_index_or before.flows i []) p → is_there (slice_index_or now.flows i []) p ≡ false
    → Contains (changed_parts before now) (gone p)
all_lost before now i p lt h none = Contains-append_right (changed before.fixed now.fixed)
    (changed_lists before.flows now.flows) (gone p) (lists_gone _ _ i p lt h none)
