-- Lists of flows are compared with those before, flow by flow.
use Rattle.trace.proofs.Common.{◌≡◌, ℕ, zero, suc, ◌<◌, ◌+◌, ◌==◌, ◌&&◌, ◌||◌, Bool, true, false, not, List, [], ◌∷◌, ◌++◌, codes, drop, filter, if◌then◌else◌, length, map, arith, refl, sym, ap, ap₂, ◌∙◌, slice_index_or, list_any, gone, same_flow_part, same_name, same_side, same_state, told, extended, mark, object, AllParts, FlowPart, FlowState, Side}
use Rattle.std.proofs.lemmas.Bool.{eq-eqb}
use Rattle.std.proofs.lemmas.List.{append_assoc, append-nil}
use Rattle.interface.proofs.lemmas.{same_flow-refl}
use Rattle.trace.specs.Changes.{changed, changed_flows, changed_lists, changed_parts}
use Rattle.trace.specs.declared.flow_part.FlowState.TheVariants as state
use Rattle.trace.specs.declared.flow_part.Side.TheVariants as side
use Rattle.trace.proofs.Changes.Changed.{none_changed}
use Rattle.trace.proofs.Changes.Extending.{extended_twice}

-- ---- those of which something holds, one after the other

pub keeps : (test : FlowPart → Bool) (x : FlowPart) (xs : List FlowPart) (b : Bool) → test x ≡ b
    → filter test (x ∷ xs) ≡ (if b then x ∷ filter test xs else filter test xs)
keeps test x xs true e = rw e refl
keeps test x xs false e = rw e refl

-- ---- list by list

pub lists_first : (before now : List (List FlowPart)) (x : List FlowPart)
    → changed_lists before (x ∷ now) ≡ changed_flows (slice_index_or before 0 []) x ++ changed_lists (drop 1 before) now
lists_first [] now x = refl
lists_first (b ∷ before) now x = refl

none_step : (now : List (List FlowPart)) (i : ℕ) → i < length now
    → changed_lists [] (drop i now) ≡ changed_flows [] (slice_index_or now i []) ++ changed_lists [] (drop (suc i) now)
none_step [] i lt = absurd (omega (arith, lt))
none_step (x ∷ now) zero lt = refl
none_step (x ∷ now) (suc i) lt = none_step now i (omega (arith, lt))

lists_step : (before now : List (List FlowPart)) (i : ℕ) → i < length now
    → changed_lists (drop i before) (drop i now) ≡ changed_flows (slice_index_or before i [])
    (slice_index_or now i []) ++ changed_lists (drop (suc i) before) (drop (suc i) now)
lists_step before [] i lt = absurd (omega (arith, lt))
lists_step before (x ∷ now) zero lt = lists_first before now x
lists_step [] (x ∷ now) (suc i) lt = none_step now i (omega (arith, lt))
lists_step (b ∷ before) (x ∷ now) (suc i) lt = lists_step before now i (omega (arith, lt))

next_list : (before now : List (List FlowPart)) (i : ℕ) (was is : List FlowPart) → i < length now
    → was ≡ slice_index_or before i [] → is ≡ slice_index_or now i []
    → changed_lists (drop i before) (drop i now) ≡ changed_flows was is ++ changed_lists (drop (i + 1) before)
    (drop (i + 1) now)
next_list before now i was is lt old new =
    let sums : suc i ≡ i + 1 = omega arith in
    lists_step before now i lt
    ∙ ap₂ (λ (b n : List FlowPart). changed_flows b n ++ changed_lists (drop (suc i) before) (drop (suc i) now))
    (sym old) (sym new)
    ∙ ap (λ (k : ℕ). changed_flows was is ++ changed_lists (drop k before) (drop k now)) sums

pub no_lists : (before : List (List FlowPart)) → changed_lists before [] ≡ []
no_lists [] = refl
no_lists (b ∷ before) = refl

-- what has changed in a list is added
pub list_added : (before now : List (List FlowPart)) (i : ℕ) (was is : List FlowPart) (text later whole : List ℕ)
    → i < length now → was ≡ slice_index_or before i [] → is ≡ slice_index_or now i []
    → later ≡ extended text (changed_flows was is) → extended text (changed_lists (drop i before) (drop i now)) ≡ whole
    → extended later (changed_lists (drop (i + 1) before) (drop (i + 1) now)) ≡ whole
list_added before now i was is text later whole lt old new added all =
    ap (λ (t : List ℕ). extended t (changed_lists (drop (i + 1) before) (drop (i + 1) now))) added
    ∙ extended_twice text (changed_flows was is) (changed_lists (drop (i + 1) before) (drop (i + 1) now))
    ∙ ap (extended text) (sym (next_list before now i was is lt old new)) ∙ all

-- ---- two tests

-- ---- where all are as they were

side_same : (x : Side) → same_side x x ≡ true
side_same side.Source = refl
side_same side.Kept = refl

state_same : (x : FlowState) → same_state x x ≡ true
state_same state.Outstanding = refl
state_same state.Answered = refl
state_same state.Idle = refl
state_same state.Waits = refl
state_same state.Taken = refl
state_same state.Dead = refl
state_same state.Never = refl

name_same : (p : FlowPart) → same_name p p ≡ true
name_same p = ap₂ (λ (a b : Bool). a && b) (side_same p.side) (same_flow-refl p.flow)

pub part_same : (p : FlowPart) → same_flow_part p p ≡ true
part_same p =
    let number : (p.number == p.number) ≡ true = eq-eqb p.number p.number refl in
    ap₂ (λ (a b : Bool). a && b) (ap₂ (λ (a b : Bool). a && b) (name_same p) (state_same _)) number

found : (test : FlowPart → Bool) (front back : List FlowPart) (x : FlowPart) → test x ≡ true
    → list_any test (front ++ x ∷ back) ≡ true
found test [] back x e = ap (λ (b : Bool). b || list_any test back) e
found test (y ∷ front) back x e = by (test y) (found test front back x e) where
  by : (b : Bool) → list_any test (front ++ x ∷ back) ≡ true → (b || list_any test (front ++ x ∷ back)) ≡ true
  by true h = refl
  by false h = h

-- each of a list is found in it, and so none has another text or is lost
all_found : (same : FlowPart → FlowPart → Bool) → ((p : FlowPart) → same p p ≡ true) → (front xs : List FlowPart)
    → filter (λ p. not (list_any (λ q. same q p) (front ++ xs))) xs ≡ []
all_found same itself front [] = refl
all_found same itself front (x ∷ xs) =
    let there : list_any (λ q. same q x) (front ++ x ∷ xs) ≡ true = found _ front xs x (itself x) in
    let whole : (front ++ x ∷ []) ++ xs ≡ front ++ x ∷ xs = append_assoc front (x ∷ []) xs in
    keeps _ x xs false (ap not there)
    ∙ ap (λ (all : List FlowPart). filter (λ p. not (list_any (λ q. same q p) all)) xs) (sym whole)
    ∙ all_found same itself (front ++ x ∷ []) xs

pub no_flow_changed : (xs : List FlowPart) → changed_flows xs xs ≡ []
no_flow_changed xs = ap₂ (λ (a b : List FlowPart). map told a ++ map gone b) (all_found same_flow_part part_same [] xs)
    (all_found same_name name_same [] xs)

no_list_changed : (ls : List (List FlowPart)) → changed_lists ls ls ≡ []
no_list_changed [] = refl
no_list_changed (l ∷ ls) = ap₂ (λ (a b : List (List ℕ)). a ++ b) (no_flow_changed l) (no_list_changed ls)

pub no_part_changed : (p : AllParts) → changed_parts p p ≡ []
no_part_changed p = ap₂ (λ (a b : List (List ℕ)). a ++ b) (none_changed p.fixed) (no_list_changed p.flows)

-- and nothing is put into an object
pub none_changed_now : (before now : AllParts) (text : List ℕ) → text ≡ [] → before ≡ now
    → text ++ mark (codes "{}") (codes "}") (length text) ≡ object (changed_parts before now)
none_changed_now before now text empty same =
    ap (λ (t : List ℕ). t ++ mark (codes "{}") (codes "}") (length t)) empty
    ∙ sym (ap object (ap (λ (p : AllParts). changed_parts p now) same ∙ no_part_changed now))

-- a carrier of which nothing is known of flows
pub without_flows : (before : AllParts) (now : List (List ℕ))
    → changed_parts before (record { fixed = now; flows = [] }) ≡ changed before.fixed now
without_flows before now = ap (λ (xs : List (List ℕ)). changed before.fixed now ++ xs) (no_lists before.flows)
    ∙ append-nil (changed before.fixed now)
