-- The flows of all IMPs are listed, and those that an event can have changed are put in the place of those before.
use Rattle.subnet_trace.proofs.Common.{◌≡◌, ℕ, zero, suc, ◌<◌, ◌≤◌, ◌+◌, ◌-◌, Bool, true, false, List, [], ◌∷◌, ◌++◌, filter, if◌then◌else◌, length, map, slice_set, refl, sym, ap, ap₂, ◌∙◌, arith, subst, Option, range_with_len, flat_map, State, is_imp, Net, imp_at, has_imp, HasFlowsIn, Scope, kept_of, sources_of, changed_flows, changed_lists, extended, FlowPart}
use Rattle.std.proofs.lemmas.List.{append-nil, length-append, append_assoc}
use Rattle.subnet_trace.specs.Parts.{all_flows, flows_at}
use Rattle.subnet_trace.specs.Printing.{changed_at, flows_there, put_lists}
use Rattle.trace.proofs.lemmas.{extended_twice, no_flow_changed}
use Rattle.std.specs.Prelude.{slice_index_or}

-- ---- all lists, one IMP after the other

-- those that are left from an IMP on
abbrev pub flows_left : Net → ℕ → List (List FlowPart)
flows_left n i = flat_map (flows_at n) (filter (is_imp n) (range_with_len i (length n.imps - i)))

pub all_left : (n : Net) → flows_left n 0 ≡ all_flows n
all_left n = let all : length n.imps - 0 ≡ length n.imps = omega arith in ap (λ (m : ℕ). flat_map (flows_at n) (filter (is_imp n) (range_with_len 0 m))) all

one_left : (n : Net) (i : ℕ) (is : List ℕ) → flat_map (flows_at n) (filter (is_imp n) (i ∷ is)) ≡ flows_there n i ++ flat_map (flows_at n) (filter (is_imp n) is)
one_left n i is = by (is_imp n i) refl where
  by : (t : Bool) → is_imp n i ≡ t → flat_map (flows_at n) (filter (is_imp n) (i ∷ is)) ≡ flows_there n i ++ flat_map (flows_at n) (filter (is_imp n) is)
  by true e = rw e refl
  by false e = rw e refl

pub flows_next : (n : Net) (i : ℕ) → i < length n.imps → flows_left n i ≡ flows_there n i ++ flows_left n (i + 1)
flows_next n i lt =
    let count : length n.imps - i ≡ suc (length n.imps - (i + 1)) = omega (arith, lt) in
    ap (λ (m : ℕ). flat_map (flows_at n) (filter (is_imp n) (range_with_len i m))) count ∙ one_left n i _

pub flows_over : (n : Net) (i : ℕ) → length n.imps ≤ i → flows_left n i ≡ []
flows_over n i past = let none : length n.imps - i ≡ 0 = omega (arith, past) in ap (λ (m : ℕ). flat_map (flows_at n) (filter (is_imp n) (range_with_len i m))) none

-- one IMP more
pub flows_listed : (n : Net) (i : ℕ) (front now whole : List (List FlowPart)) → i < length n.imps → now ≡ front ++ flows_there n i → front ++ flows_left n i ≡ whole → now ++ flows_left n (i + 1) ≡ whole
flows_listed n i front now whole lt is before =
    ap (λ (xs : List (List FlowPart)). xs ++ flows_left n (i + 1)) is ∙ append_assoc front (flows_there n i) (flows_left n (i + 1)) ∙ ap (λ (xs : List (List FlowPart)). front ++ xs) (sym (flows_next n i lt)) ∙ before

pub all_flows_listed : (n : Net) (i : ℕ) (front whole : List (List FlowPart)) → length n.imps ≤ i → front ++ flows_left n i ≡ whole → front ≡ whole
all_flows_listed n i front whole past before = sym (append-nil front) ∙ ap (λ (xs : List (List FlowPart)). front ++ xs) (sym (flows_over n i past)) ∙ before

-- ---- lists are put in the place of those before them

-- as many lists as this place are put there, and what has changed in them is in this object; these are left
pub record FlowsPut (now : List (List FlowPart)) (whole : List ℕ) (place : ℕ) (known : List (List FlowPart)) (text : List ℕ) (olds news : List (List FlowPart)) : Type 0 where
  pub front : List (List FlowPart)
  pub count : place ≡ length front
  pub there : known ≡ front ++ olds
  pub all : now ≡ front ++ news
  pub written : extended text (changed_lists olds news) ≡ whole

pub flows_begin : (before now : List (List FlowPart)) (text : List ℕ) → FlowsPut now (extended text (changed_lists before now)) 0 before text before now
flows_begin before now text = record { front = []; count = refl; there = refl; all = refl; written = refl }

two_set : (front rest : List (List FlowPart)) (x y a b : List FlowPart) → slice_set (slice_set (front ++ x ∷ y ∷ rest) (length front) a) (suc (length front)) b ≡ (front ++ a ∷ b ∷ []) ++ rest
two_set [] rest x y a b = refl
two_set (z ∷ front) rest x y a b = ap (λ (zs : List (List FlowPart)). z ∷ zs) (two_set front rest x y a b)

first_at : (front rest : List (List FlowPart)) (x y : List FlowPart) → slice_index_or (front ++ x ∷ y ∷ rest) (length front) [] ≡ x
first_at [] rest x y = refl
first_at (z ∷ front) rest x y = first_at front rest x y

second_at : (front rest : List (List FlowPart)) (x y : List FlowPart) → slice_index_or (front ++ x ∷ y ∷ rest) (suc (length front)) [] ≡ y
second_at [] rest x y = refl
second_at (z ∷ front) rest x y = second_at front rest x y

two_more : (front rest : List (List FlowPart)) (a b : List FlowPart) → front ++ a ∷ b ∷ rest ≡ (front ++ a ∷ b ∷ []) ++ rest
two_more front rest a b = sym (append_assoc front (a ∷ b ∷ []) rest)

two_places : (place : ℕ) (front : List (List FlowPart)) (a b : List FlowPart) → place ≡ length front → place + 2 ≡ length (front ++ a ∷ b ∷ [])
two_places place front a b count = ap (λ (n : ℕ). n + 2) count ∙ sym (length-append front (a ∷ b ∷ []))

-- two lists that are as they were
pub two_kept : (now : List (List FlowPart)) (whole : List ℕ) (place : ℕ) (known : List (List FlowPart)) (text : List ℕ) (olds news : List (List FlowPart)) (a b : List FlowPart)
    → FlowsPut now whole place known text (a ∷ b ∷ olds) (a ∷ b ∷ news) → FlowsPut now whole (place + 2) known text olds news
two_kept now whole place known text olds news a b h = record {
  front = h.front ++ a ∷ b ∷ [];
  count = two_places place _ a b h.count;
  there = h.there ∙ two_more _ olds a b;
  all = h.all ∙ two_more _ news a b;
  written = ap₂ (λ (xs ys : List (List ℕ)). extended text (xs ++ (ys ++ changed_lists olds news))) (sym (no_flow_changed a)) (sym (no_flow_changed b)) ∙ h.written;
}

-- two that may be other
pub two_put : (now : List (List FlowPart)) (whole : List ℕ) (place : ℕ) (known later : List (List FlowPart)) (text longer : List ℕ) (olds news : List (List FlowPart)) (x y a b : List FlowPart)
    → later ≡ slice_set (slice_set known place a) (place + 1) b → longer ≡ extended text (changed_flows (slice_index_or known place []) a ++ changed_flows (slice_index_or known (place + 1) []) b)
    → FlowsPut now whole place known text (x ∷ y ∷ olds) (a ∷ b ∷ news) → FlowsPut now whole (place + 2) later longer olds news
two_put now whole place known later text longer olds news x y a b put added h = record {
  front = h.front ++ a ∷ b ∷ [];
  count = two_places place _ a b h.count;
  there = put ∙ ap (λ (n : ℕ). slice_set (slice_set known place a) n b) after ∙ ap₂ (λ (ks : List (List FlowPart)) (n : ℕ). slice_set (slice_set ks n a) (suc n) b) h.there h.count ∙ two_set _ olds x y a b;
  all = h.all ∙ two_more _ news a b;
  written = ap (λ (t : List ℕ). extended t (changed_lists olds news)) (added ∙ ap₂ (λ (was wie : List FlowPart). extended text (changed_flows was a ++ changed_flows wie b)) first second)
      ∙ extended_twice text (changed_flows x a ++ changed_flows y b) (changed_lists olds news)
      ∙ ap (extended text) (append_assoc (changed_flows x a) (changed_flows y b) (changed_lists olds news)) ∙ h.written;
} where
  after : place + 1 ≡ suc place
  after = omega arith

  first : slice_index_or known place [] ≡ x
  first = ap₂ (λ (ks : List (List FlowPart)) (n : ℕ). slice_index_or ks n []) h.there h.count ∙ first_at h.front olds x y

  second : slice_index_or known (place + 1) [] ≡ y
  second = ap (λ (n : ℕ). slice_index_or known n []) after ∙ ap₂ (λ (ks : List (List FlowPart)) (n : ℕ). slice_index_or ks (suc n) []) h.there h.count ∙ second_at h.front olds x y

pub two_within : (now : List (List FlowPart)) (whole : List ℕ) (place : ℕ) (known : List (List FlowPart)) (text : List ℕ) (olds news : List (List FlowPart)) (x y : List FlowPart) → FlowsPut now whole place known text (x ∷ y ∷ olds) news → place + 1 < length known
two_within now whole place known text olds news x y h =
    let long : length known ≡ length h.front + suc (suc (length olds)) = ap length h.there ∙ length-append h.front (x ∷ y ∷ olds) in
    omega (arith, h.count, long)

pub record AllFlowsPut (now known : List (List FlowPart)) (text whole : List ℕ) : Type 0 where
  pub all : known ≡ now
  pub written : text ≡ whole

pub flows_put : (now : List (List FlowPart)) (whole : List ℕ) (place : ℕ) (known : List (List FlowPart)) (text : List ℕ) (olds news : List (List FlowPart)) → olds ≡ [] → news ≡ [] → FlowsPut now whole place known text olds news → AllFlowsPut now known text whole
flows_put now whole place known text olds news none over h = record {
  all = h.there ∙ ap (λ (os : List (List FlowPart)). h.front ++ os) (none ∙ sym over) ∙ sym h.all;
  written = ap₂ (λ (os ns : List (List FlowPart)). extended text (changed_lists os ns)) (sym none) (sym over) ∙ h.written;
}

-- ---- both lists of an IMP

other_at : (lists : List (List FlowPart)) (place : ℕ) (a : List FlowPart) → slice_index_or (slice_set lists place a) (suc place) [] ≡ slice_index_or lists (suc place) []
other_at [] place a = refl
other_at (x ∷ lists) zero a = refl
other_at (x ∷ lists) (suc place) a = other_at lists place a

pub both_put : (lists mid : List (List FlowPart)) (place : ℕ) (o : Option State) (a b : List FlowPart) (object first text : List ℕ) → a ≡ sources_of o → b ≡ kept_of o → mid ≡ slice_set lists place a
    → first ≡ extended object (changed_flows (slice_index_or lists place []) a) → text ≡ extended first (changed_flows (slice_index_or mid (place + 1) []) b) → text ≡ extended object (changed_at true lists place o)
both_put lists mid place o a b object first text sources kept put one two =
    let after : place + 1 ≡ suc place = omega arith in
    let there : slice_index_or mid (place + 1) [] ≡ slice_index_or lists (place + 1) [] =
    ap₂ (λ (ls : List (List FlowPart)) (n : ℕ). slice_index_or ls n []) put after ∙ other_at lists place a ∙ ap (λ (n : ℕ). slice_index_or lists n []) (sym after) in
    two ∙ ap₂ (λ (t : List ℕ) (was : List FlowPart). extended t (changed_flows was b)) one there
    ∙ extended_twice object (changed_flows (slice_index_or lists place []) a) (changed_flows (slice_index_or lists (place + 1) []) b)
    ∙ ap₂ (λ (x y : List FlowPart). extended object (changed_flows (slice_index_or lists place []) x ++ changed_flows (slice_index_or lists (place + 1) []) y)) sources kept

-- ---- those of an IMP

-- the lists are those that are left from an IMP on
abbrev pub FlowsAt : (s : Scope) (lists : List (List FlowPart)) (new : Net) → HasFlowsIn s lists new → List ℕ → ℕ → ℕ → List (List FlowPart) → List ℕ → Type 0
FlowsAt s lists new r whole i place known text = FlowsPut (all_flows new) whole place known text (flows_left r.0 i) (flows_left new i)

pub flows_start : (s : Scope) (lists : List (List FlowPart)) (new : Net) (r : HasFlowsIn s lists new) (text : List ℕ) → FlowsAt s lists new r (extended text (changed_lists lists (all_flows new))) 0 0 lists text
flows_start s lists new r text =
    subst (λ (ns : List (List FlowPart)). FlowsPut (all_flows new) (extended text (changed_lists lists (all_flows new))) 0 lists text (flows_left r.0 0) ns) (sym (all_left new))
    (subst (λ (os : List (List FlowPart)). FlowsPut (all_flows new) (extended text (changed_lists lists (all_flows new))) 0 lists text os (all_flows new)) (r.1 ∙ sym (all_left r.0)) (flows_begin lists _ text))

is_there : (n : Net) (i : ℕ) (there : Bool) → is_imp n i ≡ there → i < length n.imps → flows_left n i ≡ (if there then flows_at n i else []) ++ flows_left n (i + 1)
is_there n i there is lt = flows_next n i lt ∙ ap (λ (b : Bool). (if b then flows_at n i else []) ++ flows_left n (i + 1)) is

was_there : (s : Scope) (lists : List (List FlowPart)) (new : Net) (r : HasFlowsIn s lists new) (i : ℕ) (there : Bool) → is_imp new i ≡ there → is_imp r.0 i ≡ there
was_there s lists new r i there is = ap (λ sites. is_imp (record r.0 { sites = sites }) i) (sym r.2.sites) ∙ is

-- at an IMP, or at a place where the network has none
here : (s : Scope) (lists : List (List FlowPart)) (new : Net) (r : HasFlowsIn s lists new) (whole : List ℕ) (i place : ℕ) (known : List (List FlowPart)) (text : List ℕ) (there : Bool) → i < length new.imps → is_imp new i ≡ there
    → FlowsAt s lists new r whole i place known text
    → FlowsPut (all_flows new) whole place known text ((if there then flows_at r.0 i else []) ++ flows_left r.0 (i + 1)) ((if there then flows_at new i else []) ++ flows_left new (i + 1))
here s lists new r whole i place known text there lt is so =
    let was : i < length r.0.imps = omega (arith, lt, r.2.places) in
    subst (λ (ns : List (List FlowPart)). FlowsPut (all_flows new) whole place known text ((if there then flows_at r.0 i else []) ++ flows_left r.0 (i + 1)) ns) (is_there new i there is lt)
    (subst (λ (os : List (List FlowPart)). FlowsPut (all_flows new) whole place known text os (flows_left new i)) (is_there r.0 i there (was_there s lists new r i there is) was) so)

pub none_at : (s : Scope) (lists : List (List FlowPart)) (new : Net) (r : HasFlowsIn s lists new) (whole : List ℕ) (i place : ℕ) (known : List (List FlowPart)) (text : List ℕ) → i < length new.imps → is_imp new i ≡ false
    → FlowsAt s lists new r whole i place known text → FlowsAt s lists new r whole (i + 1) place known text
none_at s lists new r whole i place known text lt is so = here s lists new r whole i place known text false lt is so

-- those of an IMP are put, or cannot have changed
pub put_at_imp : (s : Scope) (lists : List (List FlowPart)) (new : Net) (r : HasFlowsIn s lists new) (whole : List ℕ) (i place : ℕ) (may : Bool) (known later : List (List FlowPart)) (text longer : List ℕ) → i < length new.imps → is_imp new i ≡ true → may ≡ has_imp s i
    → later ≡ put_lists may known place (imp_at new.imps i) → longer ≡ extended text (changed_at may known place (imp_at new.imps i))
    → FlowsAt s lists new r whole i place known text → FlowsAt s lists new r whole (i + 1) (place + 2) later longer
put_at_imp s lists new r whole i place true known later text longer lt is test put added so =
    two_put _ whole place known later text longer _ _ _ _ _ _ put added
    (here s lists new r whole i place known text true lt is so)
put_at_imp s lists new r whole i place false known later text longer lt is test put added so =
    subst (λ (ks : List (List FlowPart)). FlowsAt s lists new r whole (i + 1) (place + 2) ks longer) (sym put)
    (subst (λ (t : List ℕ). FlowsAt s lists new r whole (i + 1) (place + 2) known t) (sym added)
    (two_kept _ whole place known text _ _ _ _
    (subst (λ o. FlowsPut (all_flows new) whole place known text (sources_of o ∷ kept_of o ∷ flows_left r.0 (i + 1)) (flows_at new i ++ flows_left new (i + 1))) (sym (r.2.imps i (sym test)))
    (here s lists new r whole i place known text true lt is so))))

pub within_at : (s : Scope) (lists : List (List FlowPart)) (new : Net) (r : HasFlowsIn s lists new) (whole : List ℕ) (i place : ℕ) (known : List (List FlowPart)) (text : List ℕ) → i < length new.imps → is_imp new i ≡ true
    → FlowsAt s lists new r whole i place known text → place + 1 < length known
within_at s lists new r whole i place known text lt is so =
    two_within _ whole place known text _ _ _ _ (here s lists new r whole i place known text true lt is so)

pub flows_done : (s : Scope) (lists : List (List FlowPart)) (new : Net) (r : HasFlowsIn s lists new) (whole : List ℕ) (i place : ℕ) (known : List (List FlowPart)) (text : List ℕ) → length new.imps ≤ i
    → FlowsAt s lists new r whole i place known text → AllFlowsPut (all_flows new) known text whole
flows_done s lists new r whole i place known text past so =
    let was : length r.0.imps ≤ i = omega (arith, past, r.2.places) in
    flows_put _ whole place known text _ _ (flows_over r.0 i was) (flows_over new i past) so
