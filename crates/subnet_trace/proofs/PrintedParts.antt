-- All parts of a subnet are printed: the IMPs, the lines, and after them the flows of each IMP.
use Rattle.subnet_trace.proofs.Common.{◌≡◌, ℕ, suc, Bool, true, false, ◌<◌, ◌≤◌, ◌+◌, List, [], ◌∷◌, ◌++◌, codes, if◌then◌else◌, length, map, Option, Some, None, refl, sym, ap, subst, ◌∙◌, arith, Appends, Appends-trans, is_imp, Net, Imp, Line, all_parts, parts_members, parts_of_net, object, further, flat_map, told, FlowPart}
use Rattle.subnet_trace.specs.Printing.{named, flows_there, members_behind, place_after_members, flow_members}
use Rattle.trace.specs.Joined.{mark, place_behind, part_behind}
use Rattle.trace.proofs.lemmas.{Remains, more_printed}
use Rattle.std.proofs.lemmas.List.{append-nil, append_assoc}
use Rattle.replay.proofs.lemmas.{appends_none}
use Rattle.trace.specs.Changes.{members_of}
use Rattle.subnet_trace.proofs.AllMembers.{imps_left, imps_next, imps_over, lines_left, lines_next, lines_over, none_listed}
use Rattle.subnet_trace.proofs.FlowLists.{all_left, flows_left, flows_next, flows_over}

-- ---- members after others

after_one : (xs : List (List ℕ)) → place_after_members 1 xs ≡ 1
after_one [] = refl
after_one (x ∷ xs) = refl

behind_append : (place : ℕ) (xs ys : List (List ℕ)) → members_behind place (xs ++ ys) ≡ members_behind place xs ++ members_behind (place_after_members place xs) ys
behind_append place [] ys = refl
behind_append place (x ∷ xs) ys =
    let front : List ℕ = mark (codes "{") (codes ",") place in
    ap (λ (zs : List ℕ). front ++ (x ++ zs)) (behind_append 1 xs ys ∙ ap (λ (n : ℕ). members_behind 1 xs ++ members_behind n ys) (after_one xs))
    ∙ ap (λ (zs : List ℕ). front ++ zs) (sym (append_assoc x (members_behind 1 xs) (members_behind 1 ys)))
    ∙ sym (append_assoc front (x ++ members_behind 1 xs) (members_behind 1 ys))

after_append : (place : ℕ) (xs ys : List (List ℕ)) → place_after_members place (xs ++ ys) ≡ place_after_members (place_after_members place xs) ys
after_append place [] ys = refl
after_append place (x ∷ xs) ys = sym (after_one ys)

behind_end : (xs : List (List ℕ)) → members_behind 1 xs ++ codes "}" ≡ further (codes "}") xs
behind_end [] = refl
behind_end (x ∷ xs) =
    append_assoc (codes ",") (x ++ members_behind 1 xs) (codes "}")
    ∙ ap (λ (zs : List ℕ). codes "," ++ zs) (append_assoc x (members_behind 1 xs) (codes "}") ∙ ap (λ (zs : List ℕ). x ++ zs) (behind_end xs))

object_behind : (xs : List (List ℕ)) → members_behind 0 xs ++ mark (codes "{}") (codes "}") (place_after_members 0 xs) ≡ object xs
object_behind [] = refl
object_behind (x ∷ xs) =
    append_assoc (codes "{") (x ++ members_behind 1 xs) (codes "}")
    ∙ ap (λ (zs : List ℕ). codes "{" ++ zs) (append_assoc x (members_behind 1 xs) (codes "}") ∙ ap (λ (zs : List ℕ). x ++ zs) (behind_end xs))

-- ---- what is left of a list of members

-- these are left to be printed of all
pub record AreLeft (a b : Option (List ℕ)) (place start : ℕ) (xs all : List (List ℕ)) : Type 0 where
  pub text : Remains a b (members_behind place xs) (members_behind start all)
  pub next : place_after_members place xs ≡ place_after_members start all

pub all_are_left : (a : Option (List ℕ)) (start : ℕ) (all : List (List ℕ)) → AreLeft a a start start all all
all_are_left a start all = record { text = λ last printed. printed; next = refl }

-- some are printed
pub members_printed : (a b c : Option (List ℕ)) (place start : ℕ) (xs rest all : List (List ℕ)) → AreLeft a b place start (xs ++ rest) all → Appends b c (members_behind place xs) → AreLeft a c (place_after_members place xs) start rest all
members_printed a b c place start xs rest all h printed = record {
  text = more_printed (members_behind place xs) (members_behind (place_after_members place xs) rest) _ a b c (subst (λ (zs : List ℕ). Remains a b zs (members_behind start all)) (behind_append place xs rest) h.text) printed;
  next = sym (after_append place xs rest) ∙ h.next;
}

pub one_printed : (a b c : Option (List ℕ)) (place start : ℕ) (x : List ℕ) (rest all : List (List ℕ)) → AreLeft a b place start (x ∷ rest) all → Appends b c (mark (codes "{") (codes ",") place ++ x) → AreLeft a c 1 start rest all
one_printed a b c place start x rest all h printed =
    members_printed a b c place start (x ∷ []) rest all h (subst (λ (zs : List ℕ). Appends b c (mark (codes "{") (codes ",") place ++ zs)) (sym (append-nil x)) printed)

-- and then none is left
pub all_written : (a b : Option (List ℕ)) (place start : ℕ) (xs all : List (List ℕ)) → xs ≡ [] → AreLeft a b place start xs all → Appends a b (members_behind start all)
all_written a b place start xs all none h = h.text b (subst (λ (ys : List (List ℕ)). Appends b b (members_behind place ys)) (sym none) (appends_none b))

pub last_place : (a b : Option (List ℕ)) (place start : ℕ) (xs all : List (List ℕ)) → xs ≡ [] → AreLeft a b place start xs all → place ≡ place_after_members start all
last_place a b place start xs all none h = sym (ap (place_after_members place) none) ∙ h.next

-- two lists of members, one after the other
pub both_printed : (a b c : Option (List ℕ)) (place next : ℕ) (xs ys : List (List ℕ)) → Appends a b (members_behind place xs) → next ≡ place_after_members place xs → Appends b c (members_behind next ys) → Appends a c (members_behind place (xs ++ ys))
both_printed a b c place next xs ys first is second =
    subst (Appends a c) (ap (λ (n : ℕ). members_behind place xs ++ members_behind n ys) is ∙ sym (behind_append place xs ys)) (Appends-trans a b c (members_behind place xs) (members_behind next ys) first second)

pub both_after : (place next last : ℕ) (xs ys : List (List ℕ)) → next ≡ place_after_members place xs → last ≡ place_after_members next ys → last ≡ place_after_members place (xs ++ ys)
both_after place next last xs ys is after = after ∙ ap (λ (n : ℕ). place_after_members n ys) is ∙ sym (after_append place xs ys)

-- ---- IMPs and lines

abbrev pub fixed_members : Net → List (List ℕ)
fixed_members n = parts_members n (all_parts n)

pub fixed_begins : (n : Net) (a : Option (List ℕ)) → AreLeft a a 0 0 (imps_left n 0) (fixed_members n)
fixed_begins n a = subst (λ (xs : List (List ℕ)). AreLeft a a 0 0 xs (fixed_members n)) (sym (none_listed n)) (all_are_left a 0 _)

imp_behind : (n : Net) (i place : ℕ) (there : Bool) → is_imp n i ≡ there → part_behind there place (named n (Imp i)) ≡ members_behind place (if there then named n (Imp i) ∷ [] else [])
imp_behind n i place true is = ap (λ (zs : List ℕ). mark (codes "{") (codes ",") place ++ zs) (sym (append-nil (named n (Imp i))))
imp_behind n i place false is = refl

after_imp : (n : Net) (i place : ℕ) (there : Bool) → place_behind place there ≡ place_after_members place (if there then named n (Imp i) ∷ [] else [])
after_imp n i place true = refl
after_imp n i place false = refl

pub imp_printed : (n : Net) (i place next : ℕ) (a b c : Option (List ℕ)) → i < length n.imps → AreLeft a b place 0 (imps_left n i) (fixed_members n) → Appends b c (part_behind (is_imp n i) place (named n (Imp i))) → next ≡ place_behind place (is_imp n i)
    → AreLeft a c next 0 (imps_left n (i + 1)) (fixed_members n)
imp_printed n i place next a b c lt h printed is =
    subst (λ (k : ℕ). AreLeft a c k 0 (imps_left n (i + 1)) (fixed_members n)) (sym (is ∙ after_imp n i place _))
    (members_printed a b c place 0 _ _ _ (subst (λ (xs : List (List ℕ)). AreLeft a b place 0 xs (fixed_members n)) (imps_next n i lt) h)
    (subst (Appends b c) (imp_behind n i place _ refl) printed))

pub imps_done : (n : Net) (i place : ℕ) (a b : Option (List ℕ)) → length n.imps ≤ i → AreLeft a b place 0 (imps_left n i) (fixed_members n) → AreLeft a b place 0 (lines_left n 0) (fixed_members n)
imps_done n i place a b past h = subst (λ (xs : List (List ℕ)). AreLeft a b place 0 xs (fixed_members n)) (imps_over n i past) h

pub line_printed : (n : Net) (l place : ℕ) (a b c : Option (List ℕ)) → l < length n.lines → AreLeft a b place 0 (lines_left n l) (fixed_members n) → Appends b c (mark (codes "{") (codes ",") place ++ named n (Line l)) → AreLeft a c 1 0 (lines_left n (l + 1)) (fixed_members n)
line_printed n l place a b c lt h printed =
    one_printed a b c place 0 _ _ _ (subst (λ (xs : List (List ℕ)). AreLeft a b place 0 xs (fixed_members n)) (lines_next n l lt) h) printed

-- ---- flows

-- those of the IMPs from this one on
abbrev pub flow_texts : Net → ℕ → List (List ℕ)
flow_texts n i = flat_map (map told) (flows_left n i)

abbrev pub all_members_of : Net → List (List ℕ)
all_members_of n = members_of (parts_of_net n)

each_append : (xs ys : List (List FlowPart)) → flat_map (map told) (xs ++ ys) ≡ flat_map (map told) xs ++ flat_map (map told) ys
each_append [] ys = refl
each_append (x ∷ xs) ys = ap (λ (zs : List (List ℕ)). map told x ++ zs) (each_append xs ys) ∙ sym (append_assoc (map told x) (flat_map (map told) xs) (flat_map (map told) ys))

pub flows_begin : (n : Net) (place : ℕ) (a b : Option (List ℕ)) → Appends a b (members_behind 0 (fixed_members n)) → place ≡ place_after_members 0 (fixed_members n) → AreLeft a b place 0 (flow_texts n 0) (all_members_of n)
flows_begin n place a b printed is =
    subst (λ (k : ℕ). AreLeft a b k 0 (flow_texts n 0) (all_members_of n)) (sym is)
    (subst (λ (ls : List (List FlowPart)). AreLeft a b (place_after_members 0 (fixed_members n)) 0 (flat_map (map told) ls) (all_members_of n)) (sym (all_left n))
    (members_printed a a b 0 0 _ _ _ (all_are_left a 0 _) printed))

pub flows_printed : (n : Net) (i place next : ℕ) (a b c : Option (List ℕ)) → i < length n.imps → AreLeft a b place 0 (flow_texts n i) (all_members_of n) → Appends b c (members_behind place (flow_members n i)) → next ≡ place_after_members place (flow_members n i)
    → AreLeft a c next 0 (flow_texts n (i + 1)) (all_members_of n)
flows_printed n i place next a b c lt h printed is =
    subst (λ (k : ℕ). AreLeft a c k 0 (flow_texts n (i + 1)) (all_members_of n)) (sym is)
    (members_printed a b c place 0 _ _ _
    (subst (λ (xs : List (List ℕ)). AreLeft a b place 0 xs (all_members_of n)) (ap (flat_map (map told)) (flows_next n i lt) ∙ each_append (flows_there n i) (flows_left n (i + 1))) h) printed)

pub whole_printed : (n : Net) (i place : ℕ) (a b c : Option (List ℕ)) → length n.imps ≤ i → AreLeft a b place 0 (flow_texts n i) (all_members_of n) → Appends b c (mark (codes "{}") (codes "}") place) → Appends a c (object (all_members_of n))
whole_printed n i place a b c past h last =
    let none : flow_texts n i ≡ [] = ap (flat_map (map told)) (flows_over n i past) in
    subst (Appends a c) (object_behind _)
    (Appends-trans a b c (members_behind 0 (all_members_of n)) (mark (codes "{}") (codes "}") (place_after_members 0 (all_members_of n))) (all_written a b place 0 _ _ none h)
    (subst (λ (k : ℕ). Appends b c (mark (codes "{}") (codes "}") k)) (last_place a b place 0 _ _ none h) last))
