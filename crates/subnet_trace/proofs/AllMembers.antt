-- All parts of a subnet are listed, one after the other.
use Rattle.subnet_trace.proofs.Common.{◌≡◌, ℕ, suc, ◌<◌, ◌≤◌, ◌+◌, ◌-◌, Bool, true, false, List, [], ◌∷◌, ◌++◌, filter, length, map, refl, sym, ap, ◌∙◌, arith, range_with_len, is_imp, Net}
use Rattle.subnet_trace.specs.Parts.{Imp, Line, all_parts, parts_members, Part}
use Rattle.subnet_trace.specs.Printing.{named, imp_members}
use Rattle.std.proofs.lemmas.List.{append-nil, append_assoc}

-- those that are left from an IMP on, and from a line on
abbrev pub imps_left : Net → ℕ → List (List ℕ)
imps_left n i = map (named n) (map (λ k. Imp k) (filter (is_imp n) (range_with_len i (length n.imps - i))) ++ map (λ l. Line l) (range_with_len 0 (length n.lines)))

abbrev pub lines_left : Net → ℕ → List (List ℕ)
lines_left n l = map (named n) (map (λ k. Line k) (range_with_len l (length n.lines - l)))

one_imp : (n : Net) (i : ℕ) (is : List ℕ) (others : List Part)
    → map (named n) (map (λ k. Imp k) (filter (is_imp n) (i ∷ is)) ++ others) ≡ imp_members n i ++ map (named n) (map (λ k. Imp k) (filter (is_imp n) is) ++ others)
one_imp n i is others = by (is_imp n i) refl where
  by : (t : Bool) → is_imp n i ≡ t → map (named n) (map (λ k. Imp k) (filter (is_imp n) (i ∷ is)) ++ others) ≡ imp_members n i ++ map (named n) (map (λ k. Imp k) (filter (is_imp n) is) ++ others)
  by true e = rw e refl
  by false e = rw e refl

pub none_listed : (n : Net) → [] ++ imps_left n 0 ≡ parts_members n (all_parts n)
none_listed n =
    let all : length n.imps - 0 ≡ length n.imps = omega arith in
    ap (λ (m : ℕ). map (named n) (map (λ k. Imp k) (filter (is_imp n) (range_with_len 0 m)) ++ map (λ l. Line l) (range_with_len 0 (length n.lines)))) all

pub imps_next : (n : Net) (i : ℕ) → i < length n.imps → imps_left n i ≡ imp_members n i ++ imps_left n (i + 1)
imps_next n i lt =
    let count : length n.imps - i ≡ suc (length n.imps - (i + 1)) = omega (arith, lt) in
    let later : List ℕ = range_with_len (i + 1) (length n.imps - (i + 1)) in
    let others : List Part = map (λ l. Line l) (range_with_len 0 (length n.lines)) in
    ap (λ (m : ℕ). map (named n) (map (λ k. Imp k) (filter (is_imp n) (range_with_len i m)) ++ others)) count ∙ one_imp n i later others

-- one IMP more
pub imp_listed : (n : Net) (i : ℕ) (front now whole : List (List ℕ)) → i < length n.imps → now ≡ front ++ imp_members n i → front ++ imps_left n i ≡ whole → now ++ imps_left n (i + 1) ≡ whole
imp_listed n i front now whole lt is before =
    let next : imps_left n i ≡ imp_members n i ++ imps_left n (i + 1) = imps_next n i lt in
    ap (λ (xs : List (List ℕ)). xs ++ imps_left n (i + 1)) is ∙ append_assoc front (imp_members n i) (imps_left n (i + 1)) ∙ ap (λ (xs : List (List ℕ)). front ++ xs) (sym next) ∙ before

pub imps_over : (n : Net) (i : ℕ) → length n.imps ≤ i → imps_left n i ≡ lines_left n 0
imps_over n i past =
    let none : length n.imps - i ≡ 0 = omega (arith, past) in
    let all : length n.lines ≡ length n.lines - 0 = omega arith in
    ap (λ (m : ℕ). map (named n) (map (λ k. Imp k) (filter (is_imp n) (range_with_len i m)) ++ map (λ l. Line l) (range_with_len 0 (length n.lines)))) none
    ∙ ap (λ (m : ℕ). map (named n) (map (λ l. Line l) (range_with_len 0 m))) all

pub imps_listed : (n : Net) (i : ℕ) (front whole : List (List ℕ)) → length n.imps ≤ i → front ++ imps_left n i ≡ whole → front ++ lines_left n 0 ≡ whole
imps_listed n i front whole past before = ap (λ (xs : List (List ℕ)). front ++ xs) (sym (imps_over n i past)) ∙ before

pub lines_next : (n : Net) (l : ℕ) → l < length n.lines → lines_left n l ≡ named n (Line l) ∷ lines_left n (l + 1)
lines_next n l lt =
    let count : length n.lines - l ≡ suc (length n.lines - (l + 1)) = omega (arith, lt) in
    ap (λ (m : ℕ). map (named n) (map (λ k. Line k) (range_with_len l m))) count

-- one line more
pub line_listed : (n : Net) (l : ℕ) (front now whole : List (List ℕ)) → l < length n.lines → now ≡ front ++ named n (Line l) ∷ [] → front ++ lines_left n l ≡ whole → now ++ lines_left n (l + 1) ≡ whole
line_listed n l front now whole lt is before =
    let next : lines_left n l ≡ named n (Line l) ∷ lines_left n (l + 1) = lines_next n l lt in
    ap (λ (xs : List (List ℕ)). xs ++ lines_left n (l + 1)) is ∙ append_assoc front (named n (Line l) ∷ []) (lines_left n (l + 1)) ∙ ap (λ (xs : List (List ℕ)). front ++ xs) (sym next) ∙ before

pub lines_over : (n : Net) (l : ℕ) → length n.lines ≤ l → lines_left n l ≡ []
lines_over n l past =
    let none : length n.lines - l ≡ 0 = omega (arith, past) in
    ap (λ (m : ℕ). map (named n) (map (λ k. Line k) (range_with_len l m))) none

pub all_listed : (n : Net) (l : ℕ) (front whole : List (List ℕ)) → length n.lines ≤ l → front ++ lines_left n l ≡ whole → front ≡ whole
all_listed n l front whole past before = sym (append-nil front) ∙ ap (λ (xs : List (List ℕ)). front ++ xs) (sym (lines_over n l past)) ∙ before
