-- The lives of a log among hosts with programs, and their places.
use Rattle.command_line.proofs.Common.{Contains, Crossing, Life, false≢true, AreToward, contains_head, contains_tail, Host, is_host, beside_among, is_among, lives_among, IsWellFormed}
use Rattle.std.proofs.Common.{◌≡◌, ℕ, ◌+◌, ◌<◌, ◌++◌, Bool, true, false, List, [], ◌∷◌, map, refl, sym, ap, ap₂, subst, ◌∙◌, arith, if◌then◌else◌, length, zero, suc, Some, None, ◌-◌, ◌≤◌, drop, get_or, inl, inr, append-nil}
use Rattle.std.proofs.lemmas.List.{append_assoc, drop_all, drop_more}
use Rattle.std.proofs.lemmas.Option.{none-some, same_Some}
use Rattle.book_judge.proofs.lemmas.{contains_cases}
use Rattle.command_line.specs.Audits.{first_counts, kept_by, passed_one, place_in}

-- of each life whether it is among hosts with programs
abbrev pub among_these : (Host → Bool) → List Life → List Bool
among_these strange lives = map (λ x. is_among strange x) lives

-- ---- those that count

pub counted_lives : (strange : Host → Bool) (lives : List Life)
    → kept_by (among_these strange lives) lives ≡ lives_among strange lives
counted_lives strange [] = refl
counted_lives strange (x ∷ lives) = by (is_among strange x) refl (counted_lives strange lives)
  where
    by : (t : Bool) → is_among strange x ≡ t → kept_by (among_these strange lives) lives ≡ lives_among strange lives
        → kept_by (among_these strange (x ∷ lives)) (x ∷ lives) ≡ lives_among strange (x ∷ lives)
    by true e rest = rw e (ap (λ (ys : List Life). x ∷ ys) rest)
    by false e rest = rw e rest

pub counted_beside : {A : Type 0} (strange : Host → Bool) (lives : List Life) (others : List A)
    → kept_by (among_these strange lives) others ≡ beside_among strange lives others
counted_beside strange [] others = refl
counted_beside strange (x ∷ lives) [] = refl
counted_beside {A} strange (x ∷ lives) (a ∷ others) = by (is_among strange x) refl (counted_beside strange lives others)
  where
    by : (t : Bool) → is_among strange x ≡ t
        → kept_by (among_these strange lives) others ≡ beside_among strange lives others
        → kept_by (among_these strange (x ∷ lives)) (a ∷ others) ≡ beside_among strange (x ∷ lives) (a ∷ others)
    by true e rest = rw e (ap (λ (ys : List A). a ∷ ys) rest)
    by false e rest = rw e rest

-- one item after the other
keeps_next : {A : Type 0} (counted : List Bool) (x : A) (xs : List A) → kept_by counted (x ∷ xs) ≡ (if first_counts counted then x ∷ kept_by (drop 1 counted) xs else kept_by (drop 1 counted) xs)
keeps_next [] x xs = refl
keeps_next (true ∷ counted) x xs = refl
keeps_next (false ∷ counted) x xs = refl

keeps_by : {A : Type 0} (t : Bool) (kept more : List A) (x : A)
    → (if t then kept ++ x ∷ [] else kept) ++ more ≡ kept ++ (if t then x ∷ more else more)
keeps_by true kept more x = append_assoc kept (x ∷ []) more
keeps_by false kept more x = refl

pub keeps_one : {A : Type 0} (counted left rest : List Bool) (all kept now items more : List A) (x : A) (counts : Bool)
    → kept ++ kept_by left items ≡ kept_by counted all → items ≡ x ∷ more
    → counts ≡ first_counts left → rest ≡ drop 1 left → now ≡ (if counts then kept ++ x ∷ [] else kept)
    → now ++ kept_by rest more ≡ kept_by counted all
keeps_one {A} counted left rest all kept now items more x counts before is p q e =
    ap₂ (λ (ys : List A) (bs : List Bool). ys ++ kept_by bs more)
    (e ∙ ap (λ (t : Bool). if t then kept ++ x ∷ [] else kept) p) q
    ∙ keeps_by (first_counts left) kept (kept_by (drop 1 left) more) x
    ∙ ap (λ (ys : List A). kept ++ ys) (sym (keeps_next left x more) ∙ ap (λ (ys : List A). kept_by left ys) (sym is))
    ∙ before

none_kept : {A : Type 0} (counted : List Bool) → kept_by {A = A} counted [] ≡ []
none_kept [] = refl
none_kept (true ∷ counted) = refl
none_kept (false ∷ counted) = refl

pub keeps_last : {A : Type 0} (counted left : List Bool) (all kept items : List A)
    → kept ++ kept_by left items ≡ kept_by counted all → length items ≡ 0 → kept ≡ kept_by counted all
keeps_last {A} counted left all kept [] before none =
    sym (append-nil kept) ∙ ap (λ (ys : List A). kept ++ ys) (sym (none_kept left)) ∙ before
keeps_last counted left all kept (x ∷ items) before none = absurd (omega (arith, none))

-- ---- the places of those that count

pub pass_some : (counts : Bool) (left : ℕ) → counts ≡ false → Some left ≡ passed_one counts left
pass_some true left e = absurd (false≢true (sym e))
pass_some false left e = refl

pub pass_none : (counts : Bool) (left : ℕ) → counts ≡ true → left ≡ 0 → None ≡ passed_one counts left
pass_none true zero p q = refl
pass_none true (suc left) p q = absurd (omega (arith, q))
pass_none false left p q = absurd (false≢true p)

pub pass_less : (counts : Bool) (left : ℕ) → counts ≡ true → (left ≡ 0 → ⊥) → Some (left - 1) ≡ passed_one counts left
pass_less true zero p q = absurd (q refl)
pass_less true (suc left) p q = ap (λ (n : ℕ). Some n) (omega arith)
pass_less false left p q = absurd (false≢true p)

one_on : (t : Bool) (bs : List Bool) (left next : ℕ) → Some next ≡ passed_one t left
    → place_in (t ∷ bs) left ≡ suc (place_in bs next)
one_on false bs left next e = ap (λ (n : ℕ). suc (place_in bs n)) (sym (same_Some next left e))
one_on true bs zero next e = absurd (none-some next (sym e))
one_on true bs (suc left) next e = ap (λ (n : ℕ). suc (place_in bs n)) (sym (same_Some next left e))

one_found : (t : Bool) (bs : List Bool) (left : ℕ) → None ≡ passed_one t left → place_in (t ∷ bs) left ≡ 0
one_found false bs left e = absurd (none-some left e)
one_found true bs zero e = refl
one_found true bs (suc left) e = absurd (none-some left e)

pub place_found : (counted : List Bool) (place at left : ℕ) (d : Bool) → at < length counted
    → None ≡ passed_one (get_or counted at d) left
    → place_in counted place ≡ at + place_in (drop at counted) left → at ≡ place_in counted place
place_found counted place at left d lt none before =
    let found : place_in (drop at counted) left ≡ 0 =
    ap (λ (bs : List Bool). place_in bs left) (drop_more counted at d lt)
    ∙ one_found (get_or counted at d) (drop (at + 1) counted) left none in
    omega (arith, before, found)

pub place_on : (counted : List Bool) (place at left next : ℕ) (d : Bool) → at < length counted
    → Some next ≡ passed_one (get_or counted at d) left
    → place_in counted place ≡ at + place_in (drop at counted) left
    → place_in counted place ≡ (at + 1) + place_in (drop (at + 1) counted) next
place_on counted place at left next d lt some before =
    let on : place_in (drop at counted) left ≡ suc (place_in (drop (at + 1) counted) next) =
    ap (λ (bs : List Bool). place_in bs left) (drop_more counted at d lt)
    ∙ one_on (get_or counted at d) (drop (at + 1) counted) left next some in
    omega (arith, before, on)

pub place_past : (counted : List Bool) (place at left : ℕ) → length counted ≤ at → at ≤ length counted
    → place_in counted place ≡ at + place_in (drop at counted) left
    → length counted + left ≡ place_in counted place
place_past counted place at left high low before =
    let none : drop at counted ≡ [] = drop_all at counted high in
    let rest : place_in (drop at counted) left ≡ left = ap (λ (bs : List Bool). place_in bs left) none in
    omega (arith, high, low, before, rest)

pub place_small : (counted : List Bool) (place : ℕ) → place_in counted place ≤ length counted + place
place_small [] n = omega arith
place_small (false ∷ counted) n =
    let rest : place_in counted n ≤ length counted + n = place_small counted n in omega (arith, rest)
place_small (true ∷ counted) zero = omega arith
place_small (true ∷ counted) (suc n) =
    let rest : place_in counted n ≤ length counted + n = place_small counted n in omega (arith, rest)

-- ---- a well-formed book is so among hosts with programs

same_count : {A : Type 0} (strange : Host → Bool) (lives : List Life) (others : List A) → length lives ≡ length others
    → length (lives_among strange lives) ≡ length (beside_among strange lives others)
same_count strange [] [] e = refl
same_count strange [] (a ∷ others) e = absurd (omega (arith, e))
same_count strange (x ∷ lives) [] e = absurd (omega (arith, e))
same_count strange (x ∷ lives) (a ∷ others) e =
    by (is_among strange x) refl (same_count strange lives others (omega (arith, e)))
  where
    by : (t : Bool) → is_among strange x ≡ t
        → length (lives_among strange lives) ≡ length (beside_among strange lives others)
        → length (lives_among strange (x ∷ lives)) ≡ length (beside_among strange (x ∷ lives) (a ∷ others))
    by true is rest = rw is (ap suc rest)
    by false is rest = rw is rest

pub is_one_of : (strange : Host → Bool) (lives : List Life) (y : Life) → Contains (lives_among strange lives) y
    → Contains lives y
is_one_of strange [] y c = c
is_one_of strange (x ∷ lives) y c = by (is_among strange x) refl (is_one_of strange lives y)
  where
    by : (t : Bool) → is_among strange x ≡ t → (Contains (lives_among strange lives) y → Contains lives y)
        → Contains (x ∷ lives) y
    by true e rest = elim (contains_cases x (lives_among strange lives) y (rw e at c)) [
      | inl same ↦ subst (λ (z : Life). Contains (x ∷ lives) z) same (contains_head x lives)
      | inr there ↦ contains_tail x lives y (rest there)
    ]
    by false e rest = contains_tail x lives y (rest (rw e at c))

pub formed_among : (strange : Host → Bool) (log : List Crossing) (lives : List Life) (handed : List (List Bool))
    → IsWellFormed log lives handed
    → IsWellFormed log (lives_among strange lives) (beside_among strange lives handed)
formed_among strange log lives handed w = record {
  counts = same_count strange lives handed w.counts;
  stamped = λ x c. w.stamped x (is_one_of strange lives x c);
}

-- ---- no strangers

pub all_lives : (lives : List Life) → lives_among (λ h. is_host [] h) lives ≡ lives
all_lives [] = refl
all_lives (x ∷ lives) = ap (λ (ys : List Life). x ∷ ys) (all_lives lives)

pub all_beside : {A : Type 0} (lives : List Life) (others : List A)
    → beside_among (λ h. is_host [] h) lives others ≡ others
all_beside [] others = refl
all_beside (x ∷ lives) [] = refl
all_beside {A} (x ∷ lives) (a ∷ others) = ap (λ (ys : List A). a ∷ ys) (all_beside lives others)

pub all_places : (lives : List Life) (n : ℕ) → place_in (among_these (λ h. is_host [] h) lives) n ≡ n
all_places [] n = refl
all_places (x ∷ lives) zero = refl
all_places (x ∷ lives) (suc n) = ap suc (all_places lives n)

pub none_toward : (lives : List Life) (handed : List (List Bool)) → AreToward (λ h. is_host [] h) lives handed
none_toward [] handed = tt
none_toward (x ∷ lives) [] = tt
none_toward (x ∷ lives) (text ∷ handed) =
    (record { owner = refl; taken = λ e. absurd (false≢true e); handed = λ e. absurd (false≢true e) }, none_toward lives handed)
