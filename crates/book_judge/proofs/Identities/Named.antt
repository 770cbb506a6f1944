-- What requests name, and the messages in which they crossed.
use Rattle.book_judge.proofs.Common.{eqb-true, drop_all, length-drop, length-reverse, reverse-append, reverse-reverse, orders_within, same_flow, Flow, Crossing, same_flow-refl, control_flow, Host}
use Rattle.std.proofs.Common.{◌≡◌, ◌⊎◌, inl, inr, ℕ, zero, suc, ◌+◌, ◌-◌, ◌<◌, ◌≤◌, ◌==◌, Bool, true, false, if◌then◌else◌, List, [], ◌∷◌, ◌++◌, length, drop, reverse, Option, Some, None, is_some, refl, ap, sym, subst, ◌∙◌, arith, eq-eqb}
use Rattle.std.specs.List.{Contains, slice_get, slice_index_or}
use Rattle.promise.specs.Formed.{CrossedAt, named_at, named_in, named_of, text_of}
use Rattle.std.specs.Option.{option_or}

-- ---- elements

cases_at : {X : Type 0} (y : X) (xs : List X) (x : X) (k : ℕ) → k < length (y ∷ xs) → slice_index_or (y ∷ xs) k x ≡ x
    → (y ≡ x) ⊎ Contains xs x
cases_at y xs x zero h e = inl e
cases_at y xs x (suc k) h e = inr (k, omega arith, e)

pub contains_cases : {X : Type 0} (y : X) (xs : List X) (x : X) → Contains (y ∷ xs) x → (y ≡ x) ⊎ Contains xs x
contains_cases y xs x (k, h, e) = cases_at y xs x k h e

-- ---- reading them

-- what is still to be read names the same
pub record IsNamed (own foreign : ℕ) (octets : List ℕ) (whole : Option ℕ) : Type 0 where
  pub most : ℕ
  pub enough : length octets ≤ most
  pub same : named_in own foreign (orders_within most octets) ≡ whole

-- one command more, which names nothing
pub named_next : (own foreign : ℕ) (octets rest : List ℕ) (whole named : Option ℕ) (read : ℕ)
    → IsNamed own foreign octets whole → 0 < length octets → 0 < read → read ≤ length octets → rest ≡ drop read octets
    → named ≡ None
    → ((n : ℕ) → named_in own foreign (orders_within (1 + n) octets) ≡ option_or named (named_in own foreign (orders_within n (drop read octets))))
    → IsNamed own foreign rest whole
named_next own foreign octets rest whole named read is some reads there e none names = by is.most refl where
  by : (most : ℕ) → is.most ≡ most → IsNamed own foreign rest whole
  by zero m = absurd (let enough : length octets ≤ is.most = is.enough in omega (arith, enough, some, m))
  by (suc n) m =
      let one : is.most ≡ 1 + n = omega (arith, m) in
      let all : named_in own foreign (orders_within n (drop read octets)) ≡ whole =
      ap (λ (o : Option ℕ). option_or o (named_in own foreign (orders_within n (drop read octets)))) (sym none) ∙ sym (names n) ∙ ap (λ (k : ℕ). named_in own foreign (orders_within k octets)) (sym one) ∙ is.same in
      record {
        most = n;
        enough = (let enough : length octets ≤ is.most = is.enough in let short : length rest ≡ length octets - read = ap length e ∙ length-drop read octets in omega (arith, short, enough, reads, there, m));
        same = ap (λ (os : List ℕ). named_in own foreign (orders_within n os)) e ∙ all;
      }

-- and one that names something
pub named_here : (own foreign : ℕ) (octets : List ℕ) (whole named : Option ℕ) (read : ℕ)
    → IsNamed own foreign octets whole → 0 < length octets → is_some named ≡ true
    → ((n : ℕ) → named_in own foreign (orders_within (1 + n) octets) ≡ option_or named (named_in own foreign (orders_within n (drop read octets))))
    → named ≡ whole
named_here own foreign octets whole named read is some there names = by is.most refl where
  first : (o p : Option ℕ) → is_some o ≡ true → o ≡ option_or o p
  first None p e = absurd (let both : false ≡ true = e in cc)
  first (Some k) p e = refl

  by : (most : ℕ) → is.most ≡ most → named ≡ whole
  by zero m = absurd (let enough : length octets ≤ is.most = is.enough in omega (arith, enough, some, m))
  by (suc n) m =
      let one : is.most ≡ 1 + n = omega (arith, m) in
      first named (named_in own foreign (orders_within n (drop read octets))) there ∙ sym (names n) ∙ ap (λ (k : ℕ). named_in own foreign (orders_within k octets)) (sym one) ∙ is.same

pub none_within : (most : ℕ) → orders_within most [] ≡ []
none_within zero = refl
none_within (suc most) = refl

pub orders_of_none : (more : ℕ) (octets : List ℕ) → orders_within more (drop (length octets) octets) ≡ []
orders_of_none more octets =
    ap (λ (os : List ℕ). orders_within more os) (drop_all (length octets) octets (omega arith)) ∙ none_within more

-- ---- what crossed at a place

pub get_seam : {X : Type 0} (xs : List X) (y : X) → slice_get (xs ++ y ∷ []) (length xs) ≡ Some y
get_seam [] y = refl
get_seam (x ∷ xs) y = get_seam xs y

pub get_front : {X : Type 0} (xs : List X) (y z : X) (place : ℕ) → slice_get xs place ≡ Some z
    → slice_get (xs ++ y ∷ []) place ≡ Some z
get_front [] y z place e = absurd (cc)
get_front (x ∷ xs) y z zero e = e
get_front (x ∷ xs) y z (suc place) e = get_front xs y z place e

pub get_cases : {X : Type 0} (xs : List X) (y z : X) (place : ℕ) → slice_get (xs ++ y ∷ []) place ≡ Some z
    → ((z ≡ y) × (place ≡ length xs)) ⊎ (slice_get xs place ≡ Some z)
get_cases [] y z zero e = inl ((let s : y ≡ z = cc in sym s), refl)
get_cases [] y z (suc place) e = absurd (cc)
get_cases (x ∷ xs) y z zero e = inr e
get_cases (x ∷ xs) y z (suc place) e = elim (get_cases xs y z place e) [
  | inl s ↦ inl (s.0, ap (λ (n : ℕ). suc n) s.1)
  | inr r ↦ inr r
]

-- what was there before is found as before
get_before : {X : Type 0} (xs : List X) (y : X) (place : ℕ) → (place ≡ length xs → ⊥)
    → slice_get (xs ++ y ∷ []) place ≡ slice_get xs place
get_before [] y zero other = absurd (other refl)
get_before [] y (suc place) other = refl
get_before (x ∷ xs) y zero other = refl
get_before (x ∷ xs) y (suc place) other = get_before xs y place (λ e. other (ap (λ (n : ℕ). suc n) e))

one_more : {X : Type 0} (x : X) (xs : List X) → reverse (x ∷ xs) ≡ reverse xs ++ x ∷ []
one_more x xs = reverse-append (x ∷ []) xs

-- of crossings, the newest first
crossed_in : (log : List Crossing) (place : ℕ) (c : Crossing) → slice_get (reverse log) place ≡ Some c
    → CrossedAt place c log
crossed_in [] place c e = absurd (cc)
crossed_in (d ∷ log) place c e =
    let P : List Crossing → Type 0 = λ zs. slice_get zs place ≡ Some c in
    elim (get_cases (reverse log) d c place (subst P (one_more d log) e)) [
      | inl s ↦ inl (s.0, s.1 ∙ length-reverse log)
      | inr r ↦ inr (crossed_in log place c r)
    ]

got_in : (log : List Crossing) (place : ℕ) (c : Crossing) → CrossedAt place c log
    → slice_get (reverse log) place ≡ Some c
got_in [] place c h = absurd h
got_in (d ∷ log) place c (inl s) =
    let P : List Crossing → Type 0 = λ zs. slice_get zs place ≡ Some c in
    let at : place ≡ length (reverse log) = s.1 ∙ sym (length-reverse log) in
    let seam : slice_get (reverse log ++ d ∷ []) place ≡ Some d =
    ap (λ (n : ℕ). slice_get (reverse log ++ d ∷ []) n) at ∙ get_seam (reverse log) d in
    subst P (sym (one_more d log)) (seam ∙ ap (λ (x : Crossing). Some x) (sym s.0))
got_in (d ∷ log) place c (inr h) =
    let P : List Crossing → Type 0 = λ zs. slice_get zs place ≡ Some c in
    subst P (sym (one_more d log)) (get_front (reverse log) d c place (got_in log place c h))

-- of a log, the oldest first
pub crossed_there : (log : List Crossing) (place : ℕ) (c : Crossing) → slice_get log place ≡ Some c
    → CrossedAt place c (reverse log)
crossed_there log place c e =
    crossed_in (reverse log) place c (ap (λ (zs : List Crossing). slice_get zs place) (reverse-reverse log) ∙ e)

pub got_there : (log : List Crossing) (place : ℕ) (c : Crossing) → CrossedAt place c (reverse log)
    → slice_get log place ≡ Some c
got_there log place c h = ap (λ (zs : List Crossing). slice_get zs place) (sym (reverse-reverse log))
    ∙ got_in (reverse log) place c h

-- ---- flows

pub same_flow_is : (f g : Flow) → g ≡ f → same_flow f g ≡ true
same_flow_is f g e = let P : Flow → Type 0 = λ x. same_flow f x ≡ true in subst P (sym e) (same_flow-refl f)

-- ---- what is named at a place

-- the texts of what crossed at a place
abbrev pub texts_at : Bool → Flow → Option Crossing → List (List Bool)
texts_at comes f None = []
texts_at comes f (Some c) = text_of comes f c

-- of crossings, the newest first
named_by : (comes : Bool) (from to : Host) (own foreign place : ℕ) (log : List Crossing) (o : Option Crossing)
    → slice_get (reverse log) place ≡ o
    → named_at comes from to own foreign place log ≡ named_of own foreign (texts_at comes (control_flow from to) o)
named_by comes from to own foreign place [] o e = ap (λ (p : Option Crossing). named_of own foreign (texts_at comes (control_flow from to) p)) e
named_by comes from to own foreign place (c ∷ log) o e = by (place == length log) refl (named_by comes from to own foreign place log (slice_get (reverse log) place) refl) where
  at : slice_get (reverse log ++ c ∷ []) place ≡ o
  at = ap (λ (zs : List Crossing). slice_get zs place) (sym (one_more c log)) ∙ e

  by : (v : Bool) → (place == length log) ≡ v
      → named_at comes from to own foreign place log ≡ named_of own foreign (texts_at comes (control_flow from to) (slice_get (reverse log) place))
      → (if v then named_of own foreign (text_of comes (control_flow from to) c) else named_at comes from to own foreign place log) ≡ named_of own foreign (texts_at comes (control_flow from to) o)
  by true s rest =
      let here : place ≡ length (reverse log) = eqb-true place (length log) s ∙ sym (length-reverse log) in
      ap (λ (p : Option Crossing). named_of own foreign (texts_at comes (control_flow from to) p)) (sym (ap (λ (n : ℕ). slice_get (reverse log ++ c ∷ []) n) here ∙ get_seam (reverse log) c) ∙ at)
  by false s rest = rest ∙ ap (λ (p : Option Crossing). named_of own foreign (texts_at comes (control_flow from to) p)) (sym (get_before (reverse log) c place other) ∙ at) where
    other : place ≡ length (reverse log) → ⊥
    other same = let both : true ≡ false = sym (eq-eqb place (length log) (same ∙ length-reverse log)) ∙ s in cc

-- of a log, the oldest first
pub named_there : (comes : Bool) (from to : Host) (own foreign place : ℕ) (log : List Crossing)
    → named_at comes from to own foreign place (reverse log) ≡ named_of own foreign (texts_at comes (control_flow from to) (slice_get log place))
named_there comes from to own foreign place log =
    named_by comes from to own foreign place (reverse log) (slice_get log place) (ap (λ (zs : List Crossing). slice_get zs place) (reverse-reverse log))

pub none_named : (o : Option ℕ) → false ≡ is_some o → o ≡ None
none_named None e = refl
none_named (Some n) e = absurd (let both : false ≡ true = e in cc)
