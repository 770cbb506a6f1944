-- Members are put in the place of those before them, one after the other, and those that have changed into an object.
use Rattle.trace.proofs.Common.{◌≡◌, ℕ, zero, suc, ◌<◌, ◌≤◌, ◌+◌, ◌-◌, Bool, true, false, not, nat_eq, List, [], ◌∷◌, ◌++◌, drop, length, slice_set, take, arith, refl, sym, ap, ◌∙◌, bytes_decides, pointwise, changed, is_at, put_at, put_text}
use Rattle.std.proofs.lemmas.List.{append_assoc, append-nil, length-append, take_all}
use Rattle.std.proofs.Math.Seq.{drop-append_seam}
use Rattle.trace.specs.Joined.{extended, part_behind}
use Rattle.trace.proofs.Changes.Changing.{first, unless}

-- as many members as this place are put there, and those of them that have changed are in this object; these are left
pub record PutSoFar (before now : List (List ℕ)) (place : ℕ) (known : List (List ℕ)) (text : List ℕ)
    (olds news : List (List ℕ)) : Type 0 where
  pub front : List (List ℕ)
  pub count : place ≡ length front
  pub there : known ≡ front ++ olds
  pub all : now ≡ front ++ news
  pub written : extended text (changed olds news) ≡ extended [] (changed before now)

pub none_put : (before now : List (List ℕ)) → PutSoFar before now 0 before [] before now
none_put before now = record { front = []; count = refl; there = refl; all = refl; written = refl }

-- ---- one more

at_front : (front olds : List (List ℕ)) (x y : List ℕ)
    → is_at (front ++ x ∷ olds) (length front) y ≡ pointwise nat_eq x y
at_front [] olds x y = refl
at_front (z ∷ front) olds x y = at_front front olds x y

set_front : (front olds : List (List ℕ)) (x y : List ℕ)
    → slice_set (front ++ x ∷ olds) (length front) y ≡ front ++ y ∷ olds
set_front [] olds x y = refl
set_front (z ∷ front) olds x y = ap (λ (zs : List (List ℕ)). z ∷ zs) (set_front front olds x y)

-- what comes after the beginning of a text
pub after_front : (all front back : List ℕ) (n : ℕ) → all ≡ front ++ back → n ≡ length front
    → take (length all - n) (drop n all) ≡ back
after_front all front back n are count =
    let rest : drop n all ≡ back = ap (drop n) are ∙ ap (λ (k : ℕ). drop k (front ++ back)) count
    ∙ drop-append_seam front back in
    let long : length all ≡ length front + length back = ap length are ∙ length-append front back in
    let less : length (drop n all) ≡ length back = ap length rest in
    let fits : length (drop n all) ≤ length all - n = omega (arith, long, less, count) in
    take_all (length all - n) (drop n all) fits ∙ rest

-- a member that is as it was leaves all as they were
pub as_was : (ms : List (List ℕ)) (i : ℕ) (x : List ℕ) → is_at ms i x ≡ true → slice_set ms i x ≡ ms
as_was [] i x e = refl
as_was (m ∷ ms) zero x e = ap (λ (y : List ℕ). y ∷ ms) (sym ((bytes_decides m x).0 e))
as_was (m ∷ ms) (suc i) x e = ap (λ (ys : List (List ℕ)). m ∷ ys) (as_was ms i x e)

-- the text of an object with one member more, unless it is as it was
text_more : (same : Bool) (text y : List ℕ) (ys : List (List ℕ))
    → extended (text ++ part_behind (not same) (length text) y) ys ≡ extended text (unless same y ++ ys)
text_more true text y ys = ap (λ (t : List ℕ). extended t ys) (append-nil text)
text_more false text y ys = refl

-- the next one is put in its place, or cannot have changed
pub put_more : (may : Bool) (before now : List (List ℕ)) (place : ℕ) (known later : List (List ℕ))
    (text longer : List ℕ) (olds news : List (List ℕ)) (x y : List ℕ)
    → (may ≡ false → y ≡ x) → later ≡ put_at may known place y → longer ≡ put_text may known place y text
    → PutSoFar before now place known text (x ∷ olds) (y ∷ news)
    → PutSoFar before now (place + 1) later longer olds news
put_more may before now place known later text longer olds news x y kept put added h = record {
  front = h.front ++ y ∷ [];
  count = ap (λ (n : ℕ). n + 1) h.count ∙ sym (length-append h.front (y ∷ []));
  there = put ∙ by may refl;
  all = h.all ∙ sym (append_assoc h.front (y ∷ []) news);
  written = ap (λ (t : List ℕ). extended t (changed olds news)) added ∙ also may refl ∙ h.written;
} where
  by : (b : Bool) → may ≡ b → put_at b known place y ≡ (h.front ++ y ∷ []) ++ olds
  by true e =
      ap (λ (ks : List (List ℕ)). slice_set ks place y) h.there
      ∙ ap (λ (n : ℕ). slice_set (h.front ++ x ∷ olds) n y) h.count ∙ set_front _ olds x y
      ∙ sym (append_assoc h.front (y ∷ []) olds)
  by false e = h.there ∙ ap (λ (z : List ℕ). h.front ++ z ∷ olds) (sym (kept e))
      ∙ sym (append_assoc h.front (y ∷ []) olds)

  also : (b : Bool) → may ≡ b
      → extended (put_text b known place y text) (changed olds news) ≡ extended text (changed (x ∷ olds) (y ∷ news))
  also true e =
      let test : is_at known place y ≡ pointwise nat_eq x y = ap (λ (ks : List (List ℕ)). is_at ks place y) h.there
      ∙ ap (λ (n : ℕ). is_at (h.front ++ x ∷ olds) n y) h.count ∙ at_front h.front olds x y in
      text_more _ text y (changed olds news)
      ∙ ap (λ (t : Bool). extended text (unless t y ++ changed olds news)) test
      ∙ ap (λ (ys : List (List ℕ)). extended text ys) (sym (first x y olds news))
  also false e =
      let same : pointwise nat_eq x y ≡ true = ap (pointwise nat_eq x) (kept e) ∙ (bytes_decides x x).1 refl in
      ap (λ (t : List ℕ). extended t (changed olds news)) (append-nil text)
      ∙ ap (λ (t : Bool). extended text (unless t y ++ changed olds news)) (sym same)
      ∙ ap (λ (ys : List (List ℕ)). extended text ys) (sym (first x y olds news))

-- all are
pub record AllPut (before now known : List (List ℕ)) (text : List ℕ) : Type 0 where
  pub all : known ≡ now
  pub written : text ≡ extended [] (changed before now)

pub all_put : (before now : List (List ℕ)) (place : ℕ) (known : List (List ℕ)) (text : List ℕ)
    (olds news : List (List ℕ)) → olds ≡ [] → news ≡ [] → PutSoFar before now place known text olds news
    → AllPut before now known text
all_put before now place known text olds news none over h =
    let ends : changed olds news ≡ [] = ap (λ (os : List (List ℕ)). changed os news) none
    ∙ ap (changed []) over in record {
      all = h.there ∙ ap (λ (os : List (List ℕ)). h.front ++ os) (none ∙ sym over) ∙ sym h.all;
      written = ap (λ (ys : List (List ℕ)). extended text ys) (sym ends) ∙ h.written;
    }

-- a member is there, where some are left
pub is_within : (before now : List (List ℕ)) (place : ℕ) (known : List (List ℕ)) (text : List ℕ)
    (olds news : List (List ℕ)) (x : List ℕ) → PutSoFar before now place known text (x ∷ olds) news
    → place < length known
is_within before now place known text olds news x h =
    let long : length known ≡ length h.front + suc (length olds) = ap length h.there
    ∙ length-append h.front (x ∷ olds) in
    omega (arith, h.count, long)
