-- What was heard begins what was said: lists of texts only.
use Rattle.std.proofs.Common.{◌≡◌, ◌⊎◌, Bool, true, false, List, [], ◌++◌, refl, ap, sym, subst, ◌∙◌, inl, inr, if◌then◌else◌, append_assoc, append-nil}
use Rattle.reset_law.specs.Stays.{IsPrefix}

-- what was heard, and what waits, begins what was said; it is all of it where `all` holds
pub record Tells (all : Bool) (xs ys : List (List Bool)) : Type 0 where
  pub front : IsPrefix xs ys
  pub whole : all ≡ true → xs ≡ ys

pub tells_as : (all : Bool) (xs xs' ys ys' : List (List Bool)) → xs' ≡ xs → ys' ≡ ys → Tells all xs ys → Tells all xs' ys'
tells_as all xs xs' ys ys' e f h =
    let first : Tells all xs ys' = subst (λ (z : List (List Bool)). Tells all xs z) (sym f) h in
    subst (λ (z : List (List Bool)). Tells all z ys') (sym e) first

pub tells_all : (all : Bool) (xs ys : List (List Bool)) → xs ≡ ys → Tells all xs ys
tells_all all xs ys e = record { front = ([], append-nil xs ∙ e); whole = λ t. e }

front_shorter : (xs w ys : List (List Bool)) → IsPrefix (xs ++ w) ys → IsPrefix xs ys
front_shorter xs w ys f = (w ++ f.0, sym (append_assoc xs w f.0) ∙ f.1)

pub front_longer : (xs ys z : List (List Bool)) → IsPrefix xs ys → IsPrefix xs (ys ++ z)
front_longer xs ys z f = (f.0 ++ z, sym (append_assoc xs f.0 z) ∙ ap (λ (v : List (List Bool)). v ++ z) f.1)

if_nothing : (t : Bool) (z ys : List (List Bool)) → z ≡ [] → ys ++ (if t then z else []) ≡ ys
if_nothing true z ys e = ap (λ (v : List (List Bool)). ys ++ v) e ∙ append-nil ys
if_nothing false z ys e = append-nil ys

more_nothing : (xs z w : List (List Bool)) → z ≡ [] → (xs ++ z) ++ w ≡ xs ++ w
more_nothing xs z w e = ap (λ (v : List (List Bool)). (xs ++ v) ++ w) e ∙ ap (λ (v : List (List Bool)). v ++ w) (append-nil xs)

-- nothing is said or heard: what waits stays, or is lost where the hosts are no longer together or nothing waited
pub tells_quiet : (all all' t : Bool) (xs w w' ys more said : List (List Bool)) → more ≡ [] → said ≡ [] → (all' ≡ true → all ≡ true) → (w' ≡ w) ⊎ ((w' ≡ []) × (all' ≡ true → w ≡ []))
    → Tells all (xs ++ w) ys → Tells all' ((xs ++ more) ++ w') (ys ++ (if t then said else []))
tells_quiet all all' t xs w w' ys more said none silent before waits h =
    tells_as all' _ _ ys _ (more_nothing xs more w' none) (if_nothing t said ys silent) (by waits)
  where
    by : (w' ≡ w) ⊎ ((w' ≡ []) × (all' ≡ true → w ≡ [])) → Tells all' (xs ++ w') ys
    by (inl same) = tells_as all' (xs ++ w) _ ys ys (ap (λ (v : List (List Bool)). xs ++ v) same) refl (record { front = h.front; whole = λ e. h.whole (before e) })
    by (inr lost) = record {
      front = subst (λ (v : List (List Bool)). IsPrefix v ys) (sym (ap (λ (v : List (List Bool)). xs ++ v) lost.0 ∙ append-nil xs)) (front_shorter xs w ys h.front);
      whole = λ e. (ap (λ (v : List (List Bool)). xs ++ v) (lost.0 ∙ sym (lost.1 e)) ∙ h.whole (before e));
    }

-- what waits is heard
pub tells_heard : (all all' t : Bool) (xs w w' ys more said text : List (List Bool)) → more ≡ text → w ≡ text → w' ≡ [] → said ≡ [] → (all' ≡ true → all ≡ true)
    → Tells all (xs ++ w) ys → Tells all' ((xs ++ more) ++ w') (ys ++ (if t then said else []))
tells_heard all all' t xs w w' ys more said text heard waits gone silent before h =
    tells_as all' _ _ ys _
    (ap (λ (v : List (List Bool)). (xs ++ more) ++ v) gone ∙ append-nil (xs ++ more) ∙ ap (λ (v : List (List Bool)). xs ++ v) (heard ∙ sym waits)) (if_nothing t said ys silent)
    (record { front = h.front; whole = λ e. h.whole (before e) })

-- what is said waits, where nothing did and all was heard
pub tells_said : (all all' t : Bool) (xs w w' ys more said text : List (List Bool)) → more ≡ [] → said ≡ text → w ≡ [] → w' ≡ text → t ≡ true → all ≡ true
    → Tells all (xs ++ w) ys → Tells all' ((xs ++ more) ++ w') (ys ++ (if t then said else []))
tells_said all all' t xs w w' ys more said text none says empty waits grows together h =
    let old : xs ≡ ys = sym (append-nil xs) ∙ ap (λ (v : List (List Bool)). xs ++ v) (sym empty) ∙ h.whole together in
    let left : (xs ++ more) ++ w' ≡ ys ++ text = more_nothing xs more w' none ∙ ap (λ (v : List (List Bool)). xs ++ v) waits ∙ ap (λ (v : List (List Bool)). v ++ text) old in
    let right : ys ++ (if t then said else []) ≡ ys ++ text = ap (λ (b : Bool). ys ++ (if b then said else [])) grows ∙ ap (λ (v : List (List Bool)). ys ++ v) says in
    tells_all all' _ _ (left ∙ sym right)
