-- The texts of what is at a host are put in the place of those before them.
use Rattle.std.proofs.Common.{◌≡◌, ℕ, ◌+◌, ◌<◌, ◌≤◌, Bool, List, [], ◌∷◌, drop, get_or, length, map, refl, ap, sym, subst, ◌∙◌}
use Rattle.std.proofs.lemmas.List.{drop_all, drop_more}
use Rattle.trace.specs.Changes.{put_at, put_text}
use Rattle.trace.proofs.lemmas.{AllPut, PutSoFar, all_put, is_within, none_put, put_more}
use Rattle.world_trace.specs.Steps.{AreOthers}

-- as many are put there as come before this place, and the others are as before
pub record ChangedSoFar {T : Type 0} (may : T → Bool) (text : T → List ℕ) (before : List (List ℕ)) (items : List T) (place : ℕ) (known : List (List ℕ)) (object : List ℕ) : Type 0 where
  pub olds : List (List ℕ)
  pub others : AreOthers may text olds (drop place items)
  pub put : PutSoFar before (map text items) place known object olds (map text (drop place items))

module _ {T : Type 0} (may : T → Bool) (text : T → List ℕ) (before : List (List ℕ)) (items : List T) where
  pub none_changed_yet : (object : List ℕ) → object ≡ [] → AreOthers may text before items → ChangedSoFar may text before items 0 before object
  none_changed_yet object empty others = record { olds = before; others = others; put = subst (λ (t : List ℕ). PutSoFar before (map text items) 0 before t before (map text items)) (sym empty) (none_put before (map text items)) }

  within_by : (place : ℕ) (known : List (List ℕ)) (object : List ℕ) (x : T) (later : List T) (olds : List (List ℕ)) → AreOthers may text olds (x ∷ later) → PutSoFar before (map text items) place known object olds (map text (x ∷ later)) → place < length known
  within_by place known object x later [] others put = absurd others
  within_by place known object x later (t ∷ olds) others put = is_within before (map text items) place known object olds (map text (x ∷ later)) t put

  here : (place : ℕ) (x : T) → place < length items → x ≡ get_or items place x → drop place items ≡ x ∷ drop (place + 1) items
  here place x lt is = drop_more items place x lt ∙ ap (λ (y : T). y ∷ drop (place + 1) items) (sym is)

  pub within : (place : ℕ) (known : List (List ℕ)) (object : List ℕ) (x : T) → place < length items → x ≡ get_or items place x → ChangedSoFar may text before items place known object → place < length known
  within place known object x lt is h =
      let left : drop place items ≡ x ∷ drop (place + 1) items = here place x lt is in
      within_by place known object x (drop (place + 1) items) h.olds (subst (λ (xs : List T). AreOthers may text h.olds xs) left h.others)
      (subst (λ (xs : List T). PutSoFar before (map text items) place known object h.olds (map text xs)) left h.put)

  next_by : (place : ℕ) (known new : List (List ℕ)) (object longer : List ℕ) (x : T) (later : List T) (olds : List (List ℕ)) → later ≡ drop (place + 1) items → new ≡ put_at (may x) known place (text x) → longer ≡ put_text (may x) known place (text x) object
      → AreOthers may text olds (x ∷ later) → PutSoFar before (map text items) place known object olds (map text (x ∷ later)) → ChangedSoFar may text before items (place + 1) new longer
  next_by place known new object longer x later [] is added said others put = absurd others
  next_by place known new object longer x later (t ∷ olds) is added said others put = record {
    olds = olds;
    others = subst (λ (xs : List T). AreOthers may text olds xs) is others.1;
    put = subst (λ (xs : List T). PutSoFar before (map text items) (place + 1) new longer olds (map text xs)) is (put_more (may x) before (map text items) place known new object longer olds (map text later) t (text x) others.0 added said put);
  }

  pub next_changed : (place : ℕ) (known new : List (List ℕ)) (object longer : List ℕ) (x : T) → place < length items → x ≡ get_or items place x → new ≡ put_at (may x) known place (text x) → longer ≡ put_text (may x) known place (text x) object
      → ChangedSoFar may text before items place known object → ChangedSoFar may text before items (place + 1) new longer
  next_changed place known new object longer x lt is added said h =
      let left : drop place items ≡ x ∷ drop (place + 1) items = here place x lt is in
      next_by place known new object longer x (drop (place + 1) items) h.olds refl added said (subst (λ (xs : List T). AreOthers may text h.olds xs) left h.others)
      (subst (λ (xs : List T). PutSoFar before (map text items) place known object h.olds (map text xs)) left h.put)

  none_by : (olds : List (List ℕ)) → AreOthers may text olds [] → olds ≡ []
  none_by [] others = refl
  none_by (t ∷ olds) others = absurd others

  pub all_changed : (place : ℕ) (known : List (List ℕ)) (object : List ℕ) → length items ≤ place → ChangedSoFar may text before items place known object → AllPut before (map text items) known object
  all_changed place known object le h =
      let over : drop place items ≡ [] = drop_all place items le in
      all_put before (map text items) place known object h.olds (map text (drop place items)) (none_by h.olds (subst (λ (xs : List T). AreOthers may text h.olds xs) over h.others)) (ap (map text) over) h.put
