-- The messages of a flow by their numbers, and the last that had gone out before a place.
use Rattle.book_judge.proofs.Common.{◌≡◌, ℕ, suc, ◌+◌, ◌-◌, ◌<◌, ◌≤◌, ◌&&◌, Bool, true, false, if◌then◌else◌, List, [], ◌∷◌, ◌++◌, length, take, drop, get_or, reverse, Option, Some, None, refl, ap, sym, ◌∙◌, append-nil, arith, inl, inr, cases_lt, false_from_ne_true, length-append, get_or_from_slice_get, slice_get_within, same_flow, Flow, Crossing, HostMessage, same_flow-true, texts_by, IsNth, before, last_out}
use Rattle.promise.specs.Formed.{text_of, texts_of}
use Rattle.std.specs.List.{slice_get}
use Rattle.std.specs.Prelude.{max, nat_lt}
use Rattle.interface.specs.declared.crossing.Crossing.TheVariants as crossing
use Rattle.book_judge.proofs.Elements.{read_at}
use Rattle.book_judge.proofs.Identities.Named.{same_flow_is}
use Rattle.book_judge.proofs.Crossed.Streamed.{place_more}
use Rattle.book_judge.proofs.Crossed.TextsBy.{both_below, one_above, texts_append, texts_less}

-- ---- numbers

-- with the crossing at a place
grown_by : (comes : Bool) (f : Flow) (log : List Crossing) (place : ℕ) (c : Crossing) → slice_get log place ≡ Some c
    → length (texts_by comes f (take (suc place) log))
    ≡ length (texts_by comes f (take place log)) + length (text_of comes f c)
grown_by comes f log place c e =
    let next : suc place ≡ place + 1 = omega arith in
    let more : take (suc place) log ≡ take place log ++ c ∷ [] =
    ap (λ (n : ℕ). take n log) next
    ∙ place_more log place c (slice_get_within log place c e) (sym (get_or_from_slice_get log place c c e)) in
    ap (λ (cs : List Crossing). length (texts_by comes f cs)) more
    ∙ ap (λ (us : List (List Bool)). length us)
    (texts_append comes f (take place log) (c ∷ [])
    ∙ ap (λ (us : List (List Bool)). texts_by comes f (take place log) ++ us) (append-nil (text_of comes f c)))
    ∙ length-append (texts_by comes f (take place log)) (text_of comes f c)

-- a message that has a number came in on its flow
pub nth_message : (f : Flow) (log : List Crossing) (n place : ℕ) → IsNth true f log n place
    → (m : HostMessage) × (slice_get log place ≡ Some (crossing.In m)) × (m.flow ≡ f)
nth_message f log n place is = by c.0 c.1 one where
  c : (c : Crossing) × (slice_get log place ≡ Some c) × (c ≡ get_or log place c)
  c = read_at log place is.0

  one : length (text_of true f c.0) ≡ 1
  one =
      let grown : length (texts_by true f (take (suc place) log))
      ≡ length (texts_by true f (take place log)) + length (text_of true f c.0) = grown_by true f log place c.0 c.1 in
      let here : length (texts_by true f (take place log)) ≡ n = is.1 in
      let next : length (texts_by true f (take (suc place) log)) ≡ suc n = is.2 in
      omega (arith, grown, here, next)

  on : (m : HostMessage) (v : Bool) → same_flow f m.flow ≡ v → length (if v then m.text ∷ [] else []) ≡ 1 → m.flow ≡ f
  on m true e long = sym (same_flow-true f m.flow e)
  on m false e long = absurd (let none : 0 ≡ 1 = long in omega (arith, none))

  by : (d : Crossing) → slice_get log place ≡ Some d → length (text_of true f d) ≡ 1
      → (m : HostMessage) × (slice_get log place ≡ Some (crossing.In m)) × (m.flow ≡ f)
  by (crossing.In m) e long = (m, e, on m (same_flow f m.flow) refl long)
  by (crossing.Out m) e long = absurd (let none : 0 ≡ 1 = long in omega (arith, none))
  by (crossing.Answer kind g) e long = absurd (let none : 0 ≡ 1 = long in omega (arith, none))
  by (crossing.Down h) e long = absurd (let none : 0 ≡ 1 = long in omega (arith, none))
  by (crossing.Up h) e long = absurd (let none : 0 ≡ 1 = long in omega (arith, none))

-- and one that came in has a number
pub message_nth : (f : Flow) (log : List Crossing) (place : ℕ) (m : HostMessage)
    → slice_get log place ≡ Some (crossing.In m) → m.flow ≡ f
    → IsNth true f log (length (texts_by true f (take place log))) place
message_nth f log place m e on =
    let one : length (text_of true f (crossing.In m)) ≡ 1 =
    ap (λ (b : Bool). length (if b then m.text ∷ [] else [])) (same_flow_is f m.flow on) in
    let grown : length (texts_by true f (take (suc place) log))
    ≡ length (texts_by true f (take place log)) + length (text_of true f (crossing.In m)) =
    grown_by true f log place (crossing.In m) e in
    (slice_get_within log place (crossing.In m) e, refl, omega (arith, one, grown))

-- one place has it
pub nth_once : (f : Flow) (log : List Crossing) (n p q : ℕ) → IsNth true f log n p → IsNth true f log n q → p ≡ q
nth_once f log n p q a b = elim (cases_lt p q) [
  | inl less ↦ absurd (clash p q a b less)
  | inr ge ↦ elim (cases_lt q p) [
    | inl less ↦ absurd (clash q p b a less)
    | inr le ↦ omega (arith, ge, le)
  ]
] where
  clash : (i j : ℕ) → IsNth true f log n i → IsNth true f log n j → i < j → ⊥
  clash i j c d less =
      let next : length (texts_by true f (take (suc i) log)) ≡ suc n = c.2 in
      let here : length (texts_by true f (take j log)) ≡ n = d.1 in
      let more : length (texts_by true f (take (suc i) log)) ≤ length (texts_by true f (take j log)) =
      texts_less true f (suc i) j log (omega (arith, less)) in
      omega (arith, next, here, more)

-- ---- what had gone out, the newest first

before_more : (log : List Crossing) (c : Crossing) (out : ℕ) → out ≤ length log → before out (c ∷ log) ≡ before out log
before_more log c out le =
    let e : length (c ∷ log) - out ≡ suc (length log - out) = omega (arith, le) in
    ap (λ (k : ℕ). drop k (c ∷ log)) e

-- of what went out on a flow after two places: as many as before the last, and that one, if it went out after them
abbrev pub LastBy : Flow → ℕ → ℕ → List Crossing → Option ℕ → Type 0
LastBy f a b log None = length (texts_of false f a b log) ≡ 0
LastBy f a b log (Some out) =
    (out < length log)
    × (length (texts_of false f a b log)
    ≡ (if nat_lt a out && nat_lt b out then suc (length (texts_of false f a b (before out log))) else 0))

module _ (f : Flow) (a b : ℕ) (log : List Crossing) where
  abbrev older : List (List Bool)
  older = texts_of false f a b log

  other_by : (c : Crossing) (o : Option ℕ) → text_of false f c ≡ [] → LastBy f a b log o → LastBy f a b (c ∷ log) o
  other_by c o none h = by o h where
    still : (t : Bool) → length (older ++ (if t then text_of false f c else [])) ≡ length older
    still true = ap (λ (us : List (List Bool)). length us)
        (ap (λ (us : List (List Bool)). older ++ us) none ∙ append-nil older)
    still false = ap (λ (us : List (List Bool)). length us) (append-nil older)

    by : (p : Option ℕ) → LastBy f a b log p → LastBy f a b (c ∷ log) p
    by None e = still (nat_lt a (length log) && nat_lt b (length log)) ∙ e
    by (Some out) e =
        let there : out < length log = e.0 in (
          omega (arith, there),
          still (nat_lt a (length log) && nat_lt b (length log)) ∙ e.1
              ∙ ap (λ (cs : List Crossing). if nat_lt a out && nat_lt b out then suc (length (texts_of false f a b cs)) else 0)
              (sym (before_more log c out (omega (arith, there)))),
        )

  -- none before one of the two places
  none_yet : (o : Option ℕ) → (nat_lt a (length log) && nat_lt b (length log)) ≡ false → LastBy f a b log o
      → length older ≡ 0
  none_yet None low h = h
  none_yet (Some out) low h =
      h.1 ∙ ap (λ (t : Bool). if t then suc (length (texts_of false f a b (before out log))) else 0)
      (false_from_ne_true (nat_lt a out && nat_lt b out) (λ t.
      (let above : max a b + 1 ≤ out = both_below a b out t in
      let under : length log ≤ max a b = one_above a b (length log) low in
      let there : out < length log = h.0 in
      omega (arith, above, under, there))))

  out_by : (m : HostMessage) (v : Bool) → same_flow f m.flow ≡ v → LastBy f a b log (last_out f log)
      → LastBy f a b (crossing.Out m ∷ log) (if v then Some (length log) else last_out f log)
  out_by m false s h =
      other_by (crossing.Out m) (last_out f log) (ap (λ (t : Bool). if t then m.text ∷ [] else []) s) h
  out_by m true s h = (omega arith, at (nat_lt a (length log) && nat_lt b (length log)) refl) where
    text : text_of false f (crossing.Out m) ≡ m.text ∷ []
    text = ap (λ (t : Bool). if t then m.text ∷ [] else []) s

    same : before (length log) (crossing.Out m ∷ log) ≡ log
    same =
        (let e : length (crossing.Out m ∷ log) - length log ≡ 1 = omega arith in
        ap (λ (k : ℕ). drop k (crossing.Out m ∷ log)) e)

    at : (t : Bool) → (nat_lt a (length log) && nat_lt b (length log)) ≡ t
        → length (older ++ (if t then text_of false f (crossing.Out m) else []))
        ≡ (if t then suc (length (texts_of false f a b (before (length log) (crossing.Out m ∷ log)))) else 0)
    at true e =
        let long : length (older ++ text_of false f (crossing.Out m)) ≡ length older + 1 =
        ap (λ (us : List (List Bool)). length (older ++ us)) text ∙ length-append older (m.text ∷ []) in
        let one : length (texts_of false f a b (before (length log) (crossing.Out m ∷ log))) ≡ length older =
        ap (λ (cs : List Crossing). length (texts_of false f a b cs)) same in
        omega (arith, long, one)
    at false e = ap (λ (us : List (List Bool)). length us) (append-nil older) ∙ none_yet (last_out f log) e h

pub last_by : (f : Flow) (a b : ℕ) (log : List Crossing) → LastBy f a b log (last_out f log)
last_by f a b [] = refl
last_by f a b (crossing.Out m ∷ log) = out_by f a b log m (same_flow f m.flow) refl (last_by f a b log)
last_by f a b (crossing.In m ∷ log) = other_by f a b log (crossing.In m) (last_out f log) refl (last_by f a b log)
last_by f a b (crossing.Answer kind g ∷ log) =
    other_by f a b log (crossing.Answer kind g) (last_out f log) refl (last_by f a b log)
last_by f a b (crossing.Down h ∷ log) = other_by f a b log (crossing.Down h) (last_out f log) refl (last_by f a b log)
last_by f a b (crossing.Up h ∷ log) = other_by f a b log (crossing.Up h) (last_out f log) refl (last_by f a b log)
