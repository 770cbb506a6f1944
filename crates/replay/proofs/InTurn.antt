-- Events in turn continue, and end.
use Rattle.replay.proofs.Common.{flat_map-append, Appends, Appends-nil, Appends-trans, ended_line}
use Rattle.std.proofs.Common.{◌≡◌, ℕ, ◌<◌, ◌+◌, List, [], ◌∷◌, ◌++◌, drop, get_or, length, take, Option, refl, ap, ap₂, sym, subst, ◌∙◌}
use Rattle.std.proofs.lemmas.List.{append_assoc, append-nil, drop_more, take-append-drop, take_more}
use Rattle.replay.specs.InTurn.{EndsInTurn, Happening, HappensOnce, InTurn, ShowsFront, WritesLines, text_of}

pub text_of-append : {L : Type 0} (text : L → List ℕ) (xs ys : List L) → text_of text (xs ++ ys) ≡ text_of text xs ++ text_of text ys
text_of-append text xs ys = flat_map-append (λ s. ended_line (text s)) xs ys

-- one more line is written
pub text_more : {L : Type 0} (text : L → List ℕ) (xs : List L) (i : ℕ) (d : L) (a b c : Option (List ℕ)) → i < length xs
    → Appends a b (text_of text (take i xs)) → Appends b c (ended_line (text (get_or xs i d))) → Appends a c (text_of text (take (i + 1) xs))
text_more text xs i d a b c lt before now =
    let all : text_of text (take (i + 1) xs) ≡ text_of text (take i xs) ++ ended_line (text (get_or xs i d)) =
    ap (text_of text) (take_more xs i d lt) ∙ text_of-append text (take i xs) (get_or xs i d ∷ []) ∙ ap (λ ys. text_of text (take i xs) ++ ys) (append-nil (ended_line (text (get_or xs i d)))) in
    subst (Appends a c) (sym all) (Appends-trans a b c (text_of text (take i xs)) (ended_line (text (get_or xs i d))) before now)

-- ---- one event more

in_turn_more : {S E L : Type 0} (Happens : Happening S E L) (old mid new : S) (events : List E) (e : E) (shown own : List L) → InTurn Happens old events mid shown → Happens mid e new own
    → InTurn Happens old (events ++ e ∷ []) new (shown ++ own)
in_turn_more {S} Happens old mid new [] e shown own h k =
    (new, own, [], subst (λ (s : S). Happens s e new own) h.0 k, (refl, refl), ap (λ xs. xs ++ own) h.1 ∙ sym (append-nil own))
in_turn_more Happens old mid new (x ∷ events) e shown own (next, first, rest, h, more, whole) k =
    (next, first, rest ++ own, h, in_turn_more Happens next mid new events e rest own more k, ap (λ xs. xs ++ own) whole ∙ append_assoc first rest own)

pub nothing_written : {S E L : Type 0} (Happens : Happening S E L) (text : L → List ℕ) (old : S) (a : Option (List ℕ)) → WritesLines text (InTurn Happens old [] old) a a
nothing_written Happens text old a = record { shown = []; is_shown = (refl, refl); written = Appends-nil a }

pub one_written : {S E L : Type 0} (Happens : Happening S E L) (text : L → List ℕ) (old mid new : S) (events : List E) (e : E) (a b c : Option (List ℕ))
    → WritesLines text (InTurn Happens old events mid) a b → WritesLines text (Happens mid e new) b c → WritesLines text (InTurn Happens old (events ++ e ∷ []) new) a c
one_written Happens text old mid new events e a b c h k = record {
  shown = h.shown ++ k.shown;
  is_shown = in_turn_more Happens old mid new events e h.shown k.shown h.is_shown k.is_shown;
  written = subst (Appends a c) (sym (text_of-append text h.shown k.shown)) (Appends-trans a b c (text_of text h.shown) (text_of text k.shown) h.written k.written);
}

-- the last event
pub last_shown : {S E L : Type 0} (Happens Goes : Happening S E L) (old mid new : S) (events done : List E) (e : E) (left : List E) (front own : List L)
    → events ≡ done ++ e ∷ left → InTurn Happens old done mid front → Goes mid e new own → EndsInTurn Happens Goes old events new (front ++ own)
last_shown Happens Goes old mid new events done e left front own parts before goes =
    record { done = done; last = e; left = left; parts = parts; mid = mid; front = front; before = before; own = own; goes = goes; lines = refl }

pub last_written : {S E L : Type 0} (Happens Goes : Happening S E L) (text : L → List ℕ) (old mid new : S) (events done : List E) (e : E) (left : List E) (a b c : Option (List ℕ))
    → events ≡ done ++ e ∷ left → WritesLines text (InTurn Happens old done mid) a b → WritesLines text (Goes mid e new) b c → WritesLines text (EndsInTurn Happens Goes old events new) a c
last_written Happens Goes text old mid new events done e left a b c parts h k = record {
  shown = h.shown ++ k.shown;
  is_shown = last_shown Happens Goes old mid new events done e left h.shown k.shown parts h.is_shown k.is_shown;
  written = subst (Appends a c) (sym (text_of-append text h.shown k.shown)) (Appends-trans a b c (text_of text h.shown) (text_of text k.shown) h.written k.written);
}

-- ---- in a list that is gone through place by place

-- the events up to this one, and this one
pub one_more : {E : Type 0} (events : List E) (i : ℕ) (e : E) → i < length events → e ≡ get_or events i e → take i events ++ e ∷ [] ≡ take (i + 1) events
one_more {E} events i e lt is = ap (λ (x : E). take i events ++ x ∷ []) is ∙ sym (take_more events i e lt)

-- the events before this one, this one, and those after it
pub cut_at : {E : Type 0} (events : List E) (i : ℕ) (e : E) → i < length events → e ≡ get_or events i e → events ≡ take i events ++ e ∷ drop (i + 1) events
cut_at {E} events i e lt is =
    sym (take-append-drop i events) ∙ ap (λ es. take i events ++ es) (drop_more events i e lt ∙ ap (λ (x : E). x ∷ drop (i + 1) events) (sym is))

-- ---- no choice

pub in_turn_once : {S E L : Type 0} (Happens : Happening S E L) → HappensOnce Happens → (old : S) (events : List E) (new other : S) (shown more : List L)
    → InTurn Happens old events new shown → InTurn Happens old events other more → (new ≡ other) × (shown ≡ more)
in_turn_once Happens once old [] new other shown more h k = (h.0 ∙ sym k.0, h.1 ∙ sym k.1)
in_turn_once {S} {E} {L} Happens once old (e ∷ events) new other shown more (mid, first, rest, h, hs, whole) (mid', first', rest', k, ks, whole') =
    let one : (mid ≡ mid') × (first ≡ first') = once old e mid mid' first first' h k in
    let others : (new ≡ other) × (rest ≡ rest') = in_turn_once Happens once mid events new other rest rest' hs (subst (λ (s : S). InTurn Happens s events other rest') (sym one.0) ks) in
    (others.0, whole ∙ ap₂ (λ (xs ys : List L). xs ++ ys) one.1 others.1 ∙ sym whole')

-- what a list of events shows begins with what the first of them show
in_turn_front : {S E L : Type 0} (Happens : Happening S E L) → HappensOnce Happens → (old : S) (done left : List E) (mid other : S) (front whole : List L)
    → InTurn Happens old done mid front → InTurn Happens old (done ++ left) other whole → (rest : List L) × InTurn Happens mid left other rest × (whole ≡ front ++ rest)
in_turn_front {S} Happens once old [] left mid other front whole h k =
    (whole, subst (λ (s : S). InTurn Happens s left other whole) (sym h.0) k, ap (λ xs. xs ++ whole) (sym h.1))
in_turn_front {S} {E} {L} Happens once old (e ∷ done) left mid other front whole (next, first, rest, h, hs, all) (next', first', rest', k, ks, all') =
    let one : (next ≡ next') × (first ≡ first') = once old e next next' first first' h k in
    let more : (tail : List L) × InTurn Happens mid left other tail × (rest' ≡ rest ++ tail) =
    in_turn_front Happens once next done left mid other rest rest' hs (subst (λ (s : S). InTurn Happens s (done ++ left) other rest') (sym one.0) ks) in
    (more.0, more.1, all' ∙ ap₂ (λ (xs ys : List L). xs ++ ys) (sym one.1) more.2 ∙ sym (append_assoc first rest more.0) ∙ ap (λ xs. xs ++ more.0) (sym all))

pub ends_front : {S E L : Type 0} (Happens Goes : Happening S E L) → HappensOnce Happens → ShowsFront Goes Happens → (old : S) (events : List E) (new other : S) (part whole : List L)
    → EndsInTurn Happens Goes old events new part → InTurn Happens old events other whole → (rest : List L) × (whole ≡ part ++ rest)
ends_front {S} {E} {L} Happens Goes once fronts old events new other part whole h k =
    let from : (tail : List L) × InTurn Happens h.mid (h.last ∷ h.left) other tail × (whole ≡ h.front ++ tail) =
    in_turn_front Happens once old h.done (h.last ∷ h.left) h.mid other h.front whole h.before (subst (λ (es : List E). InTurn Happens old es other whole) h.parts k) in
    by from.0 from.1 from.2
  where
    by : (tail : List L) → InTurn Happens h.mid (h.last ∷ h.left) other tail → whole ≡ h.front ++ tail → (rest : List L) × (whole ≡ part ++ rest)
    by tail (next, first, rest, goes, more, all) is =
        let own : (more : List L) × (first ≡ h.own ++ more) = fronts h.mid h.last new next h.own first h.goes goes in (
          own.0 ++ rest,
          is ∙ ap (λ xs. h.front ++ xs) (all ∙ ap (λ xs. xs ++ rest) own.1 ∙ append_assoc h.own own.0 rest) ∙ sym (append_assoc h.front h.own (own.0 ++ rest))
              ∙ ap (λ xs. xs ++ (own.0 ++ rest)) (sym h.lines),
        )
