-- What closes promise of the first lives, with one more.
use Rattle.book_judge.proofs.Common.{◌≡◌, ℕ, zero, suc, ◌+◌, ◌<◌, ◌≤◌, ◌==◌, Bool, true, false, not, List, [], ◌∷◌, ◌++◌, length, take, get_or, Option, Some, None, MatchBool, refl, ap, sym, subst, ◌∙◌, inl, inr, arith, append-nil, slice_get_read, slice_get_within, Crossing, ShowsLife, WithMatch, Finding, is_receive_socket, IsBeside, ClosesWhole, Fate, Life, same_text, AreNamed}
use Rattle.std.specs.Prelude.{IfSome, nat_lt}
use Rattle.std.proofs.lemmas.Bool.{eqb-true, ltb-false, ltb-true, eq-eqb}
use Rattle.std.proofs.lemmas.List.{length-append, nil_from_length}
use Rattle.promise.specs.Safe.{IsPrefix, Match, Name, receives}
use Rattle.book_judge.specs.Inside.Chains.{ClosedAt, FoundFirst, AgainAt, HasTaken, LosesAt, LosesOf, TookAll}
use Rattle.std.specs.List.{slice_get}
use Rattle.promise.specs.declared.life.Fate.TheVariants as fate
use Rattle.book_judge.specs.Broken.{first_closed}
use Rattle.book_judge.proofs.Elements.{contains_place, false_not, get_take, get_took, place_contains, read_at}
use Rattle.book_judge.proofs.Peace.{asked_of, fits_match, match_fits, one_some}
use Rattle.book_judge.proofs.Crossed.SameText.{same_text-is, same_text-true}
use Rattle.book_judge.proofs.FirstLives.Shown.{fits_too, repeats_true}

-- ---- the same bits

prefix_all : (xs ys : List Bool) → length xs ≡ length ys → IsPrefix xs ys → xs ≡ ys
prefix_all xs ys n (rest, e) =
    let long : length xs + length rest ≡ length ys =
    sym (length-append xs rest) ∙ ap (λ (zs : List Bool). length zs) e in
    let none : rest ≡ [] = nil_from_length rest (omega (arith, n, long)) in
    sym (append-nil xs) ∙ ap (λ (zs : List Bool). xs ++ zs) (sym none) ∙ e

pub same_by_prefix : (b : Bool) (xs ys : List Bool) → length xs ≡ length ys
    → MatchBool b (IsPrefix xs ys) (IsPrefix xs ys → ⊥) → MatchBool b (xs ≡ ys) (xs ≡ ys → ⊥)
same_by_prefix true xs ys n m = prefix_all xs ys n m
same_by_prefix false xs ys n m = λ e. m ([], append-nil xs ∙ e)

-- ---- what was taken is known

bits_stable : (xs ys : List Bool) → ((xs ≡ ys → ⊥) → ⊥) → xs ≡ ys
bits_stable xs ys never = by (same_text xs ys) refl
  where
    by : (b : Bool) → same_text xs ys ≡ b → xs ≡ ys
    by true e = same_text-true xs ys e
    by false e = absurd (never (λ s. false_not (same_text xs ys) e (same_text-is xs ys s)))

count_stable : (m n : ℕ) → ((m ≡ n → ⊥) → ⊥) → m ≡ n
count_stable m n never = by (m == n) refl
  where
    by : (b : Bool) → (m == n) ≡ b → m ≡ n
    by true e = eqb-true m n e
    by false e = absurd (never (λ s. false_not (m == n) e (eq-eqb m n s)))

took_stable : (x y : Life) (h : List Bool) → ((TookAll x y h → ⊥) → ⊥) → TookAll x y h
took_stable x y h never = (
  bits_stable x.bits y.bits (λ f. never (λ t. f t.0)),
  count_stable x.messages y.messages (λ f. never (λ t. f t.1)),
  bits_stable x.bits h (λ f. never (λ t. f t.2)),
)

-- ---- lives by their places

pub beside_place : {A : Type 0} (x : Life) (a : A) (lives : List Life) (others : List A) → IsBeside x a lives others
    → (i : ℕ) × (slice_get lives i ≡ Some x) × (slice_get others i ≡ Some a)
beside_place x a [] others h = absurd h
beside_place x a (y ∷ lives) [] h = absurd h
beside_place {A} x a (y ∷ lives) (b ∷ others) h = elim h [
  | inl e ↦ (0, ap (λ (z : Life). Some z) (sym e.0), ap (λ (z : A). Some z) (sym e.1))
  | inr r ↦ (let t = beside_place x a lives others r in (suc t.0, t.1, t.2))
]

pub place_beside : {A : Type 0} (x : Life) (a : A) (lives : List Life) (others : List A) (i : ℕ)
    → slice_get lives i ≡ Some x → slice_get others i ≡ Some a → IsBeside x a lives others
place_beside x a [] others i e f = absurd (cc)
place_beside x a (y ∷ lives) [] i e f = absurd (cc)
place_beside x a (y ∷ lives) (b ∷ others) zero e f =
    let one : y ≡ x = cc in
    let two : b ≡ a = cc in
    inl (sym one, sym two)
place_beside x a (y ∷ lives) (b ∷ others) (suc i) e f = inr (place_beside x a lives others i e f)

-- ---- the first lives

took_at : (names : List Name) (lives : List Life) (handed : List (List Bool)) (fates : List Fate) (log : List Crossing) (n i j : ℕ) (x y : Life) (h : List Bool)
    → AreNamed (length lives) names lives log → ((k : ℕ) → k < n → ClosedAt names lives handed fates k) → i < n
    → slice_get lives i ≡ Some x → slice_get fates i ≡ Some fate.Ended
    → slice_get lives j ≡ Some y → slice_get handed j ≡ Some h → Match log x y → TookAll x y h
took_at names lives handed fates log n i j x y h are all lt e f g k m =
    let a = asked_of names lives log i x are e in
    let b = asked_of names lives log j y are g in
    took_stable x y h
    (λ lost. all i lt a.0 x a.1 e f m.receiving j (b.0, y, b.1, g, match_fits log a.0 x b.0 y a.2 b.2 m, (h, k, lost)))

pub closed_first : (names : List Name) (lives : List Life) (handed : List (List Bool)) (fates : List Fate) (log : List Crossing) (n : ℕ)
    → AreNamed (length lives) names lives log
    → length handed ≡ length lives → ((i : ℕ) → i < n → ClosedAt names lives handed fates i)
    → ClosesWhole log lives handed (take n fates)
closed_first names lives handed fates log n are counts all = record {
  took_sent = λ x y beside c m.
      (let t = beside_place x fate.Ended lives (take n fates) beside in
      let k = get_took n fates t.0 fate.Ended t.2 in
      let j = contains_place lives y c in
      let h = read_at handed j.0 (omega (arith, counts, slice_get_within lives j.0 y j.1)) in
      let took = took_at names lives handed fates log n t.0 j.0 x y h.0 are all k.0 t.1 k.1 j.1 h.1 m in
      (took.0, took.1));
  took_handed = λ x y text beside there m.
      (let t = beside_place x fate.Ended lives (take n fates) beside in
      let k = get_took n fates t.0 fate.Ended t.2 in
      let j = beside_place y text lives handed there in
      (took_at names lives handed fates log n t.0 j.0 x y text are all k.0 t.1 k.1 j.1 j.2 m).2);
}

pub closed_at : (names : List Name) (lives : List Life) (handed : List (List Bool)) (fates : List Fate) (log : List Crossing) (n i : ℕ)
    → AreNamed (length lives) names lives log
    → i < n → ClosesWhole log lives handed (take n fates) → ClosedAt names lives handed fates i
closed_at names lives handed fates log n i are l w a x e f g r j (b, y, p, q, fit, (h, k, lost)) =
    let c = asked_of names lives log i x are f in
    let same : c.0 ≡ a = one_some (slice_get names i) c.0 a c.1 e in
    let d = asked_of names lives log j y are q in
    let one : d.0 ≡ b = one_some (slice_get names j) d.0 b d.1 p in
    let m : Match log x y =
    fits_match log a x b y (c.2 ∙ ap (λ (z : Name). Some z) same) (d.2 ∙ ap (λ (z : Name). Some z) one) fit in
    let beside : IsBeside x fate.Ended lives (take n fates) =
    place_beside x fate.Ended lives (take n fates) i f (get_take n fates i fate.Ended l g) in
    let sent = w.took_sent x y beside (place_contains lives j y q) m in
    lost (sent.0, sent.1, w.took_handed x y h beside (place_beside y h lives handed j q k) m)

-- fates past the lives are of none
all_beside : (x : Life) (f : Fate) (lives : List Life) (fates : List Fate) → IsBeside x f lives fates
    → IsBeside x f lives (take (length lives) fates)
all_beside x f lives fates h =
    let t = beside_place x f lives fates h in
    place_beside x f lives (take (length lives) fates) t.0 t.1
    (get_take (length lives) fates t.0 f (slice_get_within lives t.0 x t.1) t.2)

pub front_beside : (n : ℕ) (x : Life) (f : Fate) (lives : List Life) (fates : List Fate)
    → IsBeside x f lives (take n fates) → IsBeside x f lives fates
front_beside n x f lives fates h =
    let t = beside_place x f lives (take n fates) h in
    let k = get_took n fates t.0 f t.2 in
    place_beside x f lives fates t.0 t.1 k.1

-- closes promise as much of the first lives
pub closed_front : (log : List Crossing) (lives : List Life) (handed : List (List Bool)) (fates : List Fate) (n : ℕ)
    → ClosesWhole log lives handed fates → first_closed log lives handed fates n
closed_front log lives handed fates n w = record {
  took_sent = λ x y beside c m. w.took_sent x y (front_beside n x fate.Ended lives fates beside) c m;
  took_handed = λ x y text beside there m. w.took_handed x y text (front_beside n x fate.Ended lives fates beside) there m;
}

-- ---- what is found

pub closed_none : (names : List Name) (lives : List Life) (handed : List (List Bool)) (fates : List Fate) (log : List Crossing)
    → AreNamed (length lives) names lives log
    → length handed ≡ length lives → FoundFirst (ClosedAt names lives handed fates) (length lives) None
    → ClosesWhole log lives handed fates
closed_none names lives handed fates log are counts all =
    let w : ClosesWhole log lives handed (take (length lives) fates) =
    closed_first names lives handed fates log (length lives) are counts all in
    record {
      took_sent = λ x y beside c m. w.took_sent x y (all_beside x fate.Ended lives fates beside) c m;
      took_handed = λ x y text beside there m. w.took_handed x y text (all_beside x fate.Ended lives fates beside) there m;
    }

pub closed_some : (names : List Name) (lives : List Life) (handed : List (List Bool)) (fates : List Fate) (log : List Crossing) (p : ℕ) (found : Finding)
    → AreNamed (length lives) names lives log
    → length handed ≡ length lives → FoundFirst (ClosedAt names lives handed fates) (length lives) (Some p)
    → WithMatch found p log lives → ShowsLife (first_closed log lives handed fates) found log lives
closed_some names lives handed fates log p found are counts at w = record {
  place = p;
  first = (closed_first names lives handed fates log p are counts at.1, λ closed. at.2 (closed_at names lives handed fates log (p + 1) p are (omega arith) closed));
  at = w;
}

-- ---- one life

pub taken_by : (b : Bool) (a : Name) (x : Life) (names : List Name) (lives : List Life) (handed : List (List Bool))
    → MatchBool b ((i : ℕ) × LosesAt a x names lives handed i) ((i : ℕ) → LosesAt a x names lives handed i → ⊥)
    → receives x ≡ true
    → MatchBool (not b) (HasTaken a x names lives handed) (HasTaken a x names lives handed → ⊥)
taken_by true a x names lives handed m r = λ has. has r m.0 m.1
taken_by false a x names lives handed m r = λ _. m

-- an earlier life with the same requests, messages and bits lost nothing: then this one didn't
pub again_taken : (a : Name) (x : Life) (names : List Name) (lives : List Life) (handed : List (List Bool)) (fates : List Fate) (p : ℕ)
    → AgainAt a x names lives fates p → ClosedAt names lives handed fates p → HasTaken a x names lives handed
again_taken a x names lives handed fates p (b, y, e, f, g, h, messages, bits) closed r i (c, z, s, t, fit, (text, at, lost)) =
    let u = repeats_true a x b y h in
    let kind : receives y ≡ true = ap (λ (n : Name). is_receive_socket n.own) (sym u.1) ∙ r in
    closed b y e f g kind i
    (c, z, s, t, sym (fits_too a x b y c z u.0 u.1 u.2 u.3) ∙ fit, (text, at, λ took. lost (bits ∙ took.0, messages ∙ took.1, bits ∙ took.2)))

-- and so of the place of an earlier one that was found
pub earlier_closed : (names : List Name) (lives : List Life) (handed : List (List Bool)) (fates : List Fate) (o : Option ℕ) (p : ℕ)
    → o ≡ Some p → IfSome o (ClosedAt names lives handed fates) → ClosedAt names lives handed fates p
earlier_closed names lives handed fates o p e h =
    subst (λ (z : Option ℕ). IfSome z (ClosedAt names lives handed fates)) e h

-- what is lost of a list that is there
pub loses_here : (b : Bool) (x y : Life) (h : List Bool) (handed : List (List Bool)) (i : ℕ)
    → slice_get handed i ≡ Some h → MatchBool b (TookAll x y h) (TookAll x y h → ⊥)
    → MatchBool (not b) (LosesOf x y handed i) (LosesOf x y handed i → ⊥)
loses_here true x y h handed i e m =
    λ (k, f, lost). (let one : h ≡ k = one_some (slice_get handed i) h k e f in lost (subst (λ (z : List Bool). TookAll x y z) one m))
loses_here false x y h handed i e m = (h, e, m)

pub list_there : (handed : List (List Bool)) (i : ℕ) (h : List Bool) → true ≡ nat_lt i (length handed)
    → h ≡ get_or handed i h → slice_get handed i ≡ Some h
list_there handed i h e is = slice_get_read handed (length handed) i h refl (ltb-true i (length handed) (sym e)) is

pub loses_none : (x y : Life) (handed : List (List Bool)) (i : ℕ) → false ≡ nat_lt i (length handed)
    → LosesOf x y handed i → ⊥
loses_none x y handed i e (h, at, lost) =
    (let past : length handed ≤ i = ltb-false i (length handed) (sym e) in omega (arith, past, slice_get_within handed i h at))

-- the life at a place
pub closed_here : (names : List Name) (lives : List Life) (handed : List (List Bool)) (fates : List Fate) (n : ℕ) (a : Name) (x : Life)
    → n < length lives → length names ≡ length lives → a ≡ get_or names n a → x ≡ get_or lives n x
    → HasTaken a x names lives handed → ClosedAt names lives handed fates n
closed_here names lives handed fates n a x l counts e f has = λ b y p q ended.
    (let s : slice_get names n ≡ Some a = slice_get_read names (length names) n a refl (omega (arith, l, counts)) e in
    let t : slice_get lives n ≡ Some x = slice_get_read lives (length lives) n x refl l f in
    let one : a ≡ b = cc in
    let two : x ≡ y = cc in
    let P : Name → Life → Type 0 = λ c z. HasTaken c z names lives handed in
    subst (λ (c : Name). P c y) one (subst (λ (z : Life). P a z) two has))

pub taken_here : (names : List Name) (lives : List Life) (handed : List (List Bool)) (fates : List Fate) (n : ℕ) (a : Name) (x : Life)
    → n < length lives → length names ≡ length lives → a ≡ get_or names n a → x ≡ get_or lives n x
    → slice_get fates n ≡ Some fate.Ended → ClosedAt names lives handed fates n → HasTaken a x names lives handed
taken_here names lives handed fates n a x l counts e f ended closed =
    closed a x (slice_get_read names (length names) n a refl (omega (arith, l, counts)) e)
    (slice_get_read lives (length lives) n x refl l f) ended

-- where it is known of the life, it is known of its place
pub closed_by : (r : Bool) (names : List Name) (lives : List Life) (handed : List (List Bool)) (fates : List Fate) (n : ℕ) (a : Name) (x : Life)
    → n < length lives → length names ≡ length lives → a ≡ get_or names n a → x ≡ get_or lives n x
    → slice_get fates n ≡ Some fate.Ended
    → MatchBool r (HasTaken a x names lives handed) (HasTaken a x names lives handed → ⊥)
    → MatchBool r (ClosedAt names lives handed fates n) (ClosedAt names lives handed fates n → ⊥)
closed_by true names lives handed fates n a x l counts e f ended m =
    closed_here names lives handed fates n a x l counts e f m
closed_by false names lives handed fates n a x l counts e f ended m =
    λ closed. m (taken_here names lives handed fates n a x l counts e f ended closed)
