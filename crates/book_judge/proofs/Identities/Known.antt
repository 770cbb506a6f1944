-- Which lives may be in one book, by what is noted of their requests.
use Rattle.book_judge.proofs.Common.{nat_cmp, eqb-true, cases_lt, and_from, and_true, Name, own_request, Life}
use Rattle.std.proofs.Common.{◌≡◌, ◌⊎◌, ℕ, ◌+◌, ◌<◌, Bool, true, false, not, ◌&&◌, ◌==◌, List, Option, Some, None, refl, ap, sym, subst, ◌∙◌, inl, inr, arith, eq-eqb}
use Rattle.book_judge.specs.Inside.Asked.{same_name, key}
use Rattle.book_judge.specs.Inside.Partners.{AllApart, ApartFrom, HasPlace, apart_at, AreKnown, alike, apart_of, are_apart, is_mate, is_new, is_none_at, mate_of}
use Rattle.std.specs.List.{slice_get}
use Rattle.std.specs.FinMap as map
use Rattle.book_judge.proofs.Identities.Asked.{below_cases}
use Rattle.book_judge.proofs.Elements.{not_is, not_true}
use Rattle.book_judge.proofs.Identities.Placed.{has_more}

-- ---- names

pub same_true : (a b : Name) → same_name a b ≡ true → a ≡ b
same_true a b h =
    let t = and_true (a.place == b.place && a.own == b.own) (a.foreign == b.foreign) h in
    let u = and_true (a.place == b.place) (a.own == b.own) t.0 in
    let at : ℕ → ℕ → ℕ → Name = λ p s f. record { place = p; own = s; foreign = f } in
    ap (λ (p : ℕ). at p a.own a.foreign) (eqb-true a.place b.place u.0) ∙ ap (λ (s : ℕ). at b.place s a.foreign) (eqb-true a.own b.own u.1)
    ∙ ap (λ (f : ℕ). at b.place b.own f) (eqb-true a.foreign b.foreign t.1)

pub same_is : (a b : Name) → a ≡ b → same_name a b ≡ true
same_is a b e =
    and_from (a.place == b.place && a.own == b.own) (a.foreign == b.foreign)
    (and_from (a.place == b.place) (a.own == b.own) (eq-eqb a.place b.place (ap (λ (n : Name). n.place) e)) (eq-eqb a.own b.own (ap (λ (n : Name). n.own) e)))
    (eq-eqb a.foreign b.foreign (ap (λ (n : Name). n.foreign) e))

-- ---- two lives

alike_forth : (p q : Bool) → alike p q ≡ true → p ≡ true → q ≡ true
alike_forth true q h e = h
alike_forth false q h e = absurd (cc)

alike_back : (p q : Bool) → alike p q ≡ true → q ≡ true → p ≡ true
alike_back true q h e = refl
alike_back false true h e = absurd (cc)
alike_back false false h e = absurd (cc)

alike_is : (p q : Bool) → (p ≡ true → q ≡ true) → (q ≡ true → p ≡ true) → alike p q ≡ true
alike_is true q f g = f refl
alike_is false true f g = (let e : false ≡ true = g refl in absurd (cc))
alike_is false false f g = refl

-- what it means for two lives, with the requests of their partners
pub record Apart (a : Name) (x : Life) (b : Name) (y : Life) : Type 0 where
  pub own : own_request x ≡ own_request y → ⊥
  pub partner : a ≡ b → ⊥
  pub forth : a ≡ own_request y → b ≡ own_request x
  pub back : b ≡ own_request x → a ≡ own_request y

pub apart_true : (a : Name) (x : Life) (b : Name) (y : Life) → are_apart a x b y ≡ true → Apart a x b y
apart_true a x b y h =
    let t = and_true (not (same_name (own_request x) (own_request y)) && not (same_name a b)) (alike (same_name a (own_request y)) (same_name b (own_request x))) h in
    let u = and_true (not (same_name (own_request x) (own_request y))) (not (same_name a b)) t.0 in
    record {
      own = λ e. not_true (same_name (own_request x) (own_request y)) u.0 (same_is (own_request x) (own_request y) e);
      partner = λ e. not_true (same_name a b) u.1 (same_is a b e);
      forth = λ e. same_true b (own_request x) (alike_forth (same_name a (own_request y)) (same_name b (own_request x)) t.1 (same_is a (own_request y) e));
      back = λ e. same_true a (own_request y) (alike_back (same_name a (own_request y)) (same_name b (own_request x)) t.1 (same_is b (own_request x) e));
    }

pub apart_is : (a : Name) (x : Life) (b : Name) (y : Life) → Apart a x b y → are_apart a x b y ≡ true
apart_is a x b y h =
    and_from (not (same_name (own_request x) (own_request y)) && not (same_name a b)) (alike (same_name a (own_request y)) (same_name b (own_request x)))
    (and_from (not (same_name (own_request x) (own_request y))) (not (same_name a b))
    (not_is (same_name (own_request x) (own_request y)) (λ e. h.own (same_true (own_request x) (own_request y) e)))
    (not_is (same_name a b) (λ e. h.partner (same_true a b e))))
    (alike_is (same_name a (own_request y)) (same_name b (own_request x))
    (λ e. same_is b (own_request x) (h.forth (same_true a (own_request y) e)))
    (λ e. same_is a (own_request y) (h.back (same_true b (own_request x) e))))

-- the lives at two places
pub apart_there : (names : List Name) (lives : List Life) (i j : ℕ) (a b : Name) (x y : Life)
    → slice_get names i ≡ Some a → slice_get lives i ≡ Some x → slice_get names j ≡ Some b → slice_get lives j ≡ Some y
    → apart_at names lives i j ≡ are_apart a x b y
apart_there names lives i j a b x y e f g h =
    ap (λ (o : Option Name). apart_of o (slice_get lives i) (slice_get names j) (slice_get lives j)) e
    ∙ ap (λ (o : Option Life). apart_of (Some a) o (slice_get names j) (slice_get lives j)) f
    ∙ ap (λ (o : Option Name). apart_of (Some a) (Some x) o (slice_get lives j)) g
    ∙ ap (λ (o : Option Life). apart_of (Some a) (Some x) (Some b) o) h

apart_two : (n : ℕ) (names : List Name) (lives : List Life) (i j : ℕ) (a b : Name) (x y : Life) → AllApart n names lives → i < j → j < n
    → slice_get names i ≡ Some a → slice_get lives i ≡ Some x → slice_get names j ≡ Some b → slice_get lives j ≡ Some y → Apart a x b y
apart_two n names lives i j a b x y all l m e f g h = apart_true a x b y (sym (apart_there names lives i j a b x y e f g h) ∙ all j m i l)

-- a request is of one life only
same_place : (n : ℕ) (names : List Name) (lives : List Life) (i j : ℕ) (a b : Name) (x y : Life) → AllApart n names lives → i < n → j < n
    → slice_get names i ≡ Some a → slice_get lives i ≡ Some x → slice_get names j ≡ Some b → slice_get lives j ≡ Some y
    → (a ≡ b) ⊎ (own_request x ≡ own_request y) → i ≡ j
same_place n names lives i j a b x y all l m e f g h one = elim (cases_lt i j) [
  | inl lt ↦ (let t = apart_two n names lives i j a b x y all lt m e f g h in elim one [
    | inl s ↦ absurd (t.partner s)
    | inr s ↦ absurd (t.own s)
  ])
  | inr ge ↦ elim (cases_lt j i) [
    | inl lt ↦ (let t = apart_two n names lives j i b a y x all lt l g h e f in elim one [
      | inl s ↦ absurd (t.partner (sym s))
      | inr s ↦ absurd (t.own (sym s))
    ])
    | inr le ↦ omega (arith, ge, le)
  ]
]

-- ---- a life beside all earlier ones

record IsMate (names : List Name) (lives : List Life) (j : ℕ) (partner own : Name) : Type 0 where
  name : Name
  life : Life
  named : slice_get names j ≡ Some name
  there : slice_get lives j ≡ Some life
  asked : name ≡ partner
  asks : own_request life ≡ own

mate_by : (names : List Name) (lives : List Life) (j : ℕ) (partner own : Name) (o : Option Name) (q : Option Life) → slice_get names j ≡ o → slice_get lives j ≡ q
    → mate_of o q partner own ≡ true → IsMate names lives j partner own
mate_by names lives j partner own None q e f h = absurd (cc)
mate_by names lives j partner own (Some a) None e f h = absurd (cc)
mate_by names lives j partner own (Some a) (Some x) e f h =
    let t = and_true (same_name a partner) (same_name (own_request x) own) h in
    record { name = a; life = x; named = e; there = f; asked = same_true a partner t.0; asks = same_true (own_request x) own t.1 }

mate_at : (names : List Name) (lives : List Life) (o : Option ℕ) (j : ℕ) (partner own : Name) → o ≡ Some j → is_mate names lives o partner own ≡ true
    → IsMate names lives j partner own
mate_at names lives o j partner own e h =
    let P : Option ℕ → Type 0 = λ z. is_mate names lives z partner own ≡ true in
    mate_by names lives j partner own (slice_get names j) (slice_get lives j) refl refl (subst P e h)

none_some : (o : Option ℕ) (j : ℕ) → is_none_at o ≡ true → o ≡ Some j → ⊥
none_some None j h e = cc
none_some (Some i) j h e = absurd (cc)

pub new_beside : (n : ℕ) (owns partners : map.FinMap nat_cmp ℕ) (names : List Name) (lives : List Life) (asked own : Name) (i : ℕ) (a : Name) (x : Life)
    → AllApart n names lives → AreKnown n owns partners names lives → is_new owns partners names lives asked own ≡ true → i < n
    → slice_get names i ≡ Some a → slice_get lives i ≡ Some x → (y : Life) → own ≡ own_request y → Apart a x asked y
new_beside n owns partners names lives asked own i a x all known new l e f y is =
    let tests = and_true (is_none_at (map.get owns (key own)) && is_none_at (map.get partners (key asked)) && is_mate names lives (map.get partners (key own)) own asked)
    (is_mate names lives (map.get owns (key asked)) own asked) new in
    let three = and_true (is_none_at (map.get owns (key own)) && is_none_at (map.get partners (key asked))) (is_mate names lives (map.get partners (key own)) own asked) tests.0 in
    let two = and_true (is_none_at (map.get owns (key own))) (is_none_at (map.get partners (key asked))) three.0 in
    let mine : HasPlace n owns (key (own_request x)) = known.own_known i x l f in
    let his : HasPlace n partners (key a) = known.partner_known i a l e in
    record {
      own = λ s. none_some (map.get owns (key own)) mine.0 two.0 (ap (λ (z : Name). map.get owns (key z)) (is ∙ sym s) ∙ mine.1);
      partner = λ s. none_some (map.get partners (key asked)) his.0 two.1 (ap (λ (z : Name). map.get partners (key z)) (sym s) ∙ his.1);
      forth = λ s.
          (let at : a ≡ own = s ∙ sym is in
          let m = mate_at names lives (map.get partners (key own)) his.0 own asked (ap (λ (z : Name). map.get partners (key z)) (sym at) ∙ his.1) three.1 in
          let one : i ≡ his.0 = same_place n names lives i his.0 a m.name x m.life all l his.2 e f m.named m.there (inl (at ∙ sym m.asked)) in
          let there : slice_get lives i ≡ Some m.life = ap (λ (k : ℕ). slice_get lives k) one ∙ m.there in
          let same : x ≡ m.life = cc in
          sym (ap (λ (z : Life). own_request z) same ∙ m.asks));
      back = λ s.
          (let m = mate_at names lives (map.get owns (key asked)) mine.0 own asked (ap (λ (z : Name). map.get owns (key z)) s ∙ mine.1) tests.1 in
          let one : i ≡ mine.0 = same_place n names lives i mine.0 a m.name x m.life all l mine.2 e f m.named m.there (inr (sym s ∙ sym m.asks)) in
          let there : slice_get names i ≡ Some m.name = ap (λ (k : ℕ). slice_get names k) one ∙ m.named in
          let same : a ≡ m.name = cc in
          same ∙ m.asked ∙ is);
    }

apart_by : (names : List Name) (lives : List Life) (i j : ℕ) (o : Option Name) (q : Option Life) (b : Name) (y : Life) → slice_get names i ≡ o → slice_get lives i ≡ q
    → slice_get names j ≡ Some b → slice_get lives j ≡ Some y
    → ((a : Name) (x : Life) → slice_get names i ≡ Some a → slice_get lives i ≡ Some x → Apart a x b y) → apart_at names lives i j ≡ true
apart_by names lives i j None q b y e f g h all = ap (λ (z : Option Name). apart_of z (slice_get lives i) (slice_get names j) (slice_get lives j)) e
apart_by names lives i j (Some a) None b y e f g h all =
    ap (λ (z : Option Name). apart_of z (slice_get lives i) (slice_get names j) (slice_get lives j)) e
    ∙ ap (λ (z : Option Life). apart_of (Some a) z (slice_get names j) (slice_get lives j)) f
apart_by names lives i j (Some a) (Some x) b y e f g h all = apart_there names lives i j a b x y e f g h ∙ apart_is a x b y (all a x e f)

pub new_apart : (n : ℕ) (owns partners : map.FinMap nat_cmp ℕ) (names : List Name) (lives : List Life) (asked own : Name) (y : Life)
    → AllApart n names lives → AreKnown n owns partners names lives → slice_get names n ≡ Some asked → slice_get lives n ≡ Some y → own ≡ own_request y
    → is_new owns partners names lives asked own ≡ true → ApartFrom n n names lives
new_apart n owns partners names lives asked own y all known e f is new = λ i l.
    apart_by names lives i n (slice_get names i) (slice_get lives i) asked y refl refl e f
    (λ a x g h. new_beside n owns partners names lives asked own i a x all known new l g h y is)

-- ---- one life more

pub known_more : (n : ℕ) (owns partners : map.FinMap nat_cmp ℕ) (names : List Name) (lives : List Life) (asked own : Name) (y : Life)
    → slice_get names n ≡ Some asked → slice_get lives n ≡ Some y → own ≡ own_request y → AreKnown n owns partners names lives
    → AreKnown (n + 1) (map.insert owns (key own) n) (map.insert partners (key asked) n) names lives
known_more n owns partners names lives asked own y e f is known = record {
  own_known = λ i x l g. has_more owns n (key own) (key (own_request x)) (elim (below_cases i n l) [
    | inl s ↦ (let there : slice_get lives n ≡ Some x = ap (λ (k : ℕ). slice_get lives k) (sym s) ∙ g in
        let same : y ≡ x = cc in inl (ap (λ (z : Life). key (own_request z)) (sym same) ∙ ap (λ (z : Name). key z) (sym is)))
    | inr b ↦ inr (known.own_known i x b g)
  ]);
  partner_known = λ i a l g. has_more partners n (key asked) (key a) (elim (below_cases i n l) [
    | inl s ↦ (let there : slice_get names n ≡ Some a = ap (λ (k : ℕ). slice_get names k) (sym s) ∙ g in
        let same : asked ≡ a = cc in inl (ap (λ (z : Name). key z) (sym same)))
    | inr b ↦ inr (known.partner_known i a b g)
  ]);
}

pub known_next : (n j k : ℕ) (owns partners mine his : map.FinMap nat_cmp ℕ) (names : List Name) (lives : List Life) (asked own : Name) (y : Life)
    → slice_get names n ≡ Some asked → slice_get lives n ≡ Some y → own ≡ own_request y → j ≡ key own → k ≡ key asked
    → mine ≡ map.insert owns j n → his ≡ map.insert partners k n → AreKnown n owns partners names lives → AreKnown (n + 1) mine his names lives
known_next n j k owns partners mine his names lives asked own y e f is p q g h known =
    let A : map.FinMap nat_cmp ℕ → map.FinMap nat_cmp ℕ → Type 0 = λ a b. AreKnown (n + 1) a b names lives in
    subst (λ (a : map.FinMap nat_cmp ℕ). A a his) (sym (g ∙ ap (λ (i : ℕ). map.insert owns i n) p))
    (subst (λ (b : map.FinMap nat_cmp ℕ). A (map.insert owns (key own) n) b) (sym (h ∙ ap (λ (i : ℕ). map.insert partners i n) q))
    (known_more n owns partners names lives asked own y e f is known))
