-- Lists of ends whose numbers are all different.
pub use Rattle.std.proofs.lemmas.Bool.{or_right}
use Rattle.host_keeps_streams.proofs.Common.{◌≡◌, ℕ, Bool, true, false, ◌||◌, ◌==◌, List, [], ◌∷◌, ◌++◌, map, filter, find, Some, refl, ap, sym, subst, ◌∙◌, inl, inr, or_parts, ne_eqb, changed_first, receives_on, sends_on, Entry, Receiver, Sender, IsReceiver, IsSender, AreReceiver, AreSender, HasReceiver, AreSound, named, numbers, is_among, AreApart, IsKnown, AreKnown, IsSending}
use Rattle.std.proofs.lemmas.Bool.{eq-eqb, or_from}
use Rattle.host_pairs.proofs.lemmas.{some_is}
use Rattle.host_keeps_streams.proofs.Lists.{unlike}

pub not_like : (c d : ℕ) → (c == d) ≡ false → c ≡ d → ⊥
not_like c d e same = unlike (c == d) (eq-eqb c d same) e

module _ (name : ℕ → ℕ → ℕ) where
  -- what is found is among them
  found_step : (test : Entry → Bool) (e y : Entry) (ys : List Entry) → (find test ys ≡ Some e → is_among (named name e) (numbers name ys) ≡ true) → (b : Bool) → test y ≡ b → find test (y ∷ ys) ≡ Some e
      → is_among (named name e) (numbers name (y ∷ ys)) ≡ true
  found_step test e y ys rest true t f =
      let r : Some y ≡ Some e = rw t at f in
      let there : (named name y == named name e) ≡ true = eq-eqb (named name y) (named name e) (ap (named name) (some_is y e r)) in
      rw there refl
  found_step test e y ys rest false t f = or_right (named name y == named name e) (is_among (named name e) (numbers name ys)) (rest (rw t at f))

  pub found_among : (test : Entry → Bool) (e : Entry) (es : List Entry) → find test es ≡ Some e → is_among (named name e) (numbers name es) ≡ true
  found_among test e [] f = absurd (cc)
  found_among test e (y ∷ ys) f = found_step test e y ys (found_among test e ys) (test y) refl f

  -- what isn't among them isn't among some of them
  filter_step : (c : ℕ) (on : Entry → Bool) (y : Entry) (ys : List Entry) → (is_among c (numbers name ys) ≡ false → is_among c (numbers name (filter on ys)) ≡ false) → (b : Bool) → on y ≡ b → is_among c (numbers name (y ∷ ys)) ≡ false
      → is_among c (numbers name (filter on (y ∷ ys))) ≡ false
  filter_step c on y ys rest true o n =
      let p : ((named name y == c) ≡ false) × (is_among c (numbers name ys) ≡ false) = or_parts (named name y == c) (is_among c (numbers name ys)) n in
      rw o (or_from (named name y == c) (is_among c (numbers name (filter on ys))) p.0 (rest p.1))
  filter_step c on y ys rest false o n = rw o (rest (or_parts (named name y == c) (is_among c (numbers name ys)) n).1)

  pub among_filter : (c : ℕ) (on : Entry → Bool) (es : List Entry) → is_among c (numbers name es) ≡ false → is_among c (numbers name (filter on es)) ≡ false
  among_filter c on [] n = refl
  among_filter c on (y ∷ ys) n = filter_step c on y ys (among_filter c on ys) (on y) refl n

  -- an end that is found and isn't on the link has another number than those on it
  others_step : (test on : Entry → Bool) (e y : Entry) (ys : List Entry) → on e ≡ false → (find test ys ≡ Some e → is_among (named name e) (numbers name (filter on ys)) ≡ false) → is_among (named name y) (numbers name ys) ≡ false
      → (b c : Bool) → test y ≡ b → on y ≡ c → find test (y ∷ ys) ≡ Some e → is_among (named name e) (numbers name (filter on (y ∷ ys))) ≡ false
  others_step test on e y ys off rest apart true c t o f =
      let r : Some y ≡ Some e = rw t at f in
      let same : y ≡ e = some_is y e r in
      let away : on y ≡ false = ap on same ∙ off in
      let none : is_among (named name e) (numbers name ys) ≡ false = subst (λ (z : Entry). is_among (named name z) (numbers name ys) ≡ false) same apart in
      rw away (among_filter _ on ys none)
  others_step test on e y ys off rest apart false true t o f =
      let r : find test ys ≡ Some e = rw t at f in
      let other : (named name y == named name e) ≡ false
      = ne_eqb (named name y) (named name e) (λ same. unlike (is_among (named name e) (numbers name ys)) (found_among test e ys r) (ap (λ (n : ℕ). is_among n (numbers name ys)) (sym same) ∙ apart)) in
      rw o (or_from (named name y == named name e) (is_among (named name e) (numbers name (filter on ys))) other (rest r))
  others_step test on e y ys off rest apart false false t o f = rw o (rest (rw t at f))

  pub others : (test on : Entry → Bool) (e : Entry) (es : List Entry) → on e ≡ false → AreApart (numbers name es) → find test es ≡ Some e → is_among (named name e) (numbers name (filter on es)) ≡ false
  others test on e [] off a f = absurd (cc)
  others test on e (y ∷ ys) off a f = others_step test on e y ys off (others test on e ys off a.1) a.0 (test y) (on y) refl refl f

  -- some of them are apart too
  apart_step : (keep : Entry → Bool) (y : Entry) (ys : List Entry) → AreApart (numbers name (filter keep ys)) → is_among (named name y) (numbers name ys) ≡ false → (b : Bool) → keep y ≡ b → AreApart (numbers name (filter keep (y ∷ ys)))
  apart_step keep y ys rest n true k = rw k (among_filter _ keep ys n, rest)
  apart_step keep y ys rest n false k = rw k rest

  pub apart_filter : (keep : Entry → Bool) (es : List Entry) → AreApart (numbers name es) → AreApart (numbers name (filter keep es))
  apart_filter keep [] a = tt
  apart_filter keep (y ∷ ys) a = apart_step keep y ys (apart_filter keep ys a.1) a.0 (keep y) refl

  among_append : (c : ℕ) (es : List Entry) (e : Entry) → is_among c (numbers name es) ≡ false → (named name e == c) ≡ false → is_among c (numbers name (es ++ e ∷ [])) ≡ false
  among_append c [] e n f = or_from (named name e == c) false f refl
  among_append c (y ∷ ys) e n f =
      let p : ((named name y == c) ≡ false) × (is_among c (numbers name ys) ≡ false) = or_parts (named name y == c) (is_among c (numbers name ys)) n in
      or_from (named name y == c) (is_among c (numbers name (ys ++ e ∷ []))) p.0 (among_append c ys e p.1 f)

  pub turned : (c d : ℕ) → (c == d) ≡ false → (d == c) ≡ false
  turned c d e = ne_eqb d c (λ same. not_like c d e (sym same))

  pub apart_append : (es : List Entry) (e : Entry) → AreApart (numbers name es) → is_among (named name e) (numbers name es) ≡ false → AreApart (numbers name (es ++ e ∷ []))
  apart_append [] e a n = (refl, tt)
  apart_append (y ∷ ys) e a n =
      let p : ((named name y == named name e) ≡ false) × (is_among (named name e) (numbers name ys) ≡ false) = or_parts (named name y == named name e) (is_among (named name e) (numbers name ys)) n in
      (among_append _ ys e a.0 (turned _ _ p.0), apart_append ys e a.1 p.1)

  -- a change that leaves the sockets leaves the numbers
  changed_step : (test : Entry → Bool) (change : Entry → Entry) (y : Entry) (ys : List Entry) → ((x : Entry) → named name (change x) ≡ named name x) → numbers name (changed_first test change ys) ≡ numbers name ys → (b : Bool) → test y ≡ b
      → numbers name (changed_first test change (y ∷ ys)) ≡ numbers name (y ∷ ys)
  changed_step test change y ys same rest true t = rw t (ap (λ (n : ℕ). n ∷ numbers name ys) (same y))
  changed_step test change y ys same rest false t = rw t (ap (λ (ns : List ℕ). named name y ∷ ns) rest)

  pub numbers_changed : (test : Entry → Bool) (change : Entry → Entry) (es : List Entry) → ((x : Entry) → named name (change x) ≡ named name x) → numbers name (changed_first test change es) ≡ numbers name es
  numbers_changed test change [] same = refl
  numbers_changed test change (y ∷ ys) same = changed_step test change y ys same (numbers_changed test change ys same) (test y) refl

  pub apart_changed : (test : Entry → Bool) (change : Entry → Entry) (es : List Entry) → ((x : Entry) → named name (change x) ≡ named name x) → AreApart (numbers name es) → AreApart (numbers name (changed_first test change es))
  apart_changed test change es same a = subst AreApart (sym (numbers_changed test change es same)) a

  pub numbers_mapped : (g : Entry → Entry) (es : List Entry) → ((x : Entry) → named name (g x) ≡ named name x) → numbers name (map g es) ≡ numbers name es
  numbers_mapped g [] same = refl
  numbers_mapped g (y ∷ ys) same = ap (λ (n : ℕ). n ∷ numbers name (map g ys)) (same y) ∙ ap (λ (ns : List ℕ). named name y ∷ ns) (numbers_mapped g ys same)

-- ---- other names

same_tail : (c d : ℕ) (cs ds : List ℕ) → c ∷ cs ≡ d ∷ ds → (c ≡ d) × (cs ≡ ds)
same_tail c d cs ds e = (cc, cc)

module _ (name other : ℕ → ℕ → ℕ) where
  same_step : (on : Entry → Bool) (y : Entry) (ys : List Entry) → numbers other (filter on ys) ≡ numbers name (filter on ys) → named other y ≡ named name y → (b : Bool) → on y ≡ b → numbers other (filter on (y ∷ ys)) ≡ numbers name (filter on (y ∷ ys))
  same_step on y ys rest same true o = rw o (ap (λ (n : ℕ). n ∷ numbers other (filter on ys)) same ∙ ap (λ (ns : List ℕ). named name y ∷ ns) rest)
  same_step on y ys rest same false o = rw o rest

  same_filter : (on : Entry → Bool) (es : List Entry) → numbers other es ≡ numbers name es → numbers other (filter on es) ≡ numbers name (filter on es)
  same_filter on [] e = refl
  same_filter on (y ∷ ys) e =
      let p : (named other y ≡ named name y) × (numbers other ys ≡ numbers name ys) = same_tail _ _ _ _ e in
      same_step on y ys (same_filter on ys p.1) p.0 (on y) refl

  receiver_renamed : (xs : List Entry) (r : Receiver) → numbers other xs ≡ numbers name xs → AreReceiver name xs r → AreReceiver other xs r
  receiver_renamed [] r e h = h
  receiver_renamed (x ∷ []) r e h = subst (λ (c : ℕ). IsReceiver c x r) (sym (same_tail _ _ [] [] e).0) h
  receiver_renamed (x ∷ y ∷ ys) r e h = h

  sender_renamed : (xs : List Entry) (s : Sender) → numbers other xs ≡ numbers name xs → AreSender name xs s → AreSender other xs s
  sender_renamed [] s e h = h
  sender_renamed (x ∷ []) s e (inl i) = inl (subst (λ (c : ℕ). IsSender c x s) (sym (same_tail _ _ [] [] e).0) i)
  sender_renamed (x ∷ []) s e (inr n) = inr n
  sender_renamed (x ∷ y ∷ ys) s e h = h

  known_renamed : (es : List Entry) (s : Sender) → numbers other es ≡ numbers name es → AreKnown name es s → AreKnown other es s
  known_renamed [] s e k = tt
  known_renamed (y ∷ ys) s e k =
      let p : (named other y ≡ named name y) × (numbers other ys ≡ numbers name ys) = same_tail _ _ _ _ e in
      (λ i. subst (λ (c : ℕ). IsKnown c y s) (sym p.0) (k.0 i), known_renamed ys s p.1 k.1)

  -- the same ends are the law's by any names that are the same for them
  pub received_renamed : (link : ℕ) (es : List Entry) (r : Receiver) → numbers other es ≡ numbers name es → HasReceiver name link es r → HasReceiver other link es r
  received_renamed link es r e h = receiver_renamed _ r (same_filter _ es e) h

  pub sent_renamed : (link : ℕ) (es : List Entry) (s : Sender) → numbers other es ≡ numbers name es → IsSending name link es s → IsSending other link es s
  sent_renamed link es s e h = record { here = sender_renamed _ s (same_filter _ es e) h.here; known = known_renamed es s e h.known }

  pub sound_renamed : (es : List Entry) → numbers other es ≡ numbers name es → AreSound name es → AreSound other es
  sound_renamed es e s = record { formed = s.formed; apart = subst AreApart (sym e) s.apart }
