-- What one host said and heard of a connection, and its end of it: they fit one another. And what comes next from the peer fits
-- the end.
use Rattle.std.proofs.Common.{◌≡◌, ◌⊎◌, ℕ, ◌+◌, ◌<◌, ◌≤◌, Bool, true, false, not, ◌&&◌, ◌||◌, List, [], ◌∷◌, Option, Some, None, is_some, refl, ap, sym, subst, ◌∙◌, inl, inr, if◌then◌else◌, eq-or-lt_of_le, arith}
use Rattle.std.proofs.lemmas.Bool.{and_parts}
use Rattle.std.proofs.lemmas.Option.{same_Some}
use Rattle.pairing_law.specs.Marks.{Mark, Ask, Close, closes, Asks, IsOlder}
use Rattle.pairing_law.specs.Ends.{End, nothing, is_begun, MayGo, gone, fits, mark_taken}
use Rattle.pairing_law.proofs.Words.{asks_said, closes_said, asks_before, Grows, asks_apart}
use Rattle.interface.proofs.lemmas.{not_true}

abbrev pub count : Bool → ℕ
count true = 1
count false = 0

abbrev pub IsAsked : ℕ → List Mark → Type 0
IsAsked k word = (p : ℕ) × Asks k p word

-- the end is that of connection `now`, counted from 0; those before are closed both ways
pub record Balanced (s t : List Mark) (e : End) : Type 0 where
  pub now : ℕ
  pub said : closes s ≡ now + count e.gone
  pub heard : closes t ≡ now + count e.taken
  -- it is over once a CLS has passed both ways
  pub half : count e.gone + count e.taken ≤ 1
  pub asked_at : (p : ℕ) → e.asked ≡ Some p → Asks now p s
  pub asked_is : (p : ℕ) → Asks now p s → e.asked ≡ Some p
  pub partner_at : (p : ℕ) → e.partner ≡ Some p → Asks now p t
  pub partner_is : (p : ℕ) → Asks now p t → e.partner ≡ Some p
  -- it asks once for each connection
  pub single : (k p q : ℕ) → Asks k p s → Asks k q s → p ≡ q
  pub within : (k p : ℕ) → Asks k p s → k ≤ now
  pub within_heard : (k p : ℕ) → Asks k p t → k ≤ now
  -- what it closed was asked for
  pub grounds : (k : ℕ) → k < closes s → IsAsked k s ⊎ IsAsked k t

pub none_some : (o : Option ℕ) (p : ℕ) → o ≡ None → o ≡ Some p → ⊥
none_some o p e f = let both : None ≡ Some p = sym e ∙ f in absurd (cc)

pub balanced_nothing : Balanced [] [] nothing
balanced_nothing = record {
  now = 0;
  said = refl;
  heard = refl;
  half = omega arith;
  asked_at = λ p e. absurd (cc);
  asked_is = λ p a. absurd a;
  partner_at = λ p e. absurd (cc);
  partner_is = λ p a. absurd a;
  single = λ k p q a b. absurd a;
  within = λ k p a. absurd a;
  within_heard = λ k p a. absurd a;
  grounds = λ k l. absurd (omega (arith, l));
}

-- ---- what is said

said_ask : (p : ℕ) (s t : List Mark) (e : End) → Balanced s t e → e.asked ≡ None → e.gone ≡ false → Balanced (Ask p ∷ s) t (record e { asked = Some p })
said_ask p s t e b none still =
    let zero_gone : count e.gone ≡ 0 = ap count still in
    let here : closes s ≡ b.now = (let h : closes s ≡ b.now + count e.gone = b.said in omega (arith, h, zero_gone)) in
    let other : (k q : ℕ) → k ≡ closes s → Asks k q s → ⊥ = λ k q same a. none_some e.asked q none (b.asked_is q (subst (λ (j : ℕ). Asks j q s) (same ∙ here) a)) in
    record {
      now = b.now;
      said = b.said;
      heard = b.heard;
      half = b.half;
      asked_at = λ q same. inl (sym (same_Some p q same), sym here);
      asked_is = λ q a. elim a [
        | inl new ↦ ap (λ (r : ℕ). Some r) (sym new.0)
        | inr old ↦ absurd (none_some _ q none (b.asked_is q old))
      ];
      partner_at = b.partner_at;
      partner_is = b.partner_is;
      single = λ k q r a c. elim a [
        | inl new ↦ elim c [
          | inl same ↦ (new.0 ∙ sym same.0)
          | inr old ↦ absurd (other k r new.1 old)
        ]
        | inr old ↦ elim c [
          | inl new ↦ absurd (other k q new.1 old)
          | inr same ↦ b.single k q r old same
        ]
      ];
      within = λ k q a. elim a [
        | inl new ↦ (let h : k ≡ closes s = new.1 in omega (arith, h, here))
        | inr old ↦ b.within k q old
      ];
      within_heard = b.within_heard;
      grounds = λ k l. elim (b.grounds k l) [
        | inl own ↦ inl (own.0, inr own.1)
        | inr other ↦ inr other
      ];
    }

-- what was asked for has grounds
begun_grounds : (now : ℕ) (s t : List Mark) (o r : Option ℕ) → ((p : ℕ) → o ≡ Some p → Asks now p s) → ((p : ℕ) → r ≡ Some p → Asks now p t) → (is_some o || is_some r) ≡ true → IsAsked now s ⊎ IsAsked now t
begun_grounds now s t (Some p) r f g e = inl (p, f p refl)
begun_grounds now s t None (Some q) f g e = inr (q, g q refl)
begun_grounds now s t None None f g e = absurd (cc)

closed_grounds : (s t : List Mark) (e : End) (b : Balanced s t e) → is_begun e ≡ true → e.gone ≡ false → (k : ℕ) → k < closes s + 1 → IsAsked k s ⊎ IsAsked k t
closed_grounds s t e b begun still k l =
    let zero_gone : count e.gone ≡ 0 = ap count still in
    let at_most : k ≤ closes s = omega (arith, l) in
    elim (eq-or-lt_of_le at_most) [
      | inl same ↦
          (let here : b.now ≡ k = (let h : closes s ≡ b.now + count e.gone = b.said in omega (arith, h, zero_gone, same)) in
          subst (λ (j : ℕ). IsAsked j s ⊎ IsAsked j t) here (begun_grounds b.now s t _ _ b.asked_at b.partner_at begun))
      | inr less ↦ b.grounds k less
    ]

said_close : (s t : List Mark) (e : End) → Balanced s t e → is_begun e ≡ true → e.gone ≡ false → e.taken ≡ false → Balanced (Close ∷ s) t (record e { gone = true })
said_close s t e b begun still quiet =
    let zero_gone : count e.gone ≡ 0 = ap count still in
    let zero_taken : count e.taken ≡ 0 = ap count quiet in
    record {
      now = b.now;
      said = (let h : closes s ≡ b.now + count e.gone = b.said in omega (arith, h, zero_gone));
      heard = b.heard;
      half = omega (arith, zero_taken);
      asked_at = b.asked_at;
      asked_is = b.asked_is;
      partner_at = b.partner_at;
      partner_is = b.partner_is;
      single = b.single;
      within = b.within;
      within_heard = b.within_heard;
      grounds = closed_grounds s t e b begun still;
    }

-- the next connection
next_of : (s t : List Mark) (now : ℕ) → closes s ≡ now + 1 → closes t ≡ now + 1 → ((k p q : ℕ) → Asks k p s → Asks k q s → p ≡ q) → ((k p : ℕ) → Asks k p s → k ≤ now) → ((k p : ℕ) → Asks k p t → k ≤ now)
    → ((k : ℕ) → k < closes s → IsAsked k s ⊎ IsAsked k t) → Balanced s t nothing
next_of s t now said heard single within within_heard grounds = record {
  now = now + 1;
  said = omega (arith, said);
  heard = omega (arith, heard);
  half = omega arith;
  asked_at = λ p e. absurd (cc);
  asked_is = λ p a. absurd (let l : now + 1 ≤ now = within (now + 1) p a in omega (arith, l));
  partner_at = λ p e. absurd (cc);
  partner_is = λ p a. absurd (let l : now + 1 ≤ now = within_heard (now + 1) p a in omega (arith, l));
  single = single;
  within = λ k p a. let l : k ≤ now = within k p a in omega (arith, l);
  within_heard = λ k p a. let l : k ≤ now = within_heard k p a in omega (arith, l);
  grounds = grounds;
}

said_last : (s t : List Mark) (e : End) → Balanced s t e → is_begun e ≡ true → e.gone ≡ false → e.taken ≡ true → Balanced (Close ∷ s) t nothing
said_last s t e b begun still quiet =
    let zero_gone : count e.gone ≡ 0 = ap count still in
    let one_taken : count e.taken ≡ 1 = ap count quiet in
    let said : closes s + 1 ≡ b.now + 1 = (let h : closes s ≡ b.now + count e.gone = b.said in omega (arith, h, zero_gone)) in
    let heard : closes t ≡ b.now + 1 = (let h : closes t ≡ b.now + count e.taken = b.heard in omega (arith, h, one_taken)) in
    next_of _ t b.now said heard b.single b.within b.within_heard (closed_grounds s t e b begun still)

pub balanced_says : (m : Mark) (s t : List Mark) (e : End) → MayGo m e → Balanced s t e → Balanced (m ∷ s) t (gone m e)
balanced_says (Ask p) s t e may b = said_ask p s t e b may.0 may.1
balanced_says Close s t e may b = by e.taken refl where
  by : (v : Bool) → e.taken ≡ v → Balanced (Close ∷ s) t (if v then nothing else record e { gone = true })
  by true h = said_last s t e b may.0 may.1 h
  by false h = said_close s t e b may.0 may.1 h

-- ---- what is heard

heard_ask : (p : ℕ) (s t : List Mark) (e : End) → Balanced s t e → e.partner ≡ None → e.taken ≡ false → Balanced s (Ask p ∷ t) (record e { partner = Some p })
heard_ask p s t e b none still =
    let zero_taken : count e.taken ≡ 0 = ap count still in
    let here : closes t ≡ b.now = (let h : closes t ≡ b.now + count e.taken = b.heard in omega (arith, h, zero_taken)) in
    record {
      now = b.now;
      said = b.said;
      heard = b.heard;
      half = b.half;
      asked_at = b.asked_at;
      asked_is = b.asked_is;
      partner_at = λ q same. inl (sym (same_Some p q same), sym here);
      partner_is = λ q a. elim a [
        | inl new ↦ ap (λ (r : ℕ). Some r) (sym new.0)
        | inr old ↦ absurd (none_some _ q none (b.partner_is q old))
      ];
      single = b.single;
      within = b.within;
      within_heard = λ k q a. elim a [
        | inl new ↦ (let h : k ≡ closes t = new.1 in omega (arith, h, here))
        | inr old ↦ b.within_heard k q old
      ];
      grounds = λ k l. elim (b.grounds k l) [
        | inl own ↦ inl own
        | inr other ↦ inr (other.0, inr other.1)
      ];
    }

heard_close : (s t : List Mark) (e : End) → Balanced s t e → e.gone ≡ false → e.taken ≡ false → Balanced s (Close ∷ t) (record e { taken = true })
heard_close s t e b still quiet =
    let zero_gone : count e.gone ≡ 0 = ap count still in
    let zero_taken : count e.taken ≡ 0 = ap count quiet in
    record {
      now = b.now;
      said = b.said;
      heard = (let h : closes t ≡ b.now + count e.taken = b.heard in omega (arith, h, zero_taken));
      half = omega (arith, zero_gone);
      asked_at = b.asked_at;
      asked_is = b.asked_is;
      partner_at = b.partner_at;
      partner_is = b.partner_is;
      single = b.single;
      within = b.within;
      within_heard = b.within_heard;
      grounds = b.grounds;
    }

heard_last : (s t : List Mark) (e : End) → Balanced s t e → e.gone ≡ true → e.taken ≡ false → Balanced s (Close ∷ t) nothing
heard_last s t e b closed quiet =
    let one_gone : count e.gone ≡ 1 = ap count closed in
    let zero_taken : count e.taken ≡ 0 = ap count quiet in
    let said : closes s ≡ b.now + 1 = (let h : closes s ≡ b.now + count e.gone = b.said in omega (arith, h, one_gone)) in
    let heard : closes t + 1 ≡ b.now + 1 = (let h : closes t ≡ b.now + count e.taken = b.heard in omega (arith, h, zero_taken)) in
    next_of s _ b.now said heard b.single b.within b.within_heard b.grounds

not_some : (o : Option ℕ) → not (is_some o) ≡ true → o ≡ None
not_some (Some p) e = absurd (cc)
not_some None e = refl

pub fits_ask : (p : ℕ) (e : End) → fits (Ask p) e ≡ true → (e.partner ≡ None) × (e.taken ≡ false)
fits_ask p e f = let h : (not (is_some e.partner) ≡ true) × (not e.taken ≡ true) = and_parts (not (is_some e.partner)) (not e.taken) f in (not_some _ h.0, not_true _ h.1)

pub balanced_hears : (m : Mark) (s t : List Mark) (e : End) → fits m e ≡ true → Balanced s t e → Balanced s (m ∷ t) (mark_taken m e)
balanced_hears (Ask p) s t e f b = let h : (e.partner ≡ None) × (e.taken ≡ false) = fits_ask p e f in heard_ask p s t e b h.0 h.1
balanced_hears Close s t e f b = by e.gone refl where
  quiet : e.taken ≡ false
  quiet = not_true _ (and_parts (is_begun e) (not e.taken) f).1

  by : (v : Bool) → e.gone ≡ v → Balanced s (Close ∷ t) (if v then nothing else record e { taken = true })
  by true h = heard_last s t e b h quiet
  by false h = heard_close s t e b h quiet

-- ---- what comes next fits

count_none : (v : Bool) → count v ≡ 0 → v ≡ false
count_none true e = absurd (omega (arith, e))
count_none false e = refl

begun_either : (o r : Option ℕ) (p : ℕ) → (o ≡ Some p) ⊎ (r ≡ Some p) → (is_some o || is_some r) ≡ true
begun_either (Some q) r p h = refl
begun_either None (Some q) p h = refl
begun_either None None p (inl e) = absurd (cc)
begun_either None None p (inr e) = absurd (cc)

close_fits : (sa ta sb tb : List Mark) (ea eb : End) (a : Balanced sa ta ea) (b : Balanced sb tb eb) → IsOlder (Close ∷ tb) sa → IsOlder ta sb → fits Close eb ≡ true
close_fits sa ta sb tb ea eb a b next back =
    let more : closes tb + 1 ≤ closes sa = closes_said _ sa next in
    let less : closes ta ≤ closes sb = closes_said ta sb back in
    let sa_is : closes sa ≡ a.now + count ea.gone = a.said in
    let ta_is : closes ta ≡ a.now + count ea.taken = a.heard in
    let sb_is : closes sb ≡ b.now + count eb.gone = b.said in
    let tb_is : closes tb ≡ b.now + count eb.taken = b.heard in
    let a_half : count ea.gone + count ea.taken ≤ 1 = a.half in
    let b_half : count eb.gone + count eb.taken ≤ 1 = b.half in
    let none : count eb.taken ≡ 0 = omega (arith, more, less, sa_is, ta_is, sb_is, tb_is, a_half, b_half) in
    let quiet : eb.taken ≡ false = count_none _ none in
    let begun : is_begun eb ≡ true = elim (a.grounds b.now (omega (arith, more, tb_is, none))) [
      | inl own ↦
          (let old : Asks b.now own.0 tb = asks_before b.now own.0 next.0 tb (subst (λ (w : List Mark). Asks b.now own.0 w) next.1 own.1) (omega (arith, tb_is)) in
          begun_either _ _ own.0 (inr (b.partner_is own.0 old)))
      | inr other ↦ begun_either _ _ _ (inl (b.asked_is other.0 (asks_said b.now _ ta sb back other.1)))
    ] in
    rw (begun, quiet) refl

ask_fits : (p : ℕ) (sa ta sb tb : List Mark) (ea eb : End) (a : Balanced sa ta ea) (b : Balanced sb tb eb) → Grows sa → IsOlder (Ask p ∷ tb) sa → IsOlder ta sb → fits (Ask p) eb ≡ true
ask_fits p sa ta sb tb ea eb a b grows next back =
    let there : Asks (closes tb) p sa = asks_said _ p _ sa next (inl (refl, refl)) in
    let early : closes tb ≤ a.now = a.within (closes tb) p there in
    let less : closes ta ≤ closes sb = closes_said ta sb back in
    let ta_is : closes ta ≡ a.now + count ea.taken = a.heard in
    let sb_is : closes sb ≡ b.now + count eb.gone = b.said in
    let tb_is : closes tb ≡ b.now + count eb.taken = b.heard in
    let b_half : count eb.gone + count eb.taken ≤ 1 = b.half in
    let none : count eb.taken ≡ 0 = omega (arith, early, less, ta_is, sb_is, tb_is, b_half) in
    let quiet : eb.taken ≡ false = count_none _ none in
    let here : closes tb ≡ b.now = omega (arith, tb_is, none) in
    let other : (q : ℕ) → eb.partner ≡ Some q → ⊥ = λ q e.
    let old : Asks b.now q tb = b.partner_at q e in
    let same : p ≡ q = a.single b.now p q (subst (λ (k : ℕ). Asks k p sa) here there) (asks_said b.now q _ sa next (inr old)) in
    let before : q < p = asks_apart b.now p q next.0 tb (subst Grows next.1 grows) old in
    omega (arith, same, before) in
    rw (by eb.partner other, quiet) refl
  where
    by : (o : Option ℕ) → ((q : ℕ) → o ≡ Some q → ⊥) → o ≡ None
    by None h = refl
    by (Some q) h = absurd (h q refl)

-- what a host takes next of its peer fits its end
pub next_fits : (m : Mark) (sa ta sb tb : List Mark) (ea eb : End) → Balanced sa ta ea → Balanced sb tb eb → Grows sa → IsOlder (m ∷ tb) sa → IsOlder ta sb → fits m eb ≡ true
next_fits (Ask p) sa ta sb tb ea eb a b grows next back = ask_fits p sa ta sb tb ea eb a b grows next back
next_fits Close sa ta sb tb ea eb a b grows next back = close_fits sa ta sb tb ea eb a b next back
