-- What had gone out for a sending life when a message came in.
use Rattle.book_judge.proofs.Common.{cases_lt, ltb-true, and_from, Flow, Crossing, and_true, Life, texts_by, before, last_out, receives, sent_by, since, Start}
use Rattle.std.proofs.Common.{◌≡◌, ℕ, suc, ◌+◌, ◌-◌, ◌<◌, ◌≤◌, ◌&&◌, Bool, true, false, if◌then◌else◌, List, length, take, drop, reverse, Option, Some, None, refl, ap, sym, subst, ◌∙◌, arith, inl, inr, zero, lt-ltb, [], ◌∷◌}
use Rattle.std.proofs.lemmas.List.{length-reverse, length-take}
use Rattle.promise.specs.Formed.{link_of, flow_of, texts_of, texts_on}
use Rattle.std.specs.Prelude.{max, min, nat_lt}
use Rattle.book_judge.specs.Inside.Starts.{IsStart}
use Rattle.book_judge.proofs.Crossed.Made.{older_texts}
use Rattle.book_judge.proofs.Crossed.Numbers.{LastBy, last_by}
use Rattle.book_judge.proofs.Crossed.TextsBy.{before_take, texts_between, texts_less, texts_past}

took_again : {X : Type 0} (n m : ℕ) (xs : List X) → n ≤ m → take n (take m xs) ≡ take n xs
took_again zero m xs less = refl
took_again (suc n) zero xs less = absurd (omega (arith, less))
took_again (suc n) (suc m) [] less = refl
took_again {X} (suc n) (suc m) (x ∷ xs) less = ap (λ (ys : List X). x ∷ ys) (took_again n m xs (omega (arith, less)))

-- how many messages of a life crossed before a place, by all of its flow
pub count_since : (log : List Crossing) (x : Life) (s : Start) (p : ℕ) → IsStart log x (Some s)
    → length (texts_on x (link_of (reverse log) x) (before p (reverse log)))
    ≡ length (texts_by (receives x) (flow_of x s.link) (take p log)) - s.before
count_since log x s p is =
    let f : Flow = flow_of x s.link in
    let own : length (texts_on x (link_of (reverse log) x) (before p (reverse log)))
    ≡ length (texts_by (receives x) f (drop (since x) (take p log))) = older_texts log x s.link p is.0 in
    let start : s.before ≡ length (texts_by (receives x) f (take (since x) log)) = is.1 in
    elim (cases_lt p (since x)) [
      | inl less ↦
          (let none : length (texts_by (receives x) f (drop (since x) (take p log))) ≡ 0 =
          ap (λ (ts : List (List Bool)). length ts) (texts_past (receives x) f (since x) p log (omega (arith, less))) in
          let fewer : length (texts_by (receives x) f (take p log)) ≤ length (texts_by (receives x) f (take (since x) log)) =
          texts_less (receives x) f p (since x) log (omega (arith, less)) in
          omega (arith, own, none, fewer, start))
      | inr past ↦
          (let parts : length (texts_by (receives x) f (take p log))
          ≡ length (texts_by (receives x) f (take (since x) log)) + length (texts_by (receives x) f (drop (since x) (take p log))) =
          texts_between (receives x) f (since x) p log past in
          omega (arith, own, parts, start))
    ]

module _ (log : List Crossing) (y : Life) (s : Start) (is : IsStart log y (Some s)) (kind : receives y ≡ false) where
  abbrev f : Flow
  f = flow_of y s.link

  abbrev went : List Crossing → ℕ
  went cs = length (texts_of false f y.own_stamp y.partner_stamp cs)

  -- the last message that had gone out at a place did so after the life's requests, and as many of the life before it
  abbrev pub HasSent : ℕ → ℕ → ℕ → Type 0
  HasSent p k out =
      (last_out f (before p (reverse log)) ≡ Some out) × (y.own_stamp < out) × (y.partner_stamp < out)
      × (length (texts_on y (link_of (reverse log) y) (before out (reverse log))) ≡ k)

  gone : (cs : List Crossing) → length (texts_on y (link_of (reverse log) y) cs) ≡ went cs
  gone cs =
      ap (λ (o : Option ℕ). length (texts_on y o cs)) is.0
      ∙ ap (λ (v : Bool). length (texts_of v f y.own_stamp y.partner_stamp cs)) kind

  left : (p : ℕ) → went (before p (reverse log)) ≡ sent_by f log p - s.before
  left p =
      sym (gone (before p (reverse log))) ∙ count_since log y s p is
      ∙ ap (λ (v : Bool). length (texts_by v f (take p log)) - s.before) kind

  inner : (p out : ℕ) → out < length (before p (reverse log)) → before out (before p (reverse log)) ≡ before out (reverse log)
  inner p out there =
      let long : length (before p (reverse log)) ≡ min p (length log) =
      ap (λ (cs : List Crossing). length cs) (before_take log p) ∙ length-reverse (take p log) ∙ length-take p log in
      ap (λ (cs : List Crossing). before out cs) (before_take log p) ∙ before_take (take p log) out
      ∙ ap (λ (cs : List Crossing). reverse cs) (took_again out p log (omega (arith, there, long)))
      ∙ sym (before_take log out)

  pub sent_forth : (p k : ℕ) → sent_by f log p - s.before ≡ suc k → (out : ℕ) × HasSent p k out
  sent_forth p k e = by (last_out f (before p (reverse log))) refl (last_by f y.own_stamp y.partner_stamp (before p (reverse log))) where
    some : went (before p (reverse log)) ≡ suc k
    some = left p ∙ e

    at : (out : ℕ) (t : Bool) → last_out f (before p (reverse log)) ≡ Some out → out < length (before p (reverse log))
        → (nat_lt y.own_stamp out && nat_lt y.partner_stamp out) ≡ t
        → went (before p (reverse log)) ≡ (if t then suc (went (before out (before p (reverse log)))) else 0)
        → (out : ℕ) × HasSent p k out
    at out true g there low all =
        let both = and_true (nat_lt y.own_stamp out) (nat_lt y.partner_stamp out) low in
        let same : went (before out (before p (reverse log))) ≡ went (before out (reverse log)) =
        ap (λ (cs : List Crossing). went cs) (inner p out there) in
        let one : went (before out (reverse log)) ≡ k = omega (arith, same, all, some) in
        (out, (g, ltb-true y.own_stamp out both.0, ltb-true y.partner_stamp out both.1, gone (before out (reverse log)) ∙ one))
    at out false g there low all = absurd (omega (arith, all, some))

    by : (o : Option ℕ) → last_out f (before p (reverse log)) ≡ o
        → LastBy f y.own_stamp y.partner_stamp (before p (reverse log)) o → (out : ℕ) × HasSent p k out
    by None g h = absurd (let none : went (before p (reverse log)) ≡ 0 = h in omega (arith, none, some))
    by (Some out) g h = at out (nat_lt y.own_stamp out && nat_lt y.partner_stamp out) g h.0 refl h.1

  pub sent_back : (p k out : ℕ) → HasSent p k out → sent_by f log p - s.before ≡ suc k
  sent_back p k out has =
      let h : LastBy f y.own_stamp y.partner_stamp (before p (reverse log)) (Some out) =
      subst (λ (o : Option ℕ). LastBy f y.own_stamp y.partner_stamp (before p (reverse log)) o) has.0
      (last_by f y.own_stamp y.partner_stamp (before p (reverse log))) in
      let low : (nat_lt y.own_stamp out && nat_lt y.partner_stamp out) ≡ true =
      and_from (nat_lt y.own_stamp out) (nat_lt y.partner_stamp out) (lt-ltb y.own_stamp out has.1)
      (lt-ltb y.partner_stamp out has.2) in
      let all : went (before p (reverse log)) ≡ suc (went (before out (before p (reverse log)))) =
      h.1 ∙ ap (λ (t : Bool). if t then suc (went (before out (before p (reverse log)))) else 0) low in
      let older : went (before out (before p (reverse log))) ≡ k =
      ap (λ (cs : List Crossing). went cs) (inner p out h.0) ∙ sym (gone (before out (reverse log))) ∙ has.3 in
      let rest : went (before p (reverse log)) ≡ sent_by f log p - s.before = left p in
      omega (arith, all, older, rest)
