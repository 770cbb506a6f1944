-- What is so of no life up to now, by a test that computes. Rows say by it what never was.
use Rattle.world_keeps_lives.proofs.Common.{◌≡◌, zero, suc, Bool, true, false, List, [], ◌∷◌, ◌++◌, if◌then◌else◌, refl, subst, arith, Contains, Moment, kept_in, Life}

-- of none of these lives
unfoldable pub none_has : (Life → Bool) → List Life → Bool
none_has has [] = true
none_has has (x ∷ xs) = if has x then false else none_has has xs

-- of no life up to now
unfoldable pub never_has : (List Moment → Life → Bool) → List Moment → Bool
never_has has [] = true
never_has has (m ∷ ms) = if none_has (has (m ∷ ms)) (kept_in (m ∷ ms)).book.lives then never_has has ms else false

by_two : (a b : Bool) → (if a then b else false) ≡ true → (a ≡ true) × (b ≡ true)
by_two true b e = (refl, e)
by_two false b e = absurd (cc)

not_one : (first others : Bool) → (if first then false else others) ≡ true → (first ≡ false) × (others ≡ true)
not_one true others e = absurd (cc)
not_one false others e = (refl, e)

none_of : (has : Life → Bool) (xs : List Life) (x : Life) → none_has has xs ≡ true → Contains xs x → has x ≡ false
unfolding none_has
none_of has [] x none (k, lt, is) = absurd (omega (arith, lt))
none_of has (y ∷ ys) x none (zero, lt, is) =
    subst (λ (z : Life). has z ≡ false) is (not_one (has y) _ none).0
none_of has (y ∷ ys) x none (suc k, lt, is) =
    none_of has ys x (not_one (has y) _ none).1 (k, omega (arith, lt), is)

module _ (has : List Moment → Life → Bool) where
  pub has_not : (ms : List Moment) (x : Life) → never_has has ms ≡ true → Contains (kept_in ms).book.lives x
      → has ms x ≡ false
  unfolding never_has
  has_not [] x never (k, lt, is) = absurd (omega (arith, lt))
  has_not (m ∷ ms) x never there =
      let now : none_has (has (m ∷ ms)) (kept_in (m ∷ ms)).book.lives ≡ true =
      (by_two _ _ never).0 in
      none_of _ _ x now there

  earlier_too : (m : Moment) (ms : List Moment) → never_has has (m ∷ ms) ≡ true → never_has has ms ≡ true
  unfolding never_has
  earlier_too m ms never = (by_two _ _ never).1

  pub never_earlier : (later earlier : List Moment) → never_has has (later ++ earlier) ≡ true → never_has has earlier ≡ true
  never_earlier [] earlier never = never
  never_earlier (m ∷ later) earlier never = never_earlier later earlier (earlier_too m _ never)
