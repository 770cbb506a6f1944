-- Words that begin with two hyphens.
use Rattle.std.proofs.Common.{◌≡◌, ℕ, Bool, true, false, [], ◌∷◌, ◌==◌, ◌||◌, Some, None, if◌then◌else◌, take, refl, sym, ap, ◌∙◌, arith, suc}
use Rattle.std.proofs.lemmas.Bool.{false≢true}
use Rattle.std.specs.List.{list_any, before_first, position_or_len}
use Rattle.std.specs.Option.{option_and_then}
use Rattle.clap.specs.Lexer.{long_of, long_of_rest, name_and_value, has_byte, strip_byte}
use Rattle.std.proofs.lemmas.Bool.Decides.{nat_tests}
use Rattle.clap.specs.Walk.{Text}

-- a list in which nothing passes a test is its own prefix
uncut : (p : ℕ → Bool) (xs : Text) → list_any p xs ≡ false → before_first p xs ≡ xs
uncut p [] none = refl
uncut p (x ∷ xs) none = by (p x) refl none (uncut p xs)
  where
    by : (t : Bool) → p x ≡ t → (t || list_any p xs) ≡ false → (list_any p xs ≡ false → before_first p xs ≡ xs) → before_first p (x ∷ xs) ≡ x ∷ xs
    by true e n rest = absurd (false≢true (sym n))
    by false e n rest =
        let longer : position_or_len p (x ∷ xs) ≡ suc (position_or_len p xs) = rw e (omega arith) in
        ap (λ n. take n (x ∷ xs)) longer ∙ ap (λ ys. x ∷ ys) (rest n)

valueless : (t : Bool) (v : Text) → (if t then Some v else None) ≡ None → t ≡ false
valueless true v e = cc
valueless false v e = refl

behind : (text name : Text) → long_of_rest text ≡ Some (name, None) → text ≡ name
behind [] name e = cc
behind (x ∷ xs) name e =
    let pair : name_and_value (x ∷ xs) ≡ (name, None) = cc in
    let front : before_first (λ y. y == 61) (x ∷ xs) ≡ name = ap (λ p. p.0) pair in
    sym (uncut (λ y. y == 61) (x ∷ xs) (valueless (has_byte 61 (x ∷ xs)) _ (ap (λ p. p.1) pair))) ∙ front

-- a word that is read as a name without a value is two hyphens and the name
pub long_is : (word name : Text) → long_of word ≡ Some (name, None) → word ≡ 45 ∷ 45 ∷ name
long_is [] name e = cc
long_is (x ∷ xs) name e = first (x == 45) refl e
  where
    second : (ys : Text) → option_and_then long_of_rest (strip_byte 45 ys) ≡ Some (name, None) → ys ≡ 45 ∷ name
    second [] d = cc
    second (y ∷ ys) d = by (y == 45) refl d
      where
        by : (t : Bool) → (y == 45) ≡ t → option_and_then long_of_rest (if t then Some ys else None) ≡ Some (name, None) → y ∷ ys ≡ 45 ∷ name
        by false f d = cc
        by true f d =
            let same : y ≡ 45 = grind (arith, nat_tests) in
            let rest : ys ≡ name = behind ys name d in
            cc

    first : (t : Bool) → (x == 45) ≡ t → option_and_then long_of_rest (option_and_then (strip_byte 45) (if t then Some xs else None)) ≡ Some (name, None) → x ∷ xs ≡ 45 ∷ 45 ∷ name
    first false f d = cc
    first true f d =
        let same : x ≡ 45 = grind (arith, nat_tests) in
        let rest : xs ≡ 45 ∷ name = second xs d in
        cc
