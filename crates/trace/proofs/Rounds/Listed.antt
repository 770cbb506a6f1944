-- Elementary events, round by round.
use Rattle.trace.proofs.Common.{◌≡◌, ◌==◌, ℕ, Bool, true, false, List, [], ◌∷◌, ◌++◌, refl, sym, ap, ◌∙◌, Element}
use Rattle.std.proofs.lemmas.Bool.{eq-eqb, false≢true}
use Rattle.trace.specs.Elements.{begins_in, by_round, with_first}

-- all are of this round
abbrev pub AllIn : ℕ → List Element → Type 0
AllIn round [] = Unit {0}
AllIn round (x ∷ xs) = (x.round ≡ round) × AllIn round xs

pub one_more_in : (round : ℕ) (xs : List Element) (x : Element) → AllIn round xs → x.round ≡ round
    → AllIn round (xs ++ x ∷ [])
one_more_in round [] x all is = (is, tt)
one_more_in round (y ∷ xs) x all is = (all.0, one_more_in round xs x all.1 is)

alone : (x : Element) (rounds : List (List Element)) → with_first false x rounds ≡ (x ∷ []) ∷ rounds
alone x [] = refl
alone x (round ∷ rounds) = refl

-- ---- a whole round

-- and then those after it
pub whole_round : (round : ℕ) (x : Element) (xs rest : List Element) → AllIn round (x ∷ xs)
    → begins_in round rest ≡ false → by_round (x ∷ (xs ++ rest)) ≡ (x ∷ xs) ∷ by_round rest
whole_round round x [] rest all other =
    ap (λ (b : Bool). with_first b x (by_round rest)) (ap (λ (n : ℕ). begins_in n rest) all.0 ∙ other)
    ∙ alone x (by_round rest)
whole_round round x (y ∷ xs) rest all other =
    let same : (y.round == x.round) ≡ true = eq-eqb y.round x.round (all.1.0 ∙ sym all.0) in
    ap (λ (b : Bool). with_first b x (by_round (y ∷ (xs ++ rest)))) same
    ∙ ap (λ (rounds : List (List Element)). with_first true x rounds) (whole_round round y xs rest all.1 other)

-- as it was gone through
pub round_over : (round : ℕ) (all done rest : List Element) → all ≡ done ++ rest → AllIn round done
    → begins_in round all ≡ true → begins_in round rest ≡ false
    → by_round all ≡ done ∷ by_round rest
round_over round all [] rest parts are begins other =
    absurd (false≢true (sym other ∙ ap (begins_in round) (sym parts) ∙ begins))
round_over round all (x ∷ done) rest parts are begins other = ap by_round parts
    ∙ whole_round round x done rest are other

-- ---- a round that is begun

-- a list of rounds that begins with this one
pub record Begins (rounds : List (List Element)) (front : List Element) (x : Element) : Type 0 where
  pub more : List Element
  pub later : List (List Element)
  pub is : rounds ≡ (front ++ x ∷ more) ∷ later

first_begins : (same : Bool) (x : Element) (rounds : List (List Element)) → Begins (with_first same x rounds) [] x
first_begins same x [] = record { more = []; later = []; is = refl }
first_begins true x (round ∷ rounds) = record { more = round; later = rounds; is = refl }
first_begins false x (round ∷ rounds) = record { more = []; later = round ∷ rounds; is = refl }

goes_on_in : (round : ℕ) (y : Element) (done : List Element) (x : Element) (rest : List Element) → y.round ≡ round
    → AllIn round done → x.round ≡ round → begins_in y.round (done ++ x ∷ rest) ≡ true
goes_on_in round y [] x rest first all is = eq-eqb x.round y.round (is ∙ sym first)
goes_on_in round y (z ∷ done) x rest first all is = eq-eqb z.round y.round (all.0 ∙ sym first)

-- some of its elementary events, and one more
pub round_begun : (round : ℕ) (done : List Element) (x : Element) (rest : List Element) → AllIn round done
    → x.round ≡ round → Begins (by_round (done ++ x ∷ rest)) done x
round_begun round [] x rest all is = first_begins _ x _
round_begun round (y ∷ done) x rest all is =
    let h : Begins (by_round (done ++ x ∷ rest)) done x = round_begun round done x rest all.1 is in
    record {
      more = h.more;
      later = h.later;
      is =
          ap (λ (b : Bool). with_first b y (by_round (done ++ x ∷ rest)))
          (goes_on_in round y done x rest all.0 all.1 is)
          ∙ ap (λ (rounds : List (List Element)). with_first true y rounds) h.is;
    }
