-- All elementary events of a round have its number.
use Rattle.trace.proofs.Common.{◌≡◌, ℕ, zero, suc, Bool, true, false, List, [], ◌∷◌, ◌++◌, refl, sym, subst, Host, Element, Course, Giving, all_takings, taking, takings, then_course}
use Rattle.trace.proofs.Courses.{none_given, one_given}
use Rattle.trace.proofs.Rounds.Listed.{AllIn}

abbrev pub IsIn : {S : Type 0} → ℕ → Course S → Type 0
IsIn round c = AllIn round c.elements

both_in : (round : ℕ) (xs ys : List Element) → AllIn round xs → AllIn round ys → AllIn round (xs ++ ys)
both_in round [] ys h k = k
both_in round (x ∷ xs) ys h k = (h.0, both_in round xs ys h.1 k)

pub then_in : {S : Type 0} (round : ℕ) (first : Course S) (next : S → Course S) → IsIn round first
    → ((s : S) → IsIn round (next s)) → IsIn round (then_course first next)
then_in round first next h k = both_in round _ _ h (k first.left)

takings_in : {S : Type 0} (giving : Giving S) (round : ℕ) (h : Host) (times : ℕ) (s : S)
    → IsIn round (takings giving round h times s)
takings_in giving round h zero s = tt
takings_in {S} giving round h (suc times) s =
    by (λ t. takings_in giving round h times t) (giving.is_given s h) refl where
      by : ((t : S) → IsIn round (takings giving round h times t)) → (b : Bool) → giving.is_given s h ≡ b
          → IsIn round (takings giving round h (suc times) s)
      by more true e =
          subst (λ (c : Course S). IsIn round c) (sym (one_given giving round h times s e))
          (then_in round (taking giving round h s) (takings giving round h times) (refl, tt) more)
      by more false e = subst (λ (c : Course S). IsIn round c) (sym (none_given giving round h times s e)) tt

pub all_takings_in : {S : Type 0} (giving : Giving S) (round : ℕ) (hosts : List Host) (s : S)
    → IsIn round (all_takings giving round hosts s)
all_takings_in giving round [] s = tt
all_takings_in giving round (h ∷ hosts) s =
    then_in round _ (all_takings giving round hosts) (takings_in giving round h 16 s)
    (λ t. all_takings_in giving round hosts t)
