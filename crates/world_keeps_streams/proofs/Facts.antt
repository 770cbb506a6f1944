-- Small facts of truth values, numbers and lists.
pub use Rattle.std.proofs.lemmas.Bool.{false≢true as untrue, true≢false as unfalse}
pub use Rattle.world_keeps_lives.proofs.lemmas.{no as clash}
use Rattle.std.proofs.Common.{◌≡◌, ◌≤◌, ◌==◌, ◌&&◌, not, ℕ, suc, Bool, true, false, if◌then◌else◌, List, [], ◌∷◌, length, refl, ap, arith}
use Rattle.std.proofs.lemmas.Bool.{ne_eqb}

pub middle_off : (a b c : Bool) → b ≡ false → (a && b && c) ≡ false
middle_off true b c e = ap (λ (v : Bool). v && c) e
middle_off false b c e = refl

pub last_off : (u v w : Bool) → (u && not v && not w) ≡ true → w ≡ false
last_off u v false e = refl
last_off false v true e = absurd (untrue e)
last_off true true true e = absurd (untrue e)
last_off true false true e = absurd (untrue e)

pub no_zero : (n : ℕ) → (suc n == 0) ≡ false
no_zero n = ne_eqb (suc n) 0 (λ e. absurd (cc))

pub none_long : (ts : List (List Bool)) → length ts ≤ 0 → ts ≡ []
none_long [] l = refl
none_long (t ∷ ts) l = absurd (omega (arith, l))

pub some_long : (t : List Bool) (ts : List (List Bool)) → 1 ≤ length (t ∷ ts)
some_long t ts = omega arith

pub own_if : {A : Type 0} (b : Bool) (xs ys : List A) → b ≡ true → (if b then xs else ys) ≡ xs
own_if true xs ys e = refl
own_if false xs ys e = absurd (untrue e)
