-- Facts of which only one can hold, and a value that is known twice.
use Rattle.std.proofs.Common.{◌≡◌, Bool, true, false, Some, None, sym, ◌∙◌}

pub no : {A : Type 0} (b : Bool) → b ≡ true → b ≡ false → A
no b e f = absurd (let both : true ≡ false = sym e ∙ f in cc)

pub no_place : {A : Type 0} {X : Type 0} (x : X) → None ≡ Some x → A
no_place x e = absurd (cc)
