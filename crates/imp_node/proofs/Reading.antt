-- Reading and writing the parts of an IMP.
use Rattle.imp_node.proofs.Common.{Standing}
use Rattle.std.proofs.Common.{◌≡◌, ℕ, ◌==◌, Bool, true, false, List, get_or, set, Option, Some, None, refl, ap, eqb, cond}
use Rattle.std.proofs.lemmas.List.{set-get_or}
use Rattle.std.proofs.lemmas.Bool.{eq-eqb, eqb-true}
use Rattle.link_table.specs.Flows.{outstanding_in, release_in}
use Rattle.link_table.specs.declared.source.Standing.TheVariants as standing
use Rattle.link_table.specs.declared.source.Release.TheVariants as release

-- writing what was there changes nothing; there is nothing to write past the end
pub set_same : {X : Type 0} (xs : List X) (i : ℕ) (d : X) → set xs i (get_or xs i d) ≡ xs
set_same xs i d = set-get_or xs i d

-- an answer frees a flow with its outstanding number
pub freed_with : (s : Option Standing) (n : ℕ) → outstanding_in s ≡ Some n → release_in n s ≡ release.Freed
freed_with None n e = cc
freed_with (Some (standing.Idle l)) n e = cc
freed_with (Some (standing.Answered l)) n e = cc
freed_with (Some (standing.Outstanding l)) n e =
    let same : l ≡ n = cc in
    let yes : (l == n) ≡ true = eq-eqb l n same in
    rw yes refl

stale_by : (b : Bool) (l n : ℕ) → eqb l n ≡ b → (Some l ≡ Some n → ⊥) → cond b release.Freed release.Stale ≡ release.Stale
stale_by true l n e other = absurd (other (ap Some (eqb-true l n e)))
stale_by false l n e other = refl

-- and no flow with another number

pub stale_with : (s : Option Standing) (n : ℕ) → (outstanding_in s ≡ Some n → ⊥) → release_in n s ≡ release.Stale
stale_with None n e = refl
stale_with (Some (standing.Idle l)) n e = refl
stale_with (Some (standing.Answered l)) n e = refl
stale_with (Some (standing.Outstanding l)) n e = stale_by _ l n refl e
