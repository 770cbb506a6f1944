-- Calls of a carrier as events of a raw network.
use Rattle.world_trace.proofs.Common.{◌≡◌, List, [], ◌∷◌, ◌++◌, ap, arith, refl, subst, All-head, All, Host, RawEvent, first, second, IsOfRound}
use Rattle.world_replay.specs.Driven.{Raw, Round}
use Rattle.world_trace.specs.Carriers.{AreMade}
use Rattle.script.specs.declared.event.RawEvent.TheVariants as raw

pub one_made : AreMade (Raw (raw.Take first) ∷ []) (raw.Take first ∷ [])
one_made = ([], refl, refl)

pub none_made : AreMade (Raw (raw.Take first) ∷ []) [] → ⊥
none_made h = let e = h.1 in absurd (cc)

pub other_made : AreMade (Raw (raw.Take first) ∷ []) (raw.Take second ∷ []) → ⊥
other_made h =
    let e = h.1 in
    let same : second ≡ first = cc in
    let imps : 2 ≡ 1 = ap (λ (g : Host). g.imp) same in
    absurd (omega (arith, imps))

pub none_taken : AreMade (Round ∷ []) (raw.Take first ∷ []) → ⊥
none_taken (quiet, others, own, e, none) = by quiet own (subst (λ (os : List RawEvent). raw.Take first ∷ [] ≡ quiet ++ os) none e) where
  by : (quiet : List RawEvent) → All IsOfRound quiet → raw.Take first ∷ [] ≡ quiet ++ [] → ⊥
  by [] own e = absurd (cc)
  by (q ∷ quiet) own e = let same : q ≡ raw.Take first = cc in subst IsOfRound same (All-head IsOfRound q quiet own)
