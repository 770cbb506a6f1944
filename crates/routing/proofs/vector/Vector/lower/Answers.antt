use Rattle.std.proofs.Common.{◌≡◌, ℕ, List, refl, arith, ap, subst, sym, ◌∙◌, min, get_or, slice_set}
use Rattle.std.proofs.lemmas.List.{length-set}
use Rattle.routing.proofs.VectorLemmas.{lowered_more, left_more}
use Rattle.routing.proofs.vector.Vector.lower.Goals as goal

pub loop-place-init : goal.loop-place-init
loop-place-init c = record { one_each = c.told-least; lowered = λ k below. absurd (omega (arith, below)); left = λ k from. refl }

pub loop-place-preserved : goal.loop-place-preserved
loop-place-preserved c =
    let told : List ℕ = c.args.self.now in
    let lower : c.min.result ≡ min (get_or c.loop-place.least c.loop-place.place 0) (get_or told c.loop-place.place 0) =
    c.min.ensures ∙ ap (λ (distances : List ℕ). min (get_or c.loop-place.least c.loop-place.place 0) (get_or distances c.loop-place.place 0)) c.self.view_is in
    record {
      one_each = omega (arith, length-set {A = ℕ} c.loop-place.least c.loop-place.place c.min.result);
      lowered = λ k below. subst (λ (v : ℕ). get_or (slice_set c.loop-place.least c.loop-place.place v) k 0 ≡ min (get_or c.args.least.now k 0) (get_or told k 0)) (sym lower)
          (lowered_more c.args.least.now told c.loop-place.least c.loop-place.place (omega arith) c.loop-place.invariant.lowered c.loop-place.invariant.left k below);
      left = λ k from. left_more c.args.least.now c.loop-place.least c.loop-place.place c.min.result c.loop-place.invariant.left k from;
    }

pub returns-clause-lowered : goal.returns-clause-lowered
returns-clause-lowered c = λ place below. c.loop-place.invariant.lowered place (omega (arith, below))
