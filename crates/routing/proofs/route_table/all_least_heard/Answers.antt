use Rattle.std.proofs.Common.{◌≡◌, ℕ, ◌+◌, ◌≤◌, arith, refl, ap, ◌∙◌, sym, subst, get_or, drop, min, Option, List}
use Rattle.std.proofs.lemmas.List.{get_or-replicate}
use Rattle.interface.specs.Host.{most_imps}
use Rattle.routing.specs.Vector.{infinite}
use Rattle.routing.specs.RouteTable.{heard_distance, least_heard}
use Rattle.routing.proofs.Tables.{least_heard-le, distance_at, distance_past, heard_next}
use Rattle.routing.proofs.route_table.all_least_heard.Goals as goal
use Rattle.routing.proofs.route_table.all_least_heard.Goals.{in-Some, in_default}

pub loop-heard-init : goal.loop-heard-init
loop-heard-init c = record {
  least = λ k there. omega (arith, get_or-replicate most_imps k infinite 0 there, least_heard-le c.args.ports.now (k + 1));
  no_imp = λ imp far. refl;
  most = λ k there. omega (arith, get_or-replicate most_imps k infinite 0 there);
}

pub loop-heard-preserved : goal.loop-heard-preserved
loop-heard-preserved c =
    let ports : List (Option (List ℕ)) = c.args.ports.now in
    let next : (imp : ℕ) → least_heard (drop c.loop-heard.heard-index ports) imp ≡ min (heard_distance c.heard-item.result imp) (least_heard (drop (c.loop-heard.heard-index + 1) ports) imp) =
    λ imp. heard_next ports c.loop-heard.heard-index c.heard-item.result imp c.loop-heard-test.true c.heard-item.is in
    record {
      least = λ k there. elim c.match-heard.branch [
        | in-Some w ↦
            let new : get_or c.match-heard.least k 0 ≡ min (get_or c.loop-heard.least k 0) (get_or w.in-Some.vector k 0) = ap (λ (least : List ℕ). get_or least k 0) w.least-is ∙ w.lower.ensures.lowered k there in
            let heard : heard_distance c.heard-item.result (k + 1) ≡ get_or w.in-Some.vector k 0 =
            ap (λ (heard : Option (List ℕ)). heard_distance heard (k + 1)) w.in-Some.is ∙ distance_at w.in-Some.vector k (omega (arith, there, w.lower.ensures.a_vector.one_each)) in
            omega (arith, new, heard, next (k + 1), c.loop-heard.invariant.least k there)
        | in_default w ↦
            let old : get_or c.match-heard.least k 0 ≡ get_or c.loop-heard.least k 0 = ap (λ (least : List ℕ). get_or least k 0) w.least-is in
            let heard : heard_distance c.heard-item.result (k + 1) ≡ infinite = ap (λ (heard : Option (List ℕ)). heard_distance heard (k + 1)) w.in_default.is in
            omega (arith, old, heard, next (k + 1), c.loop-heard.invariant.least k there, least_heard-le (drop (c.loop-heard.heard-index + 1) ports) (k + 1))
      ];
      no_imp = λ imp far. elim c.match-heard.branch [
        | in-Some w ↦
            let heard : heard_distance c.heard-item.result imp ≡ infinite =
            ap (λ (heard : Option (List ℕ)). heard_distance heard imp) w.in-Some.is ∙ distance_past w.in-Some.vector imp (omega (arith, far, w.lower.ensures.a_vector.one_each)) in
            omega (arith, heard, next imp, c.loop-heard.invariant.no_imp imp far, least_heard-le (drop (c.loop-heard.heard-index + 1) ports) imp)
        | in_default w ↦
            let heard : heard_distance c.heard-item.result imp ≡ infinite = ap (λ (heard : Option (List ℕ)). heard_distance heard imp) w.in_default.is in
            omega (arith, heard, next imp, c.loop-heard.invariant.no_imp imp far, least_heard-le (drop (c.loop-heard.heard-index + 1) ports) imp)
      ];
      most = λ k there. elim c.match-heard.branch [
        | in-Some w ↦
            let new : get_or c.match-heard.least k 0 ≡ min (get_or c.loop-heard.least k 0) (get_or w.in-Some.vector k 0) = ap (λ (least : List ℕ). get_or least k 0) w.least-is ∙ w.lower.ensures.lowered k there in
            omega (arith, new, c.loop-heard.invariant.most k there)
        | in_default w ↦ subst (λ (least : List ℕ). get_or least k 0 ≤ infinite) (sym w.least-is) (c.loop-heard.invariant.most k there)
      ];
    }
