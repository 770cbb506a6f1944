use Rattle.std.proofs.Common.{false, ◌≡◌, ◌+◌, ◌≤◌, ℕ, arith, sym, ◌∙◌, subst, get_or, slice_set}
use Rattle.std.proofs.lemmas.List.FromFn.{fill_by_all}
use Rattle.std.proofs.lemmas.List.Edits.{fill_by_more}
use Rattle.std.proofs.lemmas.List.Elements.{All-set, All-replicate}
use Rattle.std.proofs.lemmas.List.{length-set, length-replicate}
use Rattle.interface.specs.Host.{most_imps}
use Rattle.routing.specs.Vector.{infinite}
use Rattle.routing.specs.RouteTable.{vector_of, distance_to, least_heard}
use Rattle.routing.proofs.Nexts.{distance-by}
use Rattle.routing.proofs.route_table.told_by.Goals as goal

pub loop-place-init : goal.loop-place-init
loop-place-init c = record {
  one_each = length-replicate most_imps infinite;
  far = λ k below. absurd (omega (arith, below));
  in_range = All-replicate (λ (d : ℕ). d ≤ infinite) most_imps infinite (omega arith);
}

pub loop-place-preserved : goal.loop-place-preserved
loop-place-preserved c =
    let imp : ℕ = c.loop-place.place + 1 in
    let least : get_or c.all_least_heard-least.result c.loop-place.place 0 ≡ least_heard c.args.ports.now imp =
    c.all_least_heard-least.ensures.least c.loop-place.place c.loop-place-test.true in
    let is : c.distance_by.result ≡ distance_to (record { own = c.args.own; heard = c.args.ports.now; claims = false }) imp =
    c.distance_by.ensures.value ∙ distance-by (record { own = c.args.own; heard = c.args.ports.now; claims = false }) imp (get_or c.all_least_heard-least.result c.loop-place.place 0) least in
    record {
      one_each = omega (arith, length-set {A = ℕ} c.loop-place.distances c.loop-place.place c.distance_by.result);
      far = λ k below. subst (λ (v : ℕ). get_or (slice_set c.loop-place.distances c.loop-place.place v) k 0 ≡ distance_to (record { own = c.args.own; heard = c.args.ports.now; claims = false }) (k + 1)) (sym is)
          (fill_by_more (λ (k : ℕ). distance_to (record { own = c.args.own; heard = c.args.ports.now; claims = false }) (k + 1)) c.loop-place.distances c.loop-place.place 0 (omega arith) c.loop-place.invariant.far k below);
      in_range = All-set (λ (d : ℕ). d ≤ infinite) c.loop-place.distances c.loop-place.place c.distance_by.result c.distance_by.ensures.most c.loop-place.invariant.in_range;
    }

pub returns : goal.returns
returns c = record {
  told_is = c.new.ensures
      ∙ fill_by_all (λ (k : ℕ). distance_to (record { own = c.args.own; heard = c.args.ports.now; claims = false }) (k + 1)) c.loop-place.distances most_imps 0 c.loop-place.invariant.one_each
      (λ k below. c.loop-place.invariant.far k (omega arith));
  no_imp = c.all_least_heard-least.ensures.no_imp;
}
