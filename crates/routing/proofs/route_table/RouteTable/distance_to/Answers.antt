use Rattle.std.proofs.Common.{false, ℕ, List, sym, ap, ◌∙◌}
use Rattle.routing.specs.RouteTable.{Table, distance_to, distance_in}
use Rattle.routing.proofs.Nexts.{distance-claims, distance-own, distance-told}
use Rattle.routing.proofs.route_table.RouteTable.distance_to.Goals as goal

pub returns-then-imp-self-clause-value : goal.returns-then-imp-self-clause-value
returns-then-imp-self-clause-value c = sym (distance-own c.args.self.now c.args.imp (c.if-imp-self.true ∙ ap (λ (t : Table). t.own) c.self.view_is))

pub returns-else-imp-self-clause-value : goal.returns-else-imp-self-clause-value
returns-else-imp-self-clause-value c =
    c.distance_in.ensures.value ∙ ap (λ (told : List ℕ). distance_in told c.args.imp) c.distances.ensures.value
    ∙ distance-told (record { own = c.self.inside.own; heard = c.self.inside.heard.items; claims = false }) c.self.inside.told c.args.imp c.self.invariant.0 c.if-imp-self.false
    ∙ distance-claims (record { own = c.self.inside.own; heard = c.self.inside.heard.items; claims = c.self.inside.claims }) false c.args.imp
    ∙ ap (λ (t : Table). distance_to t c.args.imp) c.self.view_is
