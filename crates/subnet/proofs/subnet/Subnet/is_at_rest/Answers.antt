use Rattle.subnet.proofs.Common.{◌≡◌, true, false, subst, rules, SubnetRound, SubnetTake}
use Rattle.interface.specs.Rest.{RestsBeside}
use Rattle.subnet.specs.Calls.{Kept}
use Rattle.subnet.proofs.Calls.Restful.{subnet_rests}
use Rattle.subnet.proofs.subnet.Subnet.is_at_rest.Goals as goal

pub returns-clause-unchanged : goal.returns-clause-unchanged
returns-clause-unchanged c = λ e.
    let k : Kept = record { net = c.self.inside.parts; stopped = c.self.inside.stopped } in
    let goes : c.self.inside.stopped ≡ false = search rules in
    let resting : c.self.inside.rests ≡ true = search rules in
    subst (λ (s : Kept). RestsBeside SubnetRound SubnetTake c.args.hosts.now s) c.self.view_is
    (subnet_rests k c.args.hosts.now goes (c.self.invariant.resting resting) (c.all_take_nothing.ensures e))
