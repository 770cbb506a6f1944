use Rattle.command_line.proofs.Common.{◌≡◌, ap, asked_of, rules, ◌∙◌, Boxes}
use Rattle.subnet.specs.Calls.{Kept}
use Rattle.topology.specs.declared.network.CarrierKind.TheVariants as kind
use Rattle.command_line.proofs.Replayed.Strangers.{strangers_there}
use Rattle.command_line.proofs.Replayed.Written.{subnet_all, subnet_part}
use Rattle.command_line.proofs.carriers.replay_on.Goals as goal

pub replay_over-requires-clause-there : goal.replay_over-requires-clause-there
replay_over-requires-clause-there g c =
    strangers_there c.args.network.now c.new-carrier.result.hosts c.strangers-strangers.result.now
    (ap (λ (b : Boxes). b.hosts) c.new-carrier.ensures ∙ c.in_ok-hosts-in-Plain.ensures.all)
    c.strangers-strangers.ensures.all c.strangers-strangers.ensures.there

pub replay_over-requires-in-Subnet-clause-there : goal.replay_over-requires-in-Subnet-clause-there
replay_over-requires-in-Subnet-clause-there g c =
    strangers_there c.args.network.now c.in_ok-carrier-in-Subnet.carrier.net.hosts c.strangers-strangers.result.now
    (ap (λ (k : Kept). k.net.hosts) c.in_ok-carrier-in-Subnet.ensures)
    c.strangers-strangers.ensures.all c.strangers-strangers.ensures.there

pub returns-in_ok-carrier-in-Subnet-clause-replayed : goal.returns-in_ok-carrier-in-Subnet-clause-replayed
returns-in_ok-carrier-in-Subnet-clause-replayed g c =
    let is : c.args.network.now.carrier ≡ kind.Subnet = search rules in
    subnet_all c.args.network.now c.in_ok-carrier-in-Subnet.carrier c.strangers-strangers.result.now c.args.book
    c.args.detail (asked_of c.args.events)
    (g.W.Output.contents c.args.writer.now) (g.W.Output.contents c.replay_over-in-Subnet.new.writer)
    c.replay_over-in-Subnet.result is c.in_ok-carrier-in-Subnet.ensures c.strangers-strangers.ensures.all
    c.replay_over-in-Subnet.ensures.replayed

pub returns-in_ok-carrier-in-Subnet-clause-stopped : goal.returns-in_ok-carrier-in-Subnet-clause-stopped
returns-in_ok-carrier-in-Subnet-clause-stopped g c = λ e.
    let is : c.args.network.now.carrier ≡ kind.Subnet = search rules in
    subnet_part c.args.network.now c.in_ok-carrier-in-Subnet.carrier c.strangers-strangers.result.now c.args.detail
    (asked_of c.args.events)
    (g.W.Output.contents c.args.writer.now) (g.W.Output.contents c.replay_over-in-Subnet.new.writer) is
    c.in_ok-carrier-in-Subnet.ensures c.strangers-strangers.ensures.all (c.replay_over-in-Subnet.ensures.stopped e)
