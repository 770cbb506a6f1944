use Rattle.command_line.proofs.Common.{◌≡◌, ap, asked_of, rules, ◌∙◌, Boxes}
use Rattle.subnet.specs.Calls.{Kept}
use Rattle.topology.specs.declared.network.CarrierKind.TheVariants as kind
use Rattle.command_line.proofs.Replayed.Strangers.{strangers_picked, strangers_there}
use Rattle.command_line.proofs.Replayed.Written.{subnet_logged}
use Rattle.command_line.proofs.logging.log_on.Goals as goal

pub log_over-requires-clause-there : goal.log_over-requires-clause-there
log_over-requires-clause-there g c =
    strangers_there c.args.network.now c.new-carrier.result.hosts c.strangers-strangers.result.now
    (ap (λ (b : Boxes). b.hosts) c.new-carrier.ensures ∙ c.in_ok-hosts-in-Plain.ensures.all)
    c.strangers-strangers.ensures.all c.strangers-strangers.ensures.there

pub log_over-requires-in-Subnet-clause-there : goal.log_over-requires-in-Subnet-clause-there
log_over-requires-in-Subnet-clause-there g c =
    strangers_there c.args.network.now c.in_ok-carrier-in-Subnet.carrier.net.hosts c.strangers-strangers.result.now
    (ap (λ (k : Kept). k.net.hosts) c.in_ok-carrier-in-Subnet.ensures)
    c.strangers-strangers.ensures.all c.strangers-strangers.ensures.there

pub log_over-requires-clause-picked : goal.log_over-requires-clause-picked
log_over-requires-clause-picked g c =
    strangers_picked c.args.network.now c.new-carrier.result.hosts c.strangers-strangers.result.now
    (ap (λ (b : Boxes). b.hosts) c.new-carrier.ensures ∙ c.in_ok-hosts-in-Plain.ensures.all)
    c.strangers-strangers.ensures.all c.strangers-strangers.ensures.picked

pub log_over-requires-in-Subnet-clause-picked : goal.log_over-requires-in-Subnet-clause-picked
log_over-requires-in-Subnet-clause-picked g c =
    strangers_picked c.args.network.now c.in_ok-carrier-in-Subnet.carrier.net.hosts c.strangers-strangers.result.now
    (ap (λ (k : Kept). k.net.hosts) c.in_ok-carrier-in-Subnet.ensures)
    c.strangers-strangers.ensures.all c.strangers-strangers.ensures.picked

pub returns-in_ok-carrier-in-Subnet-clause-logged : goal.returns-in_ok-carrier-in-Subnet-clause-logged
returns-in_ok-carrier-in-Subnet-clause-logged g c =
    let is : c.args.network.now.carrier ≡ kind.Subnet = search rules in
    subnet_logged c.args.network.now c.in_ok-carrier-in-Subnet.carrier c.strangers-strangers.result.now
    (asked_of c.args.events)
    (g.W.Output.contents c.args.writer.now) (g.W.Output.contents c.log_over-in-Subnet.new.writer)
    c.log_over-in-Subnet.result is c.in_ok-carrier-in-Subnet.ensures c.strangers-strangers.ensures.all
    c.log_over-in-Subnet.ensures.logged
