use Rattle.std.proofs.Common.{◌≡◌, ◌∙◌, ap, rules}
use Rattle.leader1822.specs.Boxes.{Boxes, opening_boxes}
use Rattle.subnet.specs.Calls.{Kept}
use Rattle.topology.specs.declared.network.CarrierKind.TheVariants as kind
use Rattle.command_line.proofs.lemmas.{strangers_there}
use Rattle.session.proofs.Sessions.{ends_as}
use Rattle.session.proofs.Strangers.{plain_over, subnet_over}
use Rattle.session.proofs.running.serve_on.Goals as goal

pub serve_over-requires-clause-there : goal.serve_over-requires-clause-there
serve_over-requires-clause-there g c =
    strangers_there c.args.network.now c.new-carrier.result.hosts c.strangers-strangers.result.now
    (ap (λ (b : Boxes). b.hosts) c.new-carrier.ensures ∙ c.in_ok-hosts-in-Plain.ensures.all) c.strangers-strangers.ensures.all c.strangers-strangers.ensures.there

pub serve_over-requires-in-Subnet-clause-there : goal.serve_over-requires-in-Subnet-clause-there
serve_over-requires-in-Subnet-clause-there g c =
    strangers_there c.args.network.now c.in_ok-carrier-in-Subnet.carrier.net.hosts c.strangers-strangers.result.now
    (ap (λ (k : Kept). k.net.hosts) c.in_ok-carrier-in-Subnet.ensures) c.strangers-strangers.ensures.all c.strangers-strangers.ensures.there

pub returns-in_ok-hosts-in-Plain-clause-ends : goal.returns-in_ok-hosts-in-Plain-clause-ends
returns-in_ok-hosts-in-Plain-clause-ends g c =
    let is : c.args.network.now.carrier ≡ kind.Plain = search rules in
    ends_as _ (plain_over _ c.args.network.now c.strangers-strangers.result.now c.new-carrier.result c.is_raw-raw.result is
    (c.new-carrier.ensures ∙ ap opening_boxes c.in_ok-hosts-in-Plain.ensures.all) c.is_raw-raw.ensures c.strangers-strangers.ensures.all) _ _ c.serve_over.result c.serve_over.ensures.ends

pub returns-in_ok-carrier-in-Subnet-clause-ends : goal.returns-in_ok-carrier-in-Subnet-clause-ends
returns-in_ok-carrier-in-Subnet-clause-ends g c =
    let is : c.args.network.now.carrier ≡ kind.Subnet = search rules in
    ends_as _ (subnet_over _ c.args.network.now c.strangers-strangers.result.now c.in_ok-carrier-in-Subnet.carrier c.is_raw-raw.result is
    c.in_ok-carrier-in-Subnet.ensures c.is_raw-raw.ensures c.strangers-strangers.ensures.all) _ _ c.serve_over-in-Subnet.result c.serve_over-in-Subnet.ensures.ends
