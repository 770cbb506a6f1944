use Rattle.std.proofs.Common.{refl}
use Rattle.leader1822.specs.Boxes.{Boxes}
use Rattle.command_line.proofs.lemmas.{strangers_there}
use Rattle.simulator.proofs.Common.{◌≡◌, ◌⊎◌, ◌∙◌, OnOk, ap, rules, subst, Keeps, subnet_calls, subnet_of, asked_of, subnet_inside}
use Rattle.subnet.specs.Calls.{Kept}
use Rattle.simulator.specs.Traced.{EndsAll, TracesAll}
use Rattle.topology.specs.declared.network.CarrierKind.TheVariants as kind
use Rattle.simulator.proofs.Traces.Traced.{ends_over, traced_over}
use Rattle.simulator.proofs.tracing.trace_on.Goals as goal

pub returns-in_ok-subnet_of-in-Subnet-clause-traced : goal.returns-in_ok-subnet_of-in-Subnet-clause-traced
returns-in_ok-subnet_of-in-Subnet-clause-traced g c =
    let is : c.args.network.now.carrier ≡ kind.Subnet = search rules in
    let opening : c.new-carrier-in-Subnet.result ≡ subnet_of c.args.network.now = c.new-carrier-in-Subnet.ensures ∙ c.in_ok-subnet_of-in-Subnet.ensures in
    traced_over kind.Subnet c.args.network.now c.args.lines.now (asked_of c.args.events) (g.W.Output.contents c.args.writer.now) (g.W.Output.contents c.trace_over-in-Subnet.new.writer) c.trace_over-in-Subnet.result is
    (subst (λ (k : Kept). OnOk c.trace_over-in-Subnet.result (TracesAll subnet_calls subnet_inside c.args.network.now k c.args.lines.now (asked_of c.args.events) (g.W.Output.contents c.args.writer.now) (g.W.Output.contents c.trace_over-in-Subnet.new.writer))) opening
    c.trace_over-in-Subnet.ensures.traced)

pub returns-in_ok-subnet_of-in-Subnet-clause-stopped : goal.returns-in_ok-subnet_of-in-Subnet-clause-stopped
returns-in_ok-subnet_of-in-Subnet-clause-stopped g c = λ e.
    let is : c.args.network.now.carrier ≡ kind.Subnet = search rules in
    let opening : c.new-carrier-in-Subnet.result ≡ subnet_of c.args.network.now = c.new-carrier-in-Subnet.ensures ∙ c.in_ok-subnet_of-in-Subnet.ensures in
    ends_over kind.Subnet c.args.network.now c.args.lines.now (asked_of c.args.events) (g.W.Output.contents c.args.writer.now) (g.W.Output.contents c.trace_over-in-Subnet.new.writer) is
    (subst (λ (k : Kept). Keeps (g.W.Output.contents c.args.writer.now) (g.W.Output.contents c.trace_over-in-Subnet.new.writer) ⊎ EndsAll subnet_calls subnet_inside c.args.network.now k c.args.lines.now (asked_of c.args.events) (g.W.Output.contents c.args.writer.now) (g.W.Output.contents c.trace_over-in-Subnet.new.writer)) opening
    (c.trace_over-in-Subnet.ensures.stopped e))

pub trace_over-requires-clause-there : goal.trace_over-requires-clause-there
trace_over-requires-clause-there g c =
    strangers_there c.args.network.now c.new-carrier.result.hosts c.args.network.now.strangers
    (ap (λ (b : Boxes). b.hosts) c.new-carrier.ensures ∙ c.in_ok-hosts-in-Plain.ensures.all) refl
    c.strangers.ensures.there

pub trace_over-requires-in-Subnet-clause-there : goal.trace_over-requires-in-Subnet-clause-there
trace_over-requires-in-Subnet-clause-there g c =
    strangers_there c.args.network.now c.new-carrier-in-Subnet.result.net.hosts c.args.network.now.strangers
    (ap (λ (k : Kept). k.net.hosts) (c.new-carrier-in-Subnet.ensures ∙ c.in_ok-subnet_of-in-Subnet.ensures)) refl
    c.strangers.ensures.there
