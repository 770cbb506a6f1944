use Rattle.simulator.proofs.Common.{◌≡◌, ◌⊎◌, Err, List, ℕ, OnOk, rules, subst, Keeps, asked_of}
use Rattle.simulator.specs.Traced.{TracesOn, EndsOn}
use Rattle.simulator.proofs.Traces.AmongTraced.{input_stopped, input_traced}
use Rattle.command_line.proofs.lemmas.{input_fault, is_read, unwritten}
use Rattle.simulator.proofs.Traces.Traced.{only_replayed}
use Rattle.simulator.proofs.tracing.follow.Goals as goal

pub returns-clause-read : goal.returns-clause-read
returns-clause-read g c =
    let input = c.in_ok-network.field-0 in
    is_read c.args.octets.now c.trace_on.result (input.network, asked_of input.events, c.in_ok-network.ensures.read.input)

pub returns-clause-fault : goal.returns-clause-fault
returns-clause-fault g c =
    let input = c.in_ok-network.field-0 in
    input_fault c.args.octets.now c.trace_on.result (input.network, asked_of input.events, c.in_ok-network.ensures.read.input) c.trace_on.ensures.fault

pub returns-clause-traced : goal.returns-clause-traced
returns-clause-traced g c =
    let input = c.in_ok-network.field-0 in
    input_traced c.args.octets.now input.lines.items input.network (asked_of input.events) c.trace_on.result
    (g.W.Output.contents c.args.writer.now) (g.W.Output.contents c.trace_on.new.writer) c.in_ok-network.ensures.read
    (subst (λ (ls : List ℕ). OnOk c.trace_on.result (TracesOn input.network ls (asked_of input.events) (g.W.Output.contents c.args.writer.now) (g.W.Output.contents c.trace_on.new.writer))) c.deref.ensures.value c.trace_on.ensures.traced)

pub returns-clause-stopped : goal.returns-clause-stopped
returns-clause-stopped g c = λ e.
    let input = c.in_ok-network.field-0 in
    input_stopped c.args.octets.now input.lines.items input.network (asked_of input.events)
    (g.W.Output.contents c.args.writer.now) (g.W.Output.contents c.trace_on.new.writer) c.in_ok-network.ensures.read
    (subst (λ (ls : List ℕ). Keeps (g.W.Output.contents c.args.writer.now) (g.W.Output.contents c.trace_on.new.writer) ⊎ EndsOn input.network ls (asked_of input.events) (g.W.Output.contents c.args.writer.now) (g.W.Output.contents c.trace_on.new.writer)) c.deref.ensures.value (c.trace_on.ensures.stopped e))

pub returns-clause-untouched : goal.returns-clause-untouched
returns-clause-untouched g c = only_replayed _ c.trace_on.result c.trace_on.ensures.fault

pub returns-in_err-network-clause-failed : goal.returns-in_err-network-clause-failed
returns-in_err-network-clause-failed g c =
    let same : c.from_residual.result ≡ Err c.in_err-network.field-0.0 = search rules in
    unwritten c.from_residual.result c.in_err-network.field-0.0 (g.W.Output.failed c.args.writer.now) same c.in_err-network.ensures.read_only c.requires.writes
