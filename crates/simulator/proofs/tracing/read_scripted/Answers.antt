use Rattle.simulator.proofs.Common.{ap, ◌∙◌, asked_of}
use Rattle.std.proofs.Common.{length}
use Rattle.simulator.specs.Traced.{IsScriptOf}
use Rattle.command_line.proofs.lemmas.{input_wants}
use Rattle.simulator.proofs.Traces.Traced.{lines_fit}
use Rattle.simulator.proofs.tracing.read_scripted.Goals as goal

pub returns-clause-read : goal.returns-clause-read
returns-clause-read c =
    let script = c.in-Some.script.now in
    let parted : IsScriptOf c.args.octets.now script = record { document = _; parted = c.in-Some.ensures.parted } in
    record {
      script = script;
      input = c.in-Ok.ensures.read;
      parted = parted;
      numbered = c.in-Ok-event_lines.ensures;
      fits = ap length c.in-Ok-event_lines.ensures ∙ lines_fit c.args.octets.now script c.in-Ok.input.network (asked_of c.in-Ok.input.events) c.in-Ok.ensures.read parted;
    }

pub returns-in_default-event_lines-clause-fault : goal.returns-in_default-event_lines-clause-fault
returns-in_default-event_lines-clause-fault c =
    input_wants c.args.octets.now c.in-Ok.input.network (asked_of c.in-Ok.input.events) c.in-Ok.ensures.read
