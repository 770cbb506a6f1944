use Rattle.std.proofs.Common.{ap, Err}
use Rattle.command_line.proofs.Faults.{network_fault, script_fault}
use Rattle.command_line.proofs.input.read_input.Goals as goal

pub returns-in-Err-clause-fault : goal.returns-in-Err-clause-fault
returns-in-Err-clause-fault c =
    network_fault c.args.octets.now c.in-Some.topology.now c.in-Some.script.now c.in-Err.fault c.in-Some.ensures.parted
    c.in-Err.ensures.fault (λ e. c.in-Err.ensures.refused (ap Err e)) (λ e. c.in-Err.ensures.memory (ap Err e))

pub returns-in-Err-read_events-clause-fault : goal.returns-in-Err-read_events-clause-fault
returns-in-Err-read_events-clause-fault c =
    script_fault c.args.octets.now c.in-Some.topology.now c.in-Some.script.now c.in-Ok.network c.in-Err-read_events.fault
    c.requires c.in-Some.ensures.parted c.in-Ok.ensures.found c.in-Err-read_events.ensures
