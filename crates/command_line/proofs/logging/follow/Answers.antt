use Rattle.std.proofs.Common.{◌≡◌, Err, rules}
use Rattle.command_line.proofs.Common.{asked_of}
use Rattle.command_line.proofs.Faults.{unwritten}
use Rattle.command_line.proofs.Replayed.AmongLogs.{input_logged}
use Rattle.command_line.proofs.Replayed.Known.{input_fault, is_read}
use Rattle.command_line.proofs.logging.follow.Goals as goal

pub returns-clause-read : goal.returns-clause-read
returns-clause-read g c = is_read c.args.octets.now c.log_on.result
    (c.in_ok-network.field-0.network, asked_of c.in_ok-network.field-0.events, c.in_ok-network.ensures.read)

pub returns-clause-fault : goal.returns-clause-fault
returns-clause-fault g c = input_fault c.args.octets.now c.log_on.result
    (c.in_ok-network.field-0.network, asked_of c.in_ok-network.field-0.events, c.in_ok-network.ensures.read)
    c.log_on.ensures.fault

pub returns-clause-logged : goal.returns-clause-logged
returns-clause-logged g c =
    input_logged c.args.octets.now c.in_ok-network.field-0.network (asked_of c.in_ok-network.field-0.events)
    c.log_on.result (g.W.Output.contents c.args.writer.now) (g.W.Output.contents c.log_on.new.writer)
    c.in_ok-network.ensures.read c.log_on.ensures.logged

pub returns-in_err-network-clause-failed : goal.returns-in_err-network-clause-failed
returns-in_err-network-clause-failed g c =
    let same : c.from_residual.result ≡ Err c.in_err-network.field-0.0 = search rules in
    unwritten c.from_residual.result c.in_err-network.field-0.0 (g.W.Output.failed c.args.writer.now) same
    c.in_err-network.ensures.read_only c.requires.writes
