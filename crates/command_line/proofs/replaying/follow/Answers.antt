use Rattle.std.proofs.Common.{◌≡◌, Err, rules}
use Rattle.command_line.proofs.Common.{asked_of}
use Rattle.command_line.proofs.Faults.{unwritten, write_fault}
use Rattle.command_line.proofs.Replayed.Known.{input_fault, input_replayed, input_stopped, is_read}
use Rattle.command_line.proofs.replaying.follow.Goals as goal

pub returns-clause-read : goal.returns-clause-read
returns-clause-read g c = is_read c.args.octets.now c.replay_on.result
    (c.in_ok-network.field-0.network, asked_of c.in_ok-network.field-0.events, c.in_ok-network.ensures.read)

pub returns-clause-fault : goal.returns-clause-fault
returns-clause-fault g c = input_fault c.args.octets.now c.replay_on.result
    (c.in_ok-network.field-0.network, asked_of c.in_ok-network.field-0.events, c.in_ok-network.ensures.read)
    c.replay_on.ensures.fault

pub returns-clause-replayed : goal.returns-clause-replayed
returns-clause-replayed g c = λ off.
    input_replayed c.args.octets.now c.in_ok-network.field-0.network (asked_of c.in_ok-network.field-0.events)
    c.args.book c.args.detail c.replay_on.result
    (g.W.Output.contents c.args.writer.now) (g.W.Output.contents c.replay_on.new.writer)
    c.in_ok-network.ensures.read c.replay_on.ensures.replayed

pub returns-clause-stopped : goal.returns-clause-stopped
returns-clause-stopped g c = λ e.
    input_stopped c.args.octets.now c.in_ok-network.field-0.network (asked_of c.in_ok-network.field-0.events)
    c.args.detail (g.W.Output.contents c.args.writer.now) (g.W.Output.contents c.replay_on.new.writer)
    c.in_ok-network.ensures.read (c.replay_on.ensures.stopped e)

pub returns-then-check-clause-read : goal.returns-then-check-clause-read
returns-then-check-clause-read g c = is_read c.args.octets.now c.write_ok.result
    (c.in_ok-network.field-0.network, asked_of c.in_ok-network.field-0.events, c.in_ok-network.ensures.read)

pub returns-then-check-clause-fault : goal.returns-then-check-clause-fault
returns-then-check-clause-fault g c = input_fault c.args.octets.now c.write_ok.result
    (c.in_ok-network.field-0.network, asked_of c.in_ok-network.field-0.events, c.in_ok-network.ensures.read)
    (write_fault c.write_ok.result c.write_ok.ensures.fault)

pub returns-in_err-network-clause-failed : goal.returns-in_err-network-clause-failed
returns-in_err-network-clause-failed g c =
    let same : c.from_residual.result ≡ Err c.in_err-network.field-0.0 = search rules in
    unwritten c.from_residual.result c.in_err-network.field-0.0 (g.W.Output.failed c.args.writer.now) same
    c.in_err-network.ensures.read_only c.requires.writes
