use Rattle.subnet.proofs.Common.{◌≡◌, ◌<◌, None, length, rules, true, host_at}
use Rattle.imp_node.specs.Taking.{next_for}
use Rattle.subnet.specs.Inside.Settled.{only_waits}
use Rattle.subnet.proofs.Calls.Stuck.{stuck_takes}
use Rattle.subnet.proofs.stuck.gives_nothing.Goals as goal

pub returns-clause-unchanged : goal.returns-clause-unchanged
returns-clause-unchanged c = λ all.
    let there : c.args.host < length c.args.imp.now.hosts = search rules in
    let up : (host_at c.args.imp.now c.args.host).up ≡ true = search rules in
    let none : next_for c.args.imp.now c.args.host ≡ None = search rules in
    let waits : only_waits c.args.imp.now ≡ true = search rules in
    (stuck_takes c.args.imp.now c.args.host there up none waits).unchanged
