use Rattle.subnet.proofs.Common.{ap, ◌∙◌, State, host_down}
use Rattle.subnet.proofs.Calls.Starts.{opened, one_more_down}
use Rattle.subnet.proofs.starting.start.Goals as goal

pub loop-host-init : goal.loop-host-init
loop-host-init c = c.in_ok-started.ensures ∙ opened c.args.imp c.args.ports c.args.hosts

pub host_down-requires : goal.host_down-requires
host_down-requires c = ap (λ (s : State). s.spent) c.loop-host.invariant

pub loop-host-preserved : goal.loop-host-preserved
loop-host-preserved c =
    c.in-Ok.ensures.turn.1.0 ∙ ap (λ (s : State). (host_down s c.loop-host.host).state) c.loop-host.invariant ∙ one_more_down c.args.imp c.args.ports c.loop-host.host c.args.hosts c.loop-host-test.true
