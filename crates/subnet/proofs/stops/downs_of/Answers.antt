use Rattle.subnet.proofs.Common.{◌+◌, ◌++◌, List, drop, ap, ◌∙◌, err_from_is_err_and, Crossing, downs_in_order}
use Rattle.subnet.proofs.Calls.Stopping.{one_more, up_among}
use Rattle.subnet.proofs.stops.downs_of.Goals as goal

pub loop-host-preserved : goal.loop-host-preserved
loop-host-preserved c = record {
  state =
      ap (λ (xs : List Crossing). xs ++ downs_in_order c.args.imp (c.loop-host.host + 1) (drop (c.loop-host.host + 1) c.args.up.now.hosts)) c.in_ok-push_down.ensures.ok
      ∙ one_more c.args.up.now.hosts c.args.imp c.loop-host.host c.loop-host.downs.items
      ∙ c.loop-host.invariant.state;
  few = λ some. c.in_ok-push_down.ensures.few;
}

pub returns-in_err-push_down-clause-memory : goal.returns-in_err-push_down-clause-memory
returns-in_err-push_down-clause-memory c =
    let p = err_from_is_err_and c.from_residual.result c.from_residual.ensures.1 in
    rw p.1 (up_among c.args.up.now.hosts c.loop-host.host c.in_err-push_down.ensures.memory)
