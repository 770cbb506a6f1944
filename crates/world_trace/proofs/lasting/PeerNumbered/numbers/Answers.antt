use Rattle.world_trace.proofs.Common.{subst, Peer}
use Rattle.world_trace.specs.Told.{IsPairTold}
use Rattle.world_trace.proofs.lasting.PeerNumbered.numbers.Goals as goal

pub returns : goal.returns
returns c =
    subst (λ (p : Peer). IsPairTold p) c.self.view_is
    (record { host = c.host.ensures; busy = c.pair_numbers.ensures.busy; ends = c.pair_numbers.ensures.ends; commands = c.pair_numbers.ensures.commands })
