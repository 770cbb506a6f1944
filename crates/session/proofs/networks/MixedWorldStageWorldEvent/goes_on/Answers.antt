use Rattle.session.proofs.Common.{shown, Texts, Happens, KeepsAll}
use Rattle.world_replay.specs.Output.{shown_text}
use Rattle.session.proofs.Parts.{goes_on}
use Rattle.session.proofs.networks.MixedWorldStageWorldEvent.goes_on.Goals as goal

pub returns : goal.returns
returns g c = goes_on (Happens (shown g.C.Carrier.calls)) (shown_text Texts) (KeepsAll g.C.Carrier.calls)
