use Rattle.session.proofs.Common.{Texts, KeepsRun}
use Rattle.replay.specs.Output.{shown_text}
use Rattle.replay.specs.Replay.{Happens}
use Rattle.session.proofs.Parts.{goes_on}
use Rattle.session.proofs.networks.BareStageRawEvent.goes_on.Goals as goal

pub returns : goal.returns
returns g c = λ old mid new. goes_on (Happens g.C.Carrier.calls) (shown_text Texts) (KeepsRun g.C.Carrier.calls) old.carrier mid.carrier new.carrier
