use Rattle.net_sim.proofs.Resets.Bridge.{box_same, needs_same, place_same, up_same}
use Rattle.net_sim.proofs.law.mailboxes.Goals as goal

pub returns-clause-up : goal.returns-clause-up
returns-clause-up c = up_same

pub returns-clause-place : goal.returns-clause-place
returns-clause-place c = place_same

pub returns-clause-held : goal.returns-clause-held
returns-clause-held c = λ f moments. box_same f.source f.destination moments f.link.0

pub returns-clause-needs : goal.returns-clause-needs
returns-clause-needs c = needs_same
