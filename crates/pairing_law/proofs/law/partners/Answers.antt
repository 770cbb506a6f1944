use Rattle.pairing_law.proofs.Joint.{turned}
use Rattle.pairing_law.proofs.Open.{open_match}
use Rattle.pairing_law.proofs.Runs.{safe_run, joined_run, joined_fits}
use Rattle.pairing_law.proofs.law.partners.Goals as goal

pub returns-clause-safe : goal.returns-clause-safe
returns-clause-safe c = safe_run

pub returns-clause-one : goal.returns-clause-one
returns-clause-one c events mark r = joined_fits mark _ _ (joined_run events r.1) r.0

pub returns-clause-two : goal.returns-clause-two
returns-clause-two c events mark r = joined_fits mark _ _ (turned _ _ (joined_run events r.1)) r.0

pub returns-clause-live : goal.returns-clause-live
returns-clause-live c events p q r s run = open_match _ _ p q r s (joined_run events run)
