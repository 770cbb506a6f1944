use Rattle.pairing_law.proofs.Open.{open_match}
use Rattle.pairing_law.proofs.Runs.{joined_run, safe_run}
use Rattle.pairing_law.proofs.Linked.{run_at, unused}
use Rattle.pairing_law.proofs.law.links.Goals as goal

pub returns-clause-at : goal.returns-clause-at
returns-clause-at c steps r s = run_at s steps r

pub returns-clause-safe : goal.returns-clause-safe
returns-clause-safe c steps r s = safe_run _ (run_at s steps r)

pub returns-clause-unused : goal.returns-clause-unused
returns-clause-unused c = unused

pub returns-clause-live : goal.returns-clause-live
returns-clause-live c steps p q r t run s = open_match _ _ p q r t (joined_run _ (run_at s steps run))
