use Rattle.flow_law.proofs.RoundLemmas.{any_number_breaks, begins_kept_breaks}
use Rattle.flow_law.proofs.CounterexampleLemmas.{offers_down_breaks, not_idle_breaks, not_answered_breaks}
use Rattle.flow_law.proofs.counterexamples.needs_of_offers.Goals as goal

pub returns-clause-offers_down : goal.returns-clause-offers_down
returns-clause-offers_down c = offers_down_breaks

pub returns-clause-not_idle : goal.returns-clause-not_idle
returns-clause-not_idle c = not_idle_breaks

pub returns-clause-not_answered : goal.returns-clause-not_answered
returns-clause-not_answered c = not_answered_breaks

pub returns-clause-any_number : goal.returns-clause-any_number
returns-clause-any_number c = any_number_breaks

pub returns-clause-begins_kept : goal.returns-clause-begins_kept
returns-clause-begins_kept c = begins_kept_breaks
