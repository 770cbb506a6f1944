use Rattle.flow_law.proofs.CounterexampleLemmas.{notes_nothing_breaks, notes_away_breaks, notes_old_breaks, notes_taken_breaks, queues_old_breaks, joins_any_breaks, freed_by_nothing_breaks, freed_by_any_breaks, freed_by_data_breaks}
use Rattle.flow_law.proofs.counterexamples.needs_of_arrivals.Goals as goal

pub returns-clause-notes_nothing : goal.returns-clause-notes_nothing
returns-clause-notes_nothing c = notes_nothing_breaks

pub returns-clause-notes_away : goal.returns-clause-notes_away
returns-clause-notes_away c = notes_away_breaks

pub returns-clause-notes_taken : goal.returns-clause-notes_taken
returns-clause-notes_taken c = notes_taken_breaks

pub returns-clause-notes_old : goal.returns-clause-notes_old
returns-clause-notes_old c = notes_old_breaks

pub returns-clause-queues_old : goal.returns-clause-queues_old
returns-clause-queues_old c = queues_old_breaks

pub returns-clause-joins_any : goal.returns-clause-joins_any
returns-clause-joins_any c = joins_any_breaks

pub returns-clause-freed_by_nothing : goal.returns-clause-freed_by_nothing
returns-clause-freed_by_nothing c = freed_by_nothing_breaks

pub returns-clause-freed_by_any : goal.returns-clause-freed_by_any
returns-clause-freed_by_any c = freed_by_any_breaks

pub returns-clause-freed_by_data : goal.returns-clause-freed_by_data
returns-clause-freed_by_data c = freed_by_data_breaks
