use Rattle.flow_law.proofs.CounterexampleLemmas.{takes_nothing_breaks, takes_down_breaks, told_nothing_breaks, source_stops_twice_breaks, destination_stops_twice_breaks, source_starts_twice_breaks, destination_starts_twice_breaks, starts_away_breaks, starts_unsettled_breaks}
use Rattle.flow_law.proofs.counterexamples.needs_of_hosts.Goals as goal

pub returns-clause-takes_nothing : goal.returns-clause-takes_nothing
returns-clause-takes_nothing c = takes_nothing_breaks

pub returns-clause-takes_down : goal.returns-clause-takes_down
returns-clause-takes_down c = takes_down_breaks

pub returns-clause-told_nothing : goal.returns-clause-told_nothing
returns-clause-told_nothing c = told_nothing_breaks

pub returns-clause-source_stops_twice : goal.returns-clause-source_stops_twice
returns-clause-source_stops_twice c = source_stops_twice_breaks

pub returns-clause-destination_stops_twice : goal.returns-clause-destination_stops_twice
returns-clause-destination_stops_twice c = destination_stops_twice_breaks

pub returns-clause-source_starts_twice : goal.returns-clause-source_starts_twice
returns-clause-source_starts_twice c = source_starts_twice_breaks

pub returns-clause-destination_starts_twice : goal.returns-clause-destination_starts_twice
returns-clause-destination_starts_twice c = destination_starts_twice_breaks

pub returns-clause-starts_away : goal.returns-clause-starts_away
returns-clause-starts_away c = starts_away_breaks

pub returns-clause-starts_unsettled : goal.returns-clause-starts_unsettled
returns-clause-starts_unsettled c = starts_unsettled_breaks
