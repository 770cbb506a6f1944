use Rattle.flow_law.proofs.CounterexampleLemmas.{starts_alive_breaks, starts_queued_breaks, returns_alive_breaks, forgets_alive_breaks, gives_up_nothing_breaks, gives_up_alive_breaks, gives_up_queued_breaks}
use Rattle.flow_law.proofs.QuestionLemmas.{returns_awaited_breaks, forgets_awaited_breaks}
use Rattle.flow_law.proofs.counterexamples.needs_of_imps.Goals as goal

pub returns-clause-starts_alive : goal.returns-clause-starts_alive
returns-clause-starts_alive c = starts_alive_breaks

pub returns-clause-starts_queued : goal.returns-clause-starts_queued
returns-clause-starts_queued c = starts_queued_breaks

pub returns-clause-returns_alive : goal.returns-clause-returns_alive
returns-clause-returns_alive c = returns_alive_breaks

pub returns-clause-forgets_alive : goal.returns-clause-forgets_alive
returns-clause-forgets_alive c = forgets_alive_breaks

pub returns-clause-gives_up_nothing : goal.returns-clause-gives_up_nothing
returns-clause-gives_up_nothing c = gives_up_nothing_breaks

pub returns-clause-gives_up_alive : goal.returns-clause-gives_up_alive
returns-clause-gives_up_alive c = gives_up_alive_breaks

pub returns-clause-gives_up_queued : goal.returns-clause-gives_up_queued
returns-clause-gives_up_queued c = gives_up_queued_breaks

pub returns-clause-returns_awaited : goal.returns-clause-returns_awaited
returns-clause-returns_awaited c = returns_awaited_breaks

pub returns-clause-forgets_awaited : goal.returns-clause-forgets_awaited
returns-clause-forgets_awaited c = forgets_awaited_breaks
