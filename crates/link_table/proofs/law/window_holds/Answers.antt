use Rattle.link_table.proofs.NumberLemmas.{wide, two, next_in, near_same, near_old, near_next, not_next, next_new}
use Rattle.link_table.proofs.law.window_holds.Goals as goal

pub returns-clause-wide : goal.returns-clause-wide
returns-clause-wide c = (wide, two)

pub returns-clause-next_in : goal.returns-clause-next_in
returns-clause-next_in c = next_in

pub returns-clause-near_same : goal.returns-clause-near_same
returns-clause-near_same c = near_same

pub returns-clause-near_old : goal.returns-clause-near_old
returns-clause-near_old c = near_old

pub returns-clause-near_next : goal.returns-clause-near_next
returns-clause-near_next c = near_next

pub returns-clause-not_next : goal.returns-clause-not_next
returns-clause-not_next c = not_next

pub returns-clause-next_new : goal.returns-clause-next_new
returns-clause-next_new c = next_new
