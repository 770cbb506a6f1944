use Rattle.link_table.proofs.WindowLemmas.{next_in, near_same, near_old, near_next, not_next, next_new, new_again}
use Rattle.link_table.proofs.law.any_window.Goals as goal

pub returns-clause-next_in : goal.returns-clause-next_in
returns-clause-next_in c = next_in

pub returns-clause-near_same : goal.returns-clause-near_same
returns-clause-near_same c = near_same

pub returns-clause-near_old : goal.returns-clause-near_old
returns-clause-near_old c = near_old

pub returns-clause-near_next : goal.returns-clause-near_next
returns-clause-near_next c = near_next

pub returns-clause-not_next : goal.returns-clause-not_next
returns-clause-not_next c = not_next

pub returns-clause-next_new : goal.returns-clause-next_new
returns-clause-next_new c = next_new

pub returns-clause-new_again : goal.returns-clause-new_again
returns-clause-new_again c = new_again
