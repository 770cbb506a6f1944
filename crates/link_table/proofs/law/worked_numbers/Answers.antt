use Rattle.link_table.proofs.NumberLemmas.{last_new, first_old, round, next_begun}
use Rattle.link_table.proofs.law.worked_numbers.Goals as goal

pub returns-clause-last_new : goal.returns-clause-last_new
returns-clause-last_new c = last_new

pub returns-clause-first_old : goal.returns-clause-first_old
returns-clause-first_old c = first_old

pub returns-clause-round : goal.returns-clause-round
returns-clause-round c = round

pub returns-clause-begun : goal.returns-clause-begun
returns-clause-begun c = next_begun
