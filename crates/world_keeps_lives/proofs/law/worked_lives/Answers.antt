use Rattle.std.proofs.Common.{refl}
use Rattle.world_keeps_lives.proofs.Rows.{row_goes, row_gone, row_left, row_life, row_long, row_longer, row_lost, row_many, row_more, row_others, row_outstanding, row_renewed, row_returned, row_sent, row_stamp, row_taken, row_ungranted, row_waits}
use Rattle.world_keeps_lives.proofs.law.worked_lives.Goals as goal

pub returns-clause-sent : goal.returns-clause-sent
returns-clause-sent c = row_sent

pub returns-clause-more : goal.returns-clause-more
returns-clause-more c = row_more

pub returns-clause-others : goal.returns-clause-others
returns-clause-others c = row_others

pub returns-clause-taken : goal.returns-clause-taken
returns-clause-taken c = row_taken

pub returns-clause-ungranted : goal.returns-clause-ungranted
returns-clause-ungranted c = row_ungranted

pub returns-clause-longer : goal.returns-clause-longer
returns-clause-longer c = row_longer

pub returns-clause-returned : goal.returns-clause-returned
returns-clause-returned c = row_returned

pub returns-clause-here : goal.returns-clause-here
returns-clause-here c = refl

pub returns-clause-elsewhere : goal.returns-clause-elsewhere
returns-clause-elsewhere c = (refl, refl)

pub returns-clause-gone : goal.returns-clause-gone
returns-clause-gone c = row_gone

pub returns-clause-goes : goal.returns-clause-goes
returns-clause-goes c = row_goes

pub returns-clause-unequal : goal.returns-clause-unequal
returns-clause-unequal c = λ h. h

pub returns-clause-life : goal.returns-clause-life
returns-clause-life c = row_life

pub returns-clause-stamp : goal.returns-clause-stamp
returns-clause-stamp c = row_stamp

pub returns-clause-waits : goal.returns-clause-waits
returns-clause-waits c = row_waits

pub returns-clause-left : goal.returns-clause-left
returns-clause-left c = row_left

pub returns-clause-outstanding : goal.returns-clause-outstanding
returns-clause-outstanding c = row_outstanding

pub returns-clause-renewed : goal.returns-clause-renewed
returns-clause-renewed c = row_renewed

pub returns-clause-many : goal.returns-clause-many
returns-clause-many c = row_many

pub returns-clause-long : goal.returns-clause-long
returns-clause-long c = row_long

pub returns-clause-lost : goal.returns-clause-lost
returns-clause-lost c = row_lost
