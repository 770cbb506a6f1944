use Rattle.book_judge.proofs.Worked.{strays_here, strays_earlier, strays_later}
use Rattle.book_judge.proofs.law.worked_strays.Goals as goal

pub returns-clause-here : goal.returns-clause-here
returns-clause-here c = strays_here

pub returns-clause-earlier : goal.returns-clause-earlier
returns-clause-earlier c = strays_earlier

pub returns-clause-later : goal.returns-clause-later
returns-clause-later c = strays_later
