use Rattle.std.proofs.Common.{◌≡◌, Some}
use Rattle.std.specs.List.{slice_get}
use Rattle.book_judge.proofs.FirstLives.Lost.{list_there, loses_here, loses_none}
use Rattle.book_judge.proofs.sought.loses.Goals as goal

pub returns-in-Some : goal.returns-in-Some
returns-in-Some c =
    let at : slice_get c.args.handed.now c.args.place ≡ Some c.in-Some.handed.now = list_there c.args.handed.now c.args.place c.in-Some.handed.now c.in-Some.ensures.lookup.0 c.in-Some.ensures.lookup.1 in
    loses_here c.took_all.result c.args.life.now c.args.other.now c.in-Some.handed.now c.args.handed.now c.args.place at c.took_all.ensures

pub returns-in-None : goal.returns-in-None
returns-in-None c = loses_none c.args.life.now c.args.other.now c.args.handed.now c.args.place c.in-None.ensures.lookup.0
