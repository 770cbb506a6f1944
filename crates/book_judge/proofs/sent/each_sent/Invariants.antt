use Rattle.book_judge.proofs.Common.{◌≤◌, List, Crossing}
use Rattle.book_judge.specs.Inside.Sent.{ArriveIn, EachSent}
use Rattle.book_judge.proofs.sent.each_sent.Given as goal

abbrev pub invariant-loop-number : goal.invariant-loop-number
invariant-loop-number l =
    ((log : List Crossing) → ArriveIn log l.into l.arrivals → EachSent log l.starts l.start l.asked l.life l.names l.lives l.number)
    × (l.start.before ≤ l.number)
