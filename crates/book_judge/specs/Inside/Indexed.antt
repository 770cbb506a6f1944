-- What is looked up in a log. No public clause cites this file.
use Rattle.std.specs.Prelude.{ℕ, false, true, List, Option, length, reverse}
use Rattle.interface.specs.declared.crossing.Crossing.{Crossing}
use Rattle.book_judge.specs.Inside.Asked.{AreOuts}
use Rattle.book_judge.specs.Inside.Begins.{AreCourses}
use Rattle.book_judge.specs.Inside.Deeds.{deeds_in}
use Rattle.book_judge.specs.Inside.Joined.{AreJoined}
use Rattle.book_judge.specs.declared.fates.Courses.{Courses}
use Rattle.book_judge.specs.declared.joined.Joined.{Joined}

-- of a log, the oldest first: the data of the messages that came in and of those that went out; where the last of a flow had
-- gone out before each that came in; and what changes lives
pub record AreFound (log : List Crossing) (into out : Joined) (outs : List (Option ℕ)) (courses : Courses) : Type 0 where
  pub came : AreJoined true log into
  pub went : AreJoined false log out
  pub gone : AreOuts (length log) outs log
  pub turns : AreCourses (deeds_in (reverse log)) courses
