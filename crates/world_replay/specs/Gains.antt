-- What a book gains, and how that is shown.
use Rattle.std.specs.Prelude.{◌≡◌, List, ◌++◌, length, reverse}
use Rattle.host_services.specs.declared.report.Reported.{Reported}
use Rattle.interface.specs.declared.crossing.Crossing.{Crossing}
use Rattle.net_sim.specs.Book.{Kept}
use Rattle.promise.specs.declared.book.Told.{Told}
use Rattle.world_replay.specs.Output.{Shown, shown_in_turn, told_in_turn}

-- what the book of a world has more than it had before: crossings, notices and reports, oldest first
pub record Gains (old new : Kept) : Type 0 where
  pub crossings : List Crossing
  pub notices : List Told
  pub reports : List Reported
  pub crossed : new.book.crossings ≡ reverse crossings ++ old.book.crossings
  pub told : new.book.notices ≡ old.book.notices ++ notices
  pub said : new.book.reports ≡ old.book.reports ++ reports

-- what a book gained, in the order in which it is shown
abbrev pub news : (old : Kept) → List Crossing → List Told → List Reported → List Shown
news old crossings notices reports = shown_in_turn (length old.book.crossings) crossings (told_in_turn (length old.book.notices) notices reports)

abbrev pub gained : {old new : Kept} → Gains old new → List Shown
gained {old} {new} g = news old g.crossings g.notices g.reports
