-- The notes of a world, and the log that has what crossed.
use Rattle.std.specs.Prelude.{◌≡◌, ◌≤◌, List, length, reverse, take}
use Rattle.interface.specs.declared.crossing.Crossing.{Crossing}
use Rattle.net_sim.specs.Book.{Kept}

-- the oldest of a log, which is the oldest first, is all that crossed by these notes
pub record BeginsWith (k : Kept) (log : List Crossing) : Type 0 where
  pub within : length k.book.crossings ≤ length log
  pub oldest : take (length k.book.crossings) log ≡ reverse k.book.crossings
