-- How far the counts of lives have come.
use Rattle.std.specs.Prelude.{ℕ, ◌*◌, ◌≤◌, List}
use Rattle.std.specs.List.{All}
use Rattle.promise.specs.declared.life.Life.{Life}

-- the counts of a life after this many changes of lives: each change adds at most 4294967295 to a count
pub record IsWithin (changes : ℕ) (x : Life) : Type 0 where
  pub messages : x.messages ≤ 4294967295 * changes
  pub granted_messages : x.granted.messages ≤ 4294967295 * changes
  pub granted_bits : x.granted.bits ≤ 4294967295 * changes
  pub returned_messages : x.returned.messages ≤ 4294967295 * changes
  pub returned_bits : x.returned.bits ≤ 4294967295 * changes

abbrev pub AreWithin : ℕ → List Life → Type 0
AreWithin changes lives = All (IsWithin changes) lives
