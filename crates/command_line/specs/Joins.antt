-- That several outputs are of one replay.
use Rattle.std.specs.Prelude.{◌≡◌, ℕ, Bool, List, ◌++◌, codes}
use Rattle.book_log.specs.Log.{Book, IsLog, lives_of}
use Rattle.interface.specs.Host.{Host}
use Rattle.promise.specs.declared.life.Life.{Life}
use Rattle.replay.specs.declared.print.Detail.{Detail}
use Rattle.world_replay.specs.Output.{Shown, crossings_of, output}
use Rattle.command_line.specs.Replayed.{book_text}

-- what is printed of lines and lives, with the book and with texts as is asked for
abbrev pub printed : Bool → Detail → List Shown → List Life → List ℕ
printed book detail shown lives = output detail shown ++ (book_text book lives ++ codes "end\n")

-- two outputs print the same lines and lives, each as it is asked for
pub record PrintTheSame (book other : Bool) (detail more : Detail) (one two : List ℕ) : Type 0 where
  pub shown : List Shown
  pub lives : List Life
  pub first : one ≡ printed book detail shown lives
  pub second : two ≡ printed other more shown lives

-- a log is that of a book with the crossings and the lives that are printed, and names these strangers
pub record TellTheSame (strangers : List Host) (book : Bool) (detail : Detail) (out log : List ℕ) : Type 0 where
  pub shown : List Shown
  pub told : Book
  pub prints : out ≡ printed book detail shown (lives_of told)
  pub logs : IsLog log strangers told
  pub crossed : told.crossings ≡ crossings_of shown
