-- The output, for whoever knows neither the input nor the network.
use Rattle.std.specs.Prelude.{◌≡◌, ℕ, Bool, true, false, List, [], ◌++◌, reverse, Option, codes}
use Rattle.std.specs.Io.KnownBytes.{Appends}
use Rattle.interface.specs.Host.{Host}
use Rattle.interface.specs.Mailboxes.{IsRun}
use Rattle.interface.specs.declared.crossing.Crossing.{Crossing}
use Rattle.promise.specs.Book.{Book}
use Rattle.promise.specs.Formed.{FormedBook}
use Rattle.promise.specs.Notices.{FormedNotices}
use Rattle.promise.specs.Safe.{SafeBook}
use Rattle.promise.specs.declared.life.Life.{Life}
use Rattle.replay.specs.declared.print.Detail.{Detail}
use Rattle.promise.specs.Connections.{JoinedBook}
use Rattle.world_replay.specs.Output.{Shown, crossings_of, notices_of, output, reports_of}
use Rattle.command_line.specs.Lived.{AreLived}
use Rattle.command_line.specs.Replayed.{book_text}

-- what crossed by these lines, newest first
abbrev pub log_of : List Shown → List Crossing
log_of shown = reverse (crossings_of shown)

-- the book of these lines and lives. Of contacts there are no lines
abbrev pub shown_book : List Shown → List Life → Book
shown_book shown lives = record { crossings = log_of shown; notices = notices_of shown; contacts = []; reports = reports_of shown; lives = lives }

-- a network without host programs has no users: there are no notices, reports and lives
pub record AreRaw (shown : List Shown) (lives : List Life) : Type 0 where
  pub no_notices : notices_of shown ≡ []
  pub no_reports : reports_of shown ≡ []
  pub no_lives : lives ≡ []

-- what users are notified of: nothing where a network is raw, and otherwise what crossed
abbrev pub AreNoticed : Bool → List Shown → List Life → Type 0
AreNoticed true shown lives = AreRaw shown lives
AreNoticed false shown lives = FormedNotices (log_of shown) (notices_of shown)

-- these lines, with these lives, are one book, of a network that is raw or has host programs. It is formed, of messages that crossed; its notices of data
-- are of such messages, and a raw network has none; it is safe; its initial connections are joined; what crossed is a run of the mailboxes; and its lives
-- are those that crossings and notices make
pub record AreOneBook (raw : Bool) (shown : List Shown) (lives : List Life) : Type 0 where
  pub handed : List (List Bool)
  pub hosts : List Host
  pub formed : FormedBook (log_of shown) lives
  pub told : AreNoticed raw shown lives
  pub safe : SafeBook (log_of shown) lives handed
  pub joined : JoinedBook (shown_book shown lives)
  pub run : IsRun hosts (log_of shown)
  pub lived : AreLived (log_of shown) (notices_of shown) lives

-- lines are written, then the lives of their book where it is asked for, and a last line `end`
pub record PrintsBook (raw book : Bool) (detail : Detail) (before after : Option (List ℕ)) : Type 0 where
  pub shown : List Shown
  pub lives : List Life
  pub one : AreOneBook raw shown lives
  pub written : Appends before after (output detail shown ++ (book_text book lives ++ codes "end\n"))

-- lines are written, and nothing else
pub record PrintsPart (raw : Bool) (detail : Detail) (before after : Option (List ℕ)) : Type 0 where
  pub shown : List Shown
  pub lives : List Life
  pub one : AreOneBook raw shown lives
  pub written : Appends before after (output detail shown)
