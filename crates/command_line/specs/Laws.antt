-- The laws of src/ that are longer than a line: each is a record, and its fields are the clauses.
use Rattle.std.specs.Prelude.{Bool, List, Option, Some, [], false, reverse, true, ℕ, ◌++◌, ◌==◌, ◌∷◌, ◌≡◌}
use Rattle.host_pairs.specs.declared.notice.Notice.TheVariants as notice
use Rattle.host_services.specs.declared.report.Reported.{Reported}
use Rattle.interface.specs.Host.{Host}
use Rattle.interface.specs.Mailboxes.{IsRun}
use Rattle.interface.specs.declared.crossing.Crossing.TheVariants as crossing
use Rattle.interface.specs.declared.message.HostMessage.{HostMessage}
use Rattle.leader1822.specs.Boxes.{Boxes, plain_calls}
use Rattle.promise.specs.Book.{Book}
use Rattle.promise.specs.Connections.{JoinedBook}
use Rattle.promise.specs.Formed.{FormedBook}
use Rattle.promise.specs.Notices.{FormedNotices}
use Rattle.promise.specs.Safe.{SafeBook}
use Rattle.promise.specs.declared.life.Life.{Life}
use Rattle.replay.specs.declared.print.Detail.{Detail}
use Rattle.world_replay.specs.Output.{Shown, crossings_of, notices_of, reports_of}
use Rattle.world_replay.specs.Output as lines
use Rattle.world_script.specs.declared.event.WorldEvent.{WorldEvent}
use Rattle.command_line.specs.Joins.{PrintTheSame, TellTheSame}
use Rattle.command_line.specs.Lived.{AreLived}
use Rattle.command_line.specs.Logs.{LogsInput}
use Rattle.command_line.specs.Printed.{AreOneBook, PrintsBook, PrintsPart}
use Rattle.command_line.specs.PrintedAmong.{AreOneBookAmong, PrintsBookAmong}
use Rattle.command_line.specs.Replayed.{ReplaysInput, StopsInput, WorldShowsFrom}

-- The input determines the output, with the book and without it, with texts and without them. It asks for one list of
-- events over the carrier of one topology, and neither plain mailboxes nor a subnet leave their replay a choice, without
-- host programs or with them, nor where strangers are among them.
pub record OneOutput : Type 0 where
  pub same :
      (book : Bool) (detail : Detail) (input before after other : List ℕ) →
      ReplaysInput book detail input (Some before) (Some after) →
      ReplaysInput book detail input (Some before) (Some other) → after ≡ other

-- What was written before memory ran out is a prefix of what the whole replay writes.
pub record FirstPart : Type 0 where
  pub part :
      (book : Bool) (detail : Detail) (input before part whole : List ℕ) →
      StopsInput detail input (Some before) (Some part) →
      ReplaysInput book detail input (Some before) (Some whole) → (rest : List ℕ) × (whole ≡ part ++ rest)

-- The outputs of one input are of one replay. Whether the book and texts are asked for only decides how much of it is
-- printed; and the log is that of the crossings and the lives that are printed.
pub record OneReplay : Type 0 where
  pub options :
      (book other : Bool) (detail more : Detail) (input one two : List ℕ) →
      ReplaysInput book detail input (Some []) (Some one) →
      ReplaysInput other more input (Some []) (Some two) → PrintTheSame book other detail more one two
  pub log :
      (book : Bool) (detail : Detail) (input out log : List ℕ)
      (r : ReplaysInput book detail input (Some []) (Some out)) → LogsInput input (Some []) (Some log) →
      TellTheSame r.network.strangers book detail out log

-- What it means that lines and lives are one book: all that was promised holds of what the lines show.
pub record OneBook : Type 0 where
  pub formed :
      (raw : Bool) (shown : List Shown) (lives : List Life) → AreOneBook raw shown lives →
      FormedBook (reverse (crossings_of shown)) lives
  pub told :
      (shown : List Shown) (lives : List Life) → AreOneBook false shown lives →
      FormedNotices (reverse (crossings_of shown)) (notices_of shown)
  pub safe :
      (raw : Bool) (shown : List Shown) (lives : List Life) → AreOneBook raw shown lives →
      (handed : List (List Bool)) × SafeBook (reverse (crossings_of shown)) lives handed
  pub joined :
      (raw : Bool) (shown : List Shown) (lives : List Life) (b : Book) → AreOneBook raw shown lives →
      b.crossings ≡ reverse (crossings_of shown) → b.reports ≡ reports_of shown → b.lives ≡ lives → JoinedBook b
  pub run :
      (raw : Bool) (shown : List Shown) (lives : List Life) → AreOneBook raw shown lives →
      (hosts : List Host) × IsRun hosts (reverse (crossings_of shown))
  pub lived :
      (raw : Bool) (shown : List Shown) (lives : List Life) → AreOneBook raw shown lives →
      AreLived (reverse (crossings_of shown)) (notices_of shown) lives

-- Lines that no book has.
pub record WorkedLines : Type 0 where
  -- a message that comes in and never went out
  pub never_out :
      (raw : Bool) (m : HostMessage) (lives : List Life) → AreOneBook raw (lines.Crossed (crossing.In m) ∷ []) lives → ⊥
  -- a notice that bits have arrived, where nothing crossed
  pub nothing_in :
      (raw : Bool) (h : Host) (socket : ℕ) (bits : List Bool) (lives : List Life) →
      AreOneBook raw (lines.Noticed (record { host = h; place = 0; notice = notice.Arrived socket bits }) ∷ []) lives →
      ⊥
  -- a notice that an end is open, without its life
  pub no_life :
      (raw : Bool) (h peer : Host) (socket foreign own partner : ℕ) →
      AreOneBook raw
      (lines.Noticed (record { host = h; place = 0; notice = notice.Opened socket peer foreign own partner }) ∷ []) [] →
      ⊥
  -- a life without a notice
  pub no_notice : (raw : Bool) (life : Life) (lives : List Life) → AreOneBook raw [] (life ∷ lives) → ⊥
  -- data that went out without a notice, where hosts have programs
  pub no_programs :
      (m : HostMessage) → (m.flow.link.0 == 0) ≡ false → AreOneBook false (lines.Crossed (crossing.Out m) ∷ []) [] → ⊥
  -- and beside a report of a service, in any network
  pub no_services :
      (raw : Bool) (m : HostMessage) (r : Reported) → (m.flow.link.0 == 0) ≡ false →
      AreOneBook raw (lines.Crossed (crossing.Out m) ∷ lines.Said r ∷ []) [] → ⊥
  -- such lines are neither printed by a replay nor the first part of one
  pub not_printed :
      (raw book : Bool) (detail : Detail) (before after : Option (List ℕ)) (m : HostMessage)
      (p : PrintsBook raw book detail before after) → p.shown ≡ lines.Crossed (crossing.In m) ∷ [] → ⊥
  pub not_in_part :
      (raw : Bool) (detail : Detail) (before after : Option (List ℕ)) (m : HostMessage)
      (p : PrintsPart raw detail before after) → p.shown ≡ lines.Crossed (crossing.In m) ∷ [] → ⊥

-- Lines and lives that no book of a network with strangers has.
pub record WorkedAmong : Type 0 where
  -- a message that comes in and never went out, whoever is a stranger
  pub never_out :
      (strange : Host → Bool) (m : HostMessage) (lives : List Life) →
      AreOneBookAmong strange (lines.Crossed (crossing.In m) ∷ []) lives → ⊥
  -- a notice that bits have arrived, where nothing crossed
  pub nothing_in :
      (strange : Host → Bool) (h : Host) (socket : ℕ) (bits : List Bool) (lives : List Life) →
      AreOneBookAmong strange
      (lines.Noticed (record { host = h; place = 0; notice = notice.Arrived socket bits }) ∷ []) lives → ⊥
  -- data that went out from a host with a program to another one, without a notice
  pub untold :
      (strange : Host → Bool) (m : HostMessage) (lives : List Life) → strange m.flow.source ≡ false →
      strange m.flow.destination ≡ false → (m.flow.link.0 == 0) ≡ false →
      AreOneBookAmong strange (lines.Crossed (crossing.Out m) ∷ []) lives → ⊥
  -- a life without a notice, and a stranger's life
  pub no_notice :
      (strange : Host → Bool) (life : Life) (lives : List Life) → AreOneBookAmong strange [] (life ∷ lives) → ⊥
  pub of_stranger :
      (strange : Host → Bool) (life : Life) (lives : List Life) (shown : List Shown) → strange life.host ≡ true →
      AreOneBookAmong strange shown (life ∷ lives) → ⊥
  -- such lines are not printed by a replay
  pub not_printed :
      (strange : Host → Bool) (book : Bool) (detail : Detail) (before after : Option (List ℕ)) (m : HostMessage)
      (p : PrintsBookAmong strange book detail before after) → p.shown ≡ lines.Crossed (crossing.In m) ∷ [] → ⊥

-- Lives that no replay shows.
pub record WorkedLives : Type 0 where
  -- those of another book: where nothing happened there are none
  pub another_book :
      (opening : Boxes) (life : Life) (lives : List Life) (shows : List Shown) →
      WorldShowsFrom plain_calls opening [] (life ∷ lives) shows → ⊥
  -- those of the book without the last one
  pub without_the_last :
      (opening : Boxes) (events : List WorldEvent) (lives : List Life) (last : Life) (shows more : List Shown) →
      WorldShowsFrom plain_calls opening events (lives ++ last ∷ []) shows →
      WorldShowsFrom plain_calls opening events lives more → ⊥
