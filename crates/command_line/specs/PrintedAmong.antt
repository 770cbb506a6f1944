-- The output of a network with strangers, for whoever knows neither the input nor the network.
use Rattle.std.specs.Prelude.{◌≡◌, ◌&&◌, ℕ, Bool, true, false, List, length, ◌++◌, Option, codes}
use Rattle.std.specs.Io.KnownBytes.{Appends}
use Rattle.std.specs.List.{Contains}
use Rattle.interface.specs.Host.{Host, is_host}
use Rattle.interface.specs.Mailboxes.{IsRun}
use Rattle.interface.specs.Messages.{SafeMessages}
use Rattle.mixed_worlds.specs.Book.{beside_among, lives_among}
use Rattle.mixed_worlds.specs.Told.{ToldAmong}
use Rattle.mixed_worlds.specs.Toward.{AreOnce, HasAsked, IsCarried}
use Rattle.promise.specs.Connections.{JoinedBook}
use Rattle.promise.specs.Formed.{FormedBook}
use Rattle.promise.specs.Safe.{IsGranted, SafeBook, receives}
use Rattle.promise.specs.declared.life.Life.{Life}
use Rattle.replay.specs.declared.print.Detail.{Detail}
use Rattle.topology.specs.Topology.{TopologyFields, hosts_of}
use Rattle.world_replay.specs.Output.{Shown, notices_of, output}
use Rattle.command_line.specs.Lived.{AreLived}
use Rattle.command_line.specs.Events.{Asked, Raw, World, are_some}
use Rattle.command_line.specs.Printed.{PrintsBook, PrintsPart, log_of, shown_book}
use Rattle.command_line.specs.Replayed.{book_text}

-- the strangers of a topology: hosts of the network that it names as such
abbrev pub are_strange : TopologyFields → Host → Bool
are_strange t h = is_host t.strangers h && is_host (hosts_of t) h

-- these lines, with these lives, are one book of a network in which such hosts are strangers
pub record AreOneBookAmong (strange : Host → Bool) (shown : List Shown) (lives : List Life) : Type 0 where
  -- what was handed over to be sent, a list for each life, and the hosts of the network. No line shows these
  pub handed : List (List Bool)
  pub hosts : List Host
  -- what crossed is a run of the mailboxes, and RFNM of a message says that it was taken, once
  pub run : IsRun hosts (log_of shown)
  pub messages : SafeMessages (log_of shown)
  -- the lives are those that crossings and notices make
  pub lived : AreLived (log_of shown) (notices_of shown) lives
  -- those among hosts with programs are formed, of messages that crossed, and safe; notices of data among these hosts
  -- are of such messages; and finished initial connections among them are joined
  pub formed : FormedBook (log_of shown) (lives_among strange lives)
  pub safe : SafeBook (log_of shown) (lives_among strange lives) (beside_among strange lives handed)
  pub told : ToldAmong strange (log_of shown) (notices_of shown)
  pub joined : JoinedBook (shown_book shown (lives_among strange lives))
  -- whoever the peer is: no life is a stranger's, both requests of each crossed at its stamps, and no two have one
  -- request; its bits are those of messages on one link, in their order; and what it took is within what it granted
  pub owner : (x : Life) → Contains lives x → strange x.host ≡ false
  pub asked : (x : Life) → Contains lives x → HasAsked (log_of shown) x
  pub once : AreOnce lives
  pub carried : (x : Life) → Contains lives x → IsCarried (log_of shown) x
  pub taken : (x : Life) → Contains lives x → receives x ≡ true → IsGranted x x.messages (length x.bits)

-- lines are written, then the lives of their book where it is asked for, and a last line `end`
pub record PrintsBookAmong (strange : Host → Bool) (book : Bool) (detail : Detail)
    (before after : Option (List ℕ)) : Type 0 where
  pub shown : List Shown
  pub lives : List Life
  pub one : AreOneBookAmong strange shown lives
  pub written : Appends before after (output detail shown ++ (book_text book lives ++ codes "end\n"))

-- lines are written, and nothing else
pub record PrintsPartAmong (strange : Host → Bool) (detail : Detail)
    (before after : Option (List ℕ)) : Type 0 where
  pub shown : List Shown
  pub lives : List Life
  pub one : AreOneBookAmong strange shown lives
  pub written : Appends before after (output detail shown)

-- ---- any network

-- what is written is one book: of the hosts with programs where some are strangers, and of the whole network where none are
abbrev pub PrintsIn : Bool → TopologyFields → Asked → Bool → Detail → Option (List ℕ) → Option (List ℕ) → Type 0
PrintsIn among t (Raw events) book detail before after = PrintsBook true book detail before after
PrintsIn true t (World events) book detail before after = PrintsBookAmong (are_strange t) book detail before after
PrintsIn false t (World events) book detail before after = PrintsBook false book detail before after

abbrev pub PrintsOn : TopologyFields → Asked → Bool → Detail → Option (List ℕ) → Option (List ℕ) → Type 0
PrintsOn t events book detail before after = PrintsIn (are_some t.strangers) t events book detail before after

-- lines of such a book are written
abbrev pub PrintsPartIn : Bool → TopologyFields → Asked → Detail → Option (List ℕ) → Option (List ℕ) → Type 0
PrintsPartIn among t (Raw events) detail before after = PrintsPart true detail before after
PrintsPartIn true t (World events) detail before after = PrintsPartAmong (are_strange t) detail before after
PrintsPartIn false t (World events) detail before after = PrintsPart false detail before after

abbrev pub PrintsPartOn : TopologyFields → Asked → Detail → Option (List ℕ) → Option (List ℕ) → Type 0
PrintsPartOn t events detail before after = PrintsPartIn (are_some t.strangers) t events detail before after
