-- What is written of a replay as a log.
use Rattle.std.specs.Prelude.{◌≡◌, ℕ, Bool, true, false, List, [], ◌++◌, reverse, None, Option}
use Rattle.std.specs.Io.KnownBytes.{Appends}
use Rattle.book_log.specs.Log.{AreStrangers, Book, IsBook, log_text, logged_book, strangers_text}
use Rattle.book_judge.specs.Fates.{AreSuited}
use Rattle.headline.specs.Promise.{WorldKeeps}
use Rattle.interface.specs.Host.{Host}
use Rattle.interface.specs.Mailboxes.{IsRun}
use Rattle.interface.specs.Messages.{SafeMessages}
use Rattle.mixed_worlds.specs.Laws.{KeepsAmong, KeepsToward}
use Rattle.net_sim.specs.Book.{Kept}
use Rattle.net_sim.specs.Carriers.{shown}
use Rattle.net_sim.specs.Handed.{AreUnhanded}
use Rattle.net_sim.specs.Steps.{absent_in, opening_mixed, strange_in}
use Rattle.net_sim.specs.World.{WorldState, opening_world}
use Rattle.promise.specs.Fates.{AreFated}
use Rattle.interface.specs.declared.crossing.Crossing.{Crossing}
use Rattle.replay.specs.Output.{Shown}
use Rattle.replay.specs.Replay.{Replays}
use Rattle.interface.specs.Calls.{Calls}
use Rattle.script.specs.declared.event.RawEvent.{RawEvent}
use Rattle.topology.specs.Topology.{TopologyFields}
use Rattle.topology.specs.declared.network.CarrierKind.{CarrierKind}
use Rattle.topology.specs.declared.network.CarrierKind.TheVariants as kind
use Rattle.world_replay.specs.Output as lines
use Rattle.world_replay.specs.Replay as worlds
use Rattle.world_script.specs.declared.event.WorldEvent.{WorldEvent}
use Rattle.leader1822.specs.Boxes.{plain_calls}
use Rattle.subnet.specs.Working.{subnet_calls}
use Rattle.command_line.specs.Carriers.{plain_of, subnet_of}
use Rattle.command_line.specs.Events.{Asked, Raw, World, are_some}
use Rattle.command_line.specs.Input.{IsInput}

-- ---- the log of a replay

-- what a log says of a raw network: what crossed, and no lives
abbrev pub raw_book : List Crossing → Book
raw_book log = record { crossings = reverse log; lives = []; handed = [] }

-- what a log says of a world
abbrev pub world_book : Kept → Book
world_book k = logged_book (reverse k.book.crossings) k.book.lives k.handed k.fates

-- events are replayed over a carrier with such calls, and the log of what crossed is written, and nothing else. It says all values as they are
pub record LogsRaw {C : Type 0} (calls : Calls C) (opening : C) (events : List RawEvent) (before after : Option (List ℕ)) : Type 0 where
  pub last : C
  pub shown : List Shown
  pub replayed : Replays calls opening events last shown
  pub messages : SafeMessages (calls.seen last).log
  pub run : IsRun (calls.seen last).hosts (calls.seen last).log
  pub written : Appends before after (log_text (raw_book (calls.seen last).log))
  pub valid : IsBook (raw_book (calls.seen last).log)

-- events are replayed in a world over such a carrier, whose book keeps the promise and where each life has a fate that
-- what crossed leaves it, and only the log of this book is written. It says all values as they are
pub record LogsWorld {C : Type 0} (calls : Calls C) (opening : C) (events : List WorldEvent) (before after : Option (List ℕ)) : Type 0 where
  pub last : WorldState C
  pub shows : List lines.Shown
  pub replayed : worlds.Replays (shown calls) (opening_world (shown calls) opening) events last shows
  pub promise : WorldKeeps calls.seen last
  pub suited : AreSuited last.kept.book.crossings last.kept.book.lives last.kept.fates
  pub written : Appends before after (log_text (world_book last.kept))
  pub valid : IsBook (world_book last.kept)

-- events are replayed in a world over such a carrier in which these hosts are strangers: hosts of the network, by IMP
-- and then by number. Its book keeps what is promised among hosts with programs and, of each of these, toward all
-- others, and has a list and a fate for each life. A line for each stranger is written, then the log of this book, and
-- nothing else. It says all values as they are
pub record LogsAmong {C : Type 0} (calls : Calls C) (strangers : List Host) (opening : C)
    (events : List WorldEvent) (before after : Option (List ℕ)) : Type 0 where
  pub there : absent_in (calls.seen opening).hosts strangers ≡ None
  pub named : AreStrangers strangers
  pub last : WorldState C
  pub shows : List lines.Shown
  pub replayed : worlds.Replays (shown calls) (opening_mixed (shown calls) opening strangers) events last shows
  pub among : KeepsAmong (strange_in last) (calls.seen last.carrier).hosts last
  pub toward : KeepsToward (strange_in last) last
  pub lists : AreUnhanded last.kept.book.lives last.kept.handed
  pub fated : AreFated last.kept.book.lives last.kept.fates
  pub written : Appends before after (strangers_text strangers ++ log_text (world_book last.kept))
  pub valid : IsBook (world_book last.kept)

-- with strangers or without
abbrev pub LogsIn : {C : Type 0} → Bool → Calls C → List Host → C → List WorldEvent → Option (List ℕ) → Option (List ℕ) → Type 0
LogsIn true calls strangers opening events before after = LogsAmong calls strangers opening events before after
LogsIn false calls strangers opening events before after = LogsWorld calls opening events before after

abbrev pub LogsFrom : {C : Type 0} → Calls C → List Host → C → Asked → Option (List ℕ) → Option (List ℕ) → Type 0
LogsFrom calls strangers opening (Raw events) before after = LogsRaw calls opening events before after
LogsFrom calls strangers opening (World events) before after = LogsIn (are_some strangers) calls strangers opening events before after

-- over the carrier that a topology names: plain mailboxes between its hosts, or the subnet of its IMPs and lines
abbrev pub LogsOver : CarrierKind → TopologyFields → Asked → Option (List ℕ) → Option (List ℕ) → Type 0
LogsOver kind.Plain t events before after = LogsFrom plain_calls t.strangers (plain_of t) events before after
LogsOver kind.Subnet t events before after = LogsFrom subnet_calls t.strangers (subnet_of t) events before after

abbrev pub LogsOn : TopologyFields → Asked → Option (List ℕ) → Option (List ℕ) → Type 0
LogsOn t events before after = LogsOver t.carrier t events before after

-- the script of an input is replayed over the carrier of its topology, and the log of its book is written
pub record LogsInput (octets : List ℕ) (before after : Option (List ℕ)) : Type 0 where
  pub network : TopologyFields
  pub events : Asked
  pub input : IsInput octets network events
  pub logged : LogsOn network events before after

-- the same of some script over the carrier of some topology, for any reader
pub record Logged (before after : Option (List ℕ)) : Type 0 where
  pub network : TopologyFields
  pub events : Asked
  pub logged : LogsOn network events before after
