-- What the simulator writes.
use Rattle.std.specs.Prelude.{◌≡◌, ℕ, Bool, true, false, IfSome, List, [], ◌++◌, reverse, Option, codes}
use Rattle.std.specs.Io.KnownBytes.{Appends}
use Rattle.headline.specs.Promise.{WorldKeeps}
use Rattle.interface.specs.Host.{Host}
use Rattle.interface.specs.Mailboxes.{IsRun}
use Rattle.interface.specs.Messages.{SafeMessages}
use Rattle.mixed_worlds.specs.Laws.{KeepsAmong, KeepsToward}
use Rattle.promise.specs.Book.{Book}
use Rattle.net_sim.specs.Carriers.{shown}
use Rattle.net_sim.specs.Steps.{opening_mixed, strange_in}
use Rattle.net_sim.specs.World.{WorldState, opening_world}
use Rattle.promise.specs.declared.life.Life.{Life}
use Rattle.replay.specs.Output.{Shown, Writes, crossings_of, output}
use Rattle.replay.specs.Replay.{EndsIn, Replays}
use Rattle.replay.specs.Replay as raw
use Rattle.interface.specs.Calls.{Calls}
use Rattle.replay.specs.declared.print.Detail.{Detail}
use Rattle.script.specs.declared.event.RawEvent.{RawEvent}
use Rattle.topology.specs.Topology.{TopologyFields}
use Rattle.topology.specs.declared.network.CarrierKind.{CarrierKind}
use Rattle.topology.specs.declared.network.CarrierKind.TheVariants as kind
use Rattle.world_replay.specs.Output as lines
use Rattle.world_replay.specs.Output.{lives_output}
use Rattle.world_replay.specs.Replay as worlds
use Rattle.world_script.specs.declared.event.WorldEvent.{WorldEvent}
use Rattle.leader1822.specs.Boxes.{plain_calls}
use Rattle.subnet.specs.Working.{subnet_calls}
use Rattle.command_line.specs.Carriers.{plain_of, subnet_of}
use Rattle.command_line.specs.Events.{Asked, Raw, World, are_some}
use Rattle.command_line.specs.Input.{IsInput}
use Rattle.command_line.specs.Stopping.{NothingOr}

-- ---- a network without host programs

-- events are replayed over a carrier with such calls, which shows these lines; the lines have all that crossed since its
-- opening, and that is a run of the mailboxes, on which every host may rely
pub record ShowsFrom {C : Type 0} (calls : Calls C) (opening : C) (events : List RawEvent) (shown : List Shown) : Type 0 where
  pub last : C
  pub replayed : Replays calls opening events last shown
  pub crossed : (calls.seen last).log ≡ reverse (crossings_of shown)
  pub messages : SafeMessages (calls.seen last).log
  pub run : IsRun (calls.seen last).hosts (calls.seen last).log

-- memory ran out in one of the events: what was shown by then, and all that crossed
pub record StopsFrom {C : Type 0} (calls : Calls C) (opening : C) (events : List RawEvent) (shown : List Shown) : Type 0 where
  pub last : C
  pub stopped : EndsIn calls raw.StopsIn opening events last shown
  pub crossed : (calls.seen last).log ≡ reverse (crossings_of shown)
  pub messages : SafeMessages (calls.seen last).log
  pub run : IsRun (calls.seen last).hosts (calls.seen last).log

-- what all events show is written, and a last line `end`
pub record WritesAll (detail : Detail) (AreShown : List Shown → Type 0) (before after : Option (List ℕ)) : Type 0 where
  pub shown : List Shown
  pub shows : AreShown shown
  pub written : Appends before after (output detail shown ++ codes "end\n")

-- ---- a network whose hosts have programs

-- lines have all the crossings, notices and reports of a book, and no others
pub record ShowsBook (book : Book) (shows : List lines.Shown) : Type 0 where
  pub crossed : book.crossings ≡ reverse (lines.crossings_of shows)
  pub told : book.notices ≡ lines.notices_of shows
  pub said : book.reports ≡ lines.reports_of shows

-- events are replayed in a world over such a carrier, and show these lines. The lines have what is in the book of this world, the lives are those
-- of its book, and its book keeps the promise
pub record WorldShowsFrom {C : Type 0} (calls : Calls C) (opening : C) (events : List WorldEvent) (lives : List Life) (shows : List lines.Shown) : Type 0 where
  pub last : WorldState C
  pub replayed : worlds.Replays (shown calls) (opening_world (shown calls) opening) events last shows
  pub booked : ShowsBook last.kept.book shows
  pub left : lives ≡ last.kept.book.lives
  pub promise : WorldKeeps calls.seen last

-- memory ran out in one of the events: the lines that were shown by then have what is in the world's book, and its book keeps the promise
pub record WorldStopsFrom {C : Type 0} (calls : Calls C) (opening : C) (events : List WorldEvent) (shows : List lines.Shown) : Type 0 where
  pub last : WorldState C
  pub stopped : worlds.EndsIn (shown calls) (worlds.StopsIn (shown calls)) (opening_world (shown calls) opening) events last shows
  pub booked : ShowsBook last.kept.book shows
  pub promise : WorldKeeps calls.seen last

-- the same in a world in which these hosts are strangers. Its book keeps what is promised among hosts with programs and, of each of these, toward all
-- others
pub record ShowsAmong {C : Type 0} (calls : Calls C) (strangers : List Host) (opening : C)
    (events : List WorldEvent) (lives : List Life) (shows : List lines.Shown) : Type 0 where
  pub last : WorldState C
  pub replayed : worlds.Replays (shown calls) (opening_mixed (shown calls) opening strangers) events last shows
  pub booked : ShowsBook last.kept.book shows
  pub left : lives ≡ last.kept.book.lives
  pub among : KeepsAmong (strange_in last) (calls.seen last.carrier).hosts last
  pub toward : KeepsToward (strange_in last) last

-- and memory ran out in one of the events: its book keeps the same
pub record StopsAmong {C : Type 0} (calls : Calls C) (strangers : List Host) (opening : C)
    (events : List WorldEvent) (shows : List lines.Shown) : Type 0 where
  pub last : WorldState C
  pub stopped : worlds.EndsIn (shown calls) (worlds.StopsIn (shown calls))
      (opening_mixed (shown calls) opening strangers) events last shows
  pub booked : ShowsBook last.kept.book shows
  pub among : KeepsAmong (strange_in last) (calls.seen last.carrier).hosts last
  pub toward : KeepsToward (strange_in last) last

-- with strangers or without
abbrev pub ShowsIn : {C : Type 0} → Bool → Calls C → List Host → C → List WorldEvent → List Life → List lines.Shown → Type 0
ShowsIn true calls strangers opening events lives shows = ShowsAmong calls strangers opening events lives shows
ShowsIn false calls strangers opening events lives shows = WorldShowsFrom calls opening events lives shows

abbrev pub StopsIn : {C : Type 0} → Bool → Calls C → List Host → C → List WorldEvent → List lines.Shown → Type 0
StopsIn true calls strangers opening events shows = StopsAmong calls strangers opening events shows
StopsIn false calls strangers opening events shows = WorldStopsFrom calls opening events shows

-- the lives, where the book is asked for
abbrev pub book_text : Bool → List Life → List ℕ
book_text true lives = lives_output lives
book_text false lives = []

-- what all events show is written, then the lives where the book is asked for, and a last line `end`
pub record WritesWorld (book : Bool) (detail : Detail) (AreShown : List Life → List lines.Shown → Type 0) (before after : Option (List ℕ)) : Type 0 where
  pub shown : List lines.Shown
  pub lives : List Life
  pub shows : AreShown lives shown
  pub written : Appends before after (lines.output detail shown ++ (book_text book lives ++ codes "end\n"))

-- ---- any network

-- events are replayed over a carrier with such calls, without host programs or with them, some hosts being strangers or none
abbrev pub ReplaysFrom : {C : Type 0} → Calls C → List Host → C → Bool → Detail → Asked → Option (List ℕ) → Option (List ℕ) → Type 0
ReplaysFrom calls strangers opening book detail (Raw events) before after = WritesAll detail (ShowsFrom calls opening events) before after
ReplaysFrom calls strangers opening book detail (World events) before after =
    WritesWorld book detail (ShowsIn (are_some strangers) calls strangers opening events) before after

abbrev pub EndsFrom : {C : Type 0} → Calls C → List Host → C → Detail → Asked → Option (List ℕ) → Option (List ℕ) → Type 0
EndsFrom calls strangers opening detail (Raw events) before after = Writes detail (StopsFrom calls opening events) before after
EndsFrom calls strangers opening detail (World events) before after =
    lines.Writes detail (StopsIn (are_some strangers) calls strangers opening events) before after

-- over the carrier that a topology names: plain mailboxes between its hosts, or the subnet of its IMPs and lines
abbrev pub ReplaysOver : CarrierKind → TopologyFields → Bool → Detail → Asked → Option (List ℕ) → Option (List ℕ) → Type 0
ReplaysOver kind.Plain t book detail events before after = ReplaysFrom plain_calls t.strangers (plain_of t) book detail events before after
ReplaysOver kind.Subnet t book detail events before after = ReplaysFrom subnet_calls t.strangers (subnet_of t) book detail events before after

abbrev pub EndsOver : CarrierKind → TopologyFields → Detail → Asked → Option (List ℕ) → Option (List ℕ) → Type 0
EndsOver kind.Plain t detail events before after = EndsFrom plain_calls t.strangers (plain_of t) detail events before after
EndsOver kind.Subnet t detail events before after = EndsFrom subnet_calls t.strangers (subnet_of t) detail events before after

abbrev pub ReplaysOn : TopologyFields → Bool → Detail → Asked → Option (List ℕ) → Option (List ℕ) → Type 0
ReplaysOn t book detail events before after = ReplaysOver t.carrier t book detail events before after

abbrev pub EndsOn : TopologyFields → Detail → Asked → Option (List ℕ) → Option (List ℕ) → Type 0
EndsOn t detail events before after = EndsOver t.carrier t detail events before after

-- the script of an input is replayed over the carrier of its topology
pub record ReplaysInput (book : Bool) (detail : Detail) (octets : List ℕ) (before after : Option (List ℕ)) : Type 0 where
  pub network : TopologyFields
  pub events : Asked
  pub input : IsInput octets network events
  pub replayed : ReplaysOn network book detail events before after

-- memory ran out while it was replayed: what was shown by then is written, and nothing else
pub record StopsInput (detail : Detail) (octets : List ℕ) (before after : Option (List ℕ)) : Type 0 where
  pub network : TopologyFields
  pub events : Asked
  pub input : IsInput octets network events
  pub stopped : EndsOn network detail events before after

-- nothing is written, or this much of a reader's octets, where these are known
abbrev pub StopsKnown : Detail → Option (List ℕ) → Option (List ℕ) → Option (List ℕ) → Type 0
StopsKnown detail known before after = IfSome known (λ octets. NothingOr (StopsInput detail octets) before after)

-- ---- for any reader. Which script and which topology it was, `ReplaysInput` and `StopsInput` say

-- the events of some script are replayed over the carrier of some topology
pub record Ran (book : Bool) (detail : Detail) (before after : Option (List ℕ)) : Type 0 where
  pub network : TopologyFields
  pub events : Asked
  pub replayed : ReplaysOn network book detail events before after

-- the same, until memory ran out
pub record RanInPart (detail : Detail) (before after : Option (List ℕ)) : Type 0 where
  pub network : TopologyFields
  pub events : Asked
  pub stopped : EndsOn network detail events before after
