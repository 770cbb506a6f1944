-- What is printed of events, and what a network keeps.
use Rattle.std.specs.Prelude.{◌≡◌, ℕ, List}
use Rattle.headline.specs.Promise.{WorldKeeps}
use Rattle.interface.specs.Calls.{Calls}
use Rattle.interface.specs.Mailboxes.{IsRun}
use Rattle.mixed_worlds.specs.Laws.{KeepsAmong, KeepsToward}
use Rattle.net_sim.specs.Carriers.{shown}
use Rattle.net_sim.specs.Steps.{strange_in}
use Rattle.net_sim.specs.World.{WorldState}
use Rattle.replay.specs.InTurn.{Happening, InTurn, text_of}
use Rattle.replay.specs.Output as raw_lines
use Rattle.replay.specs.Replay as raw
use Rattle.replay.specs.declared.print.Detail.TheVariants.{Texts}
use Rattle.script.specs.declared.event.RawEvent.{RawEvent}
use Rattle.world_replay.specs.Output as lines
use Rattle.world_replay.specs.Replay.{Happens}
use Rattle.world_script.specs.declared.event.WorldEvent.{WorldEvent}
use Rattle.session.specs.Turns.{Replaying}

-- events happen one after the other, the lines that they show are printed, and of the network after them this holds
abbrev pub ReplaysWith : {S E L : Type 0} → Happening S E L → (L → List ℕ) → (S → Type 0) → Replaying S E
ReplaysWith {S} {E} {L} Happens text Keeps old events new said = (lines : List L) × InTurn Happens old events new lines × (said ≡ text_of text lines) × Keeps new

-- its book keeps what is promised among hosts with programs and, of each of these, toward all others
abbrev pub KeepsAll : {C : Type 0} → Calls C → WorldState C → Type 0
KeepsAll calls s = KeepsAmong (strange_in s) (calls.seen s.carrier).hosts s × KeepsToward (strange_in s) s

-- what crossed is a run of the mailboxes, on which every host may rely
abbrev pub KeepsRun : {C : Type 0} → Calls C → C → Type 0
KeepsRun calls c = IsRun (calls.seen c).hosts (calls.seen c).log

-- how events are replayed on a network without host programs, in a world, and in one with strangers
abbrev pub ReplaysBare : {C : Type 0} → Calls C → Replaying C RawEvent
ReplaysBare calls = ReplaysWith (raw.Happens calls) (raw_lines.shown_text Texts) (KeepsRun calls)

abbrev pub ReplaysWorld : {C : Type 0} → Calls C → Replaying (WorldState C) WorldEvent
ReplaysWorld calls = ReplaysWith (Happens (shown calls)) (lines.shown_text Texts) (WorldKeeps calls.seen)

abbrev pub ReplaysMixed : {C : Type 0} → Calls C → Replaying (WorldState C) WorldEvent
ReplaysMixed calls = ReplaysWith (Happens (shown calls)) (lines.shown_text Texts) (KeepsAll calls)
