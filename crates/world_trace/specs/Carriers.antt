-- A world's carrier as a raw network: which events of it a world's script makes.
use Rattle.std.specs.Prelude.{◌≡◌, List, [], ◌∷◌, ◌++◌, Option, ℕ, reverse}
use Rattle.std.specs.List.{All}
use Rattle.interface.specs.Calls.{Calls}
use Rattle.interface.specs.Host.{Host}
use Rattle.leader1822.specs.Boxes.{Boxes, opening_boxes, plain_calls}
use Rattle.net_sim.specs.Carriers.{shown}
use Rattle.net_sim.specs.World.{WorldState, opening_world}
use Rattle.replay.specs.InTurn.{InTurn}
use Rattle.replay.specs.Output.{crossings_of}
use Rattle.replay.specs.Output as raw_lines
use Rattle.replay.specs.Replay as raw
use Rattle.replay.specs.Replay.{IsOneCall}
use Rattle.script.specs.declared.event.RawEvent.{RawEvent}
use Rattle.subnet.specs.Calls.{Kept, running}
use Rattle.subnet.specs.Opening.{opening_subnet}
use Rattle.subnet.specs.Working.{subnet_calls}
use Rattle.subnet.specs.declared.Ends.{Ends}
use Rattle.subnet_trace.specs.Elements.{IsOfRound}
use Rattle.world_replay.specs.Driven.{Drive, IsDrivenIn, Raw, Round}
use Rattle.world_replay.specs.Output.{Shown}
use Rattle.world_replay.specs.Replay.{Replays}
use Rattle.world_script.specs.declared.event.WorldEvent.{WorldEvent}

-- calls of a carrier as events of a raw network: a quiet round is the calls of IMPs and of lines of which it is made, or none
abbrev pub AreMade : List Drive → List RawEvent → Type 0
AreMade [] events = events ≡ []
AreMade (Raw e ∷ drives) events = (others : List RawEvent) × (events ≡ e ∷ others) × AreMade drives others
AreMade (Round ∷ drives) events = (quiet : List RawEvent) × (others : List RawEvent) × All IsOfRound quiet × (events ≡ quiet ++ others) × AreMade drives others

-- a script leads a world's carrier from its opening to where events of a raw network lead it
pub record IsRawNetwork {C : Type 0} (calls : Calls C) (opening : C) (script : List WorldEvent) (w : WorldState C) : Type 0 where
  -- the script drives the carrier by these calls, each of which is an event of the network, or made of such
  pub drives : List Drive
  pub driven : InTurn (IsDrivenIn calls) (opening_world calls opening) script w drives
  pub events : List RawEvent
  pub made : AreMade drives events
  pub one_call : All IsOneCall events
  -- they lead to the carrier, and what crosses by them is what the world's book has
  pub lines : List raw_lines.Shown
  pub replays : raw.Replays calls opening events w.carrier lines
  pub crossed : w.kept.book.crossings ≡ reverse (crossings_of lines)

-- so it is of each world that the replay of a script comes to, over plain mailboxes
abbrev pub PlainCarriers : Type 0
PlainCarriers =
    (hosts : List Host) (script : List WorldEvent) (w : WorldState Boxes) (lines : List Shown) →
    Replays (shown plain_calls) (opening_world plain_calls (opening_boxes hosts)) script w lines → IsRawNetwork plain_calls (opening_boxes hosts) script w

-- and over subnets
abbrev pub SubnetCarriers : Type 0
SubnetCarriers =
    (hosts : List Host) (sites : List (Option ℕ)) (ends : List Ends) (script : List WorldEvent) (w : WorldState Kept) (lines : List Shown) →
    Replays (shown subnet_calls) (opening_world subnet_calls (running (opening_subnet hosts sites ends))) script w lines →
    IsRawNetwork subnet_calls (running (opening_subnet hosts sites ends)) script w
