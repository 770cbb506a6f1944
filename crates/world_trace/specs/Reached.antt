-- Worlds to which the replay of a script comes, and that texts say all of their states.
use Rattle.std.specs.Prelude.{◌≡◌, false, ℕ, ◌+◌, ◌≤◌, length, List, Option}
use Rattle.std.specs.List.{All}
use Rattle.interface.specs.Calls.{Calls}
use Rattle.interface.specs.Host.{Host, most_imps}
use Rattle.interface.specs.declared.crossing.Crossing.{Crossing}
use Rattle.interface.specs.declared.crossing.Crossing.TheVariants as crossing
use Rattle.leader1822.specs.Boxes.{Boxes, opening_boxes, plain_calls}
use Rattle.net_sim.specs.Carriers.{shown}
use Rattle.net_sim.specs.World.{WorldState, opening_world}
use Rattle.script.specs.Spelling.{IsHost, IsMessage}
use Rattle.subnet.specs.Calls.{Kept, running}
use Rattle.subnet.specs.Opening.{hosts_from, opening_subnet}
use Rattle.subnet.specs.Working.{subnet_calls}
use Rattle.subnet.specs.declared.Ends.{Ends}
use Rattle.subnet_trace.specs.Told as subnet
use Rattle.trace.specs.Parts.{Part, IsPart}
use Rattle.trace.specs.Texts.{part_text}
use Rattle.world_replay.specs.Output.{Shown}
use Rattle.world_replay.specs.Replay.{Replays}
use Rattle.world_script.specs.WorldSpelling.{IsWorldEvent}
use Rattle.world_script.specs.declared.event.WorldEvent.{WorldEvent}
use Rattle.world_trace.specs.Told.{AreNumbersTold, HaveSameTexts}

-- a message that goes out is one that a script may ask for
abbrev pub IsSaid : Crossing → Type 0
IsSaid (crossing.Out m) = IsMessage m
IsSaid c = Unit {0}

-- a replay comes to this world, from an opening, by events that a script may ask for. Its numbers, and the messages that went out, are such
-- as their types have
pub record IsReached {C : Type 0} (calls : Calls C) (opening : C) (w : WorldState C) : Type 0 where
  pub script : List WorldEvent
  pub valid : All (IsWorldEvent false) script
  pub lines : List Shown
  pub replays : Replays (shown calls) (opening_world calls opening) script w lines
  pub numbers : AreNumbersTold w
  pub said : All IsSaid w.kept.book.crossings

-- two such worlds over plain mailboxes between the same hosts, with the same texts of all parts, programs and services, are in the same state, but for
-- the log and what is kept
abbrev pub PlainStates : Type 0
PlainStates =
    (hosts : List Host) (one other : WorldState Boxes) → All IsHost hosts → IsReached plain_calls (opening_boxes hosts) one → IsReached plain_calls (opening_boxes hosts) other →
    ((p : Part) → IsPart hosts p → part_text one.carrier p ≡ part_text other.carrier p) → HaveSameTexts one other →
    other ≡ record one { carrier = record one.carrier { log = other.carrier.log }; kept = other.kept }

-- and so are two over subnets of the same IMPs and lines
abbrev pub SubnetStates : Type 0
SubnetStates =
    (sites : List (Option ℕ)) (ends : List Ends) (one other : WorldState Kept) → length sites ≤ most_imps + 1 →
    IsReached subnet_calls (running (opening_subnet (hosts_from 0 sites) sites ends)) one → IsReached subnet_calls (running (opening_subnet (hosts_from 0 sites) sites ends)) other →
    subnet.SameTexts one.carrier.net other.carrier.net → HaveSameTexts one other →
    other ≡ record one { carrier = record one.carrier { net = record one.carrier.net { log = other.carrier.net.log } }; kept = other.kept }
