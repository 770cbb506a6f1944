-- What the contracts of private functions say. No public clause cites this file.
use Rattle.std.specs.Prelude.{◌≡◌, ℕ, ◌+◌, ◌-◌, Bool, true, false, if◌then◌else◌, nat_lt, Option, Some, None}
use Rattle.interface.specs.declared.event.Direction.{Direction}
use Rattle.interface.specs.declared.event.Direction.TheVariants as way
use Rattle.interface.specs.declared.event.NetEvent.{NetEvent}
use Rattle.interface.specs.declared.event.NetEvent.TheVariants as net
use Rattle.script.specs.declared.event.RawEvent.{RawEvent}
use Rattle.script.specs.declared.event.RawEvent.TheVariants as event
use Rattle.subnet.specs.Events.{gives, offer_out, stepped, take_in}
use Rattle.subnet.specs.Net.{Net}
use Rattle.trace.specs.Elements.{Course, no_course, one_event, then_course}
use Rattle.subnet_trace.specs.Elements.{can_resend, is_heard, is_working, live_frames, round_left}
use Rattle.subnet_trace.specs.declared.place.Stage.{Stage}
use Rattle.subnet_trace.specs.declared.place.Stage.TheVariants as stage

-- ---- what comes next in a round

-- a call that may come in a calm: an IMP sends its distances or sends again only where it is up, and of a line's frames the oldest is moved
abbrev pub MayCall : Net → NetEvent → Type 0
MayCall n (net.Route i) = is_working n i ≡ true
MayCall n (net.Resend i) = is_working n i ≡ true
MayCall n (net.Deliver l d k) = k ≡ 0
MayCall n (net.Drop l d k) = k ≡ 0
MayCall n e = ⊥

-- an event that may come in a calm: such a call, or a taking that gives something
abbrev pub MayCome : Net → RawEvent → Type 0
MayCome n (event.Net e) = MayCall n e
MayCome n (event.Take h) = gives n h ≡ true
MayCome n (event.Out m) = ⊥
MayCome n (event.Calm rounds) = ⊥

-- the subnet after it
abbrev pub after : Net → RawEvent → Net
after n (event.Net e) = stepped n e
after n (event.Take h) = take_in n h
after n (event.Out m) = offer_out n m
after n (event.Calm rounds) = n

-- What is left of a round, whatever its number: nothing; or this event, which may come in a calm, and then what is left at this stage
abbrev pub IsNext : Net → (ℕ → Course Net) → Option (RawEvent × Stage) → Type 0
IsNext n course None = (round : ℕ) → course round ≡ no_course n
IsNext n course (Some next) =
    MayCome n next.0 × ((round : ℕ) → course round ≡ then_course (one_event round next.0 (after n next.0)) (round_left round next.1))

-- ---- single events, and the stages after them

-- what an IMP does, where it has sent its distances, or has not
abbrev pub call_of : Net → ℕ → Bool → Option (RawEvent × Stage)
call_of n i false = if is_working n i then Some (event.Net (net.Route i), stage.Refreshing i true) else None
call_of n i true = if can_resend n i then Some (event.Net (net.Resend i), stage.Refreshing (i + 1) false) else None

-- the oldest frame of a directed line is delivered or dropped; this many frames are left after it
abbrev pub frame_moved : Net → ℕ → Direction → ℕ → RawEvent × Stage
frame_moved n l d frames = if is_heard n l d then (event.Net (net.Deliver l d 0), stage.Carrying l d frames true) else (event.Net (net.Drop l d 0), stage.Carrying l d frames false)

-- a directed line's turn begins, if a frame is live
abbrev pub turn_begun : Net → ℕ → Direction → Option (RawEvent × Stage)
turn_begun n l d = if nat_lt 0 (live_frames n l d) then Some (frame_moved n l d (live_frames n l d - 1)) else None

-- and the line's other turn: after the turn forward comes the turn back
abbrev pub other_turn_begun : Net → ℕ → Direction → Option (RawEvent × Stage)
other_turn_begun n l way.Forward = turn_begun n l way.Back
other_turn_begun n l way.Back = None
