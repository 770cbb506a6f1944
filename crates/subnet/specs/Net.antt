-- All IMPs and lines of a subnet (Heart et al., SJCC 1970: IMPs joined by lines, each line in use both ways at once).
use Rattle.std.specs.Prelude.{ℕ, ◌+◌, ◌-◌, Bool, List, [], ◌∷◌, ◌++◌, length, take, drop, Option, Some, None, slice_index_or, slice_set, nat_lt, ◌==◌, ◌||◌, if◌then◌else◌, count_by}
use Rattle.interface.specs.Host.{Host}
use Rattle.interface.specs.declared.crossing.Crossing.{Crossing}
use Rattle.interface.specs.declared.event.Direction.{Direction}
use Rattle.interface.specs.declared.event.Direction.TheVariants as way
use Rattle.imp_channel.specs.declared.frame.Frame.{Frame}
use Rattle.imp_node.specs.declared.outgoing.Outgoing.{Outgoing}
use Rattle.imp_node.specs.State.{State, ImpTurn}

-- a line between two IMPs, and the frames that are live on it each way, the oldest first
pub record Wire : Type 0 where
  pub a : ℕ
  pub b : ℕ
  pub forward : List Frame
  pub back : List Frame

pub record Net : Type 0 where
  -- all hosts of the network, by IMP and number
  pub hosts : List Host
  -- by number: how many hosts an IMP has, where there is one
  pub sites : List (Option ℕ)
  -- by number: the IMP, where it is there and up
  pub imps : List (Option State)
  pub lines : List Wire
  -- all crossings so far, newest first
  pub log : List Crossing

-- the IMP of this number, if it is up
abbrev pub imp_at : List (Option State) → ℕ → Option State
imp_at imps i = slice_index_or imps i None

-- ---- lines and their ends

-- this many frames can be live on a line each way
abbrev pub line_places : ℕ
line_places = 256

-- a line that isn't there is like an empty one
abbrev pub no_wire : Wire
no_wire = record { a = 0; b = 0; forward = []; back = [] }

abbrev pub wire_at : List Wire → ℕ → Wire
wire_at lines l = slice_index_or lines l no_wire

-- whether a line has an end at this IMP
abbrev pub ends_at : ℕ → Wire → Bool
ends_at i w = w.a == i || w.b == i

-- an IMP's ports are its lines in their order: the port that is its end of this line
abbrev pub port_of : List Wire → ℕ → ℕ → ℕ
port_of lines i l = count_by (ends_at i) (take l lines)

-- and the line at this port, counted from `l`
abbrev pub line_from : ℕ → List Wire → ℕ → ℕ → Option ℕ
line_from l [] i k = None
line_from l (w ∷ ws) i k =
    if ends_at i w
    then (if k == 0 then Some l else line_from (l + 1) ws i (k - 1))
    else line_from (l + 1) ws i k

-- a frame comes after the others; on a full line it is lost, and those that are there stay
abbrev pub followed_by : List Frame → Frame → List Frame
followed_by frames f = if nat_lt (length frames) line_places then frames ++ f ∷ [] else frames

-- IMP `i` puts a frame on a line: it goes the way that leads from there
abbrev pub with_frame : ℕ → Frame → Wire → Wire
with_frame i f w = if w.a == i then record w { forward = followed_by w.forward f } else record w { back = followed_by w.back f }

abbrev pub put_on : List Wire → ℕ → Frame → Option ℕ → List Wire
put_on lines i f None = lines
put_on lines i f (Some l) = slice_set lines l (with_frame i f (wire_at lines l))

-- IMP `i` puts a frame on the line of one of its ports
abbrev pub put_one : List Wire → ℕ → Outgoing → List Wire
put_one lines i out = put_on lines i out.frame (line_from 0 lines i out.port)

-- and one frame after another
abbrev pub put_all : List Wire → ℕ → List Outgoing → List Wire
put_all lines i [] = lines
put_all lines i (out ∷ outs) = put_all (put_one lines i out) i outs

-- IMP `i` after a call, with its frames on their lines
abbrev pub with_turn : ℕ → ImpTurn → Net → Net
with_turn i turn n = record n { imps = slice_set n.imps i (Some turn.state); lines = put_all n.lines i turn.frames }

-- ---- frames on lines

-- the live frames that go one way, the oldest first
abbrev pub frames_on : Direction → Wire → List Frame
frames_on way.Forward w = w.forward
frames_on way.Back w = w.back

-- the IMP that a frame goes to
abbrev pub far_end : Direction → Wire → ℕ
far_end way.Forward w = w.b
far_end way.Back w = w.a

-- all elements but the one at this place
abbrev pub without_at : {A : Type 0} → ℕ → List A → List A
without_at k xs = take k xs ++ drop (k + 1) xs

-- a line without one of its frames
abbrev pub dropping : Direction → ℕ → Wire → Wire
dropping way.Forward k w = record w { forward = without_at k w.forward }
dropping way.Back k w = record w { back = without_at k w.back }
