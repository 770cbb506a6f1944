-- Elementary events of a subnet: an event of a script, or within a calm each call of its quiet rounds that does something, and each
-- taking.
use Rattle.std.specs.Prelude.{ℕ, zero, suc, ◌+◌, ◌-◌, Bool, true, false, ◌&&◌, drop, if◌then◌else◌, length, nat_lt, List, [], ◌∷◌}
use Rattle.std.specs.List.{range_with_len}
use Rattle.interface.specs.declared.event.Direction.{Direction}
use Rattle.interface.specs.declared.event.Direction.TheVariants as way
use Rattle.interface.specs.declared.event.NetEvent.{NetEvent}
use Rattle.interface.specs.declared.event.NetEvent.TheVariants as net
use Rattle.script.specs.declared.event.RawEvent.{RawEvent}
use Rattle.script.specs.declared.event.RawEvent.TheVariants as event
use Rattle.imp_node.specs.Queries.{holds_packet}
use Rattle.subnet.specs.Alive.{says}
use Rattle.subnet.specs.Events.{gives, is_imp, stepped, take_in}
use Rattle.subnet.specs.Flows.{imp_is_up}
use Rattle.subnet.specs.Net.{Net, far_end, frames_on, imp_at, wire_at}
use Rattle.trace.specs.Elements.{Course, Giving, all_takings, elements_in, no_course, one_event, rest_of_calm, rounds_from, takings_from, then_course}
use Rattle.trace.specs.declared.element.Element.{Element}
use Rattle.subnet_trace.specs.declared.place.Place.{Place}
use Rattle.subnet_trace.specs.declared.place.Stage.{Stage}
use Rattle.subnet_trace.specs.declared.place.Stage.TheVariants as stage

-- ---- when an event does something

-- the numbers from `i` on, of this many in all
abbrev pub numbers_from : ℕ → ℕ → List ℕ
numbers_from i count = range_with_len i (count - i)

-- an IMP of the network that is up
abbrev pub is_working : Net → ℕ → Bool
is_working n i = is_imp n i && imp_is_up (imp_at n.imps i)

-- an IMP of the network is up and has a packet to send again
abbrev pub can_resend : Net → ℕ → Bool
can_resend n i = is_working n i && says holds_packet (imp_at n.imps i)

-- the IMP that frames of a directed line go to is up
abbrev pub is_heard : Net → ℕ → Direction → Bool
is_heard n l d = imp_is_up (imp_at n.imps (far_end d (wire_at n.lines l)))

-- how many frames of a directed line are live
abbrev pub live_frames : Net → ℕ → Direction → ℕ
live_frames n l d = length (frames_on d (wire_at n.lines l))

-- what hosts are given
abbrev pub from_subnet : Giving Net
from_subnet = record { is_given = gives; after = take_in }

-- ---- a round of a calm, part by part

-- one event of the subnet
abbrev pub calling : ℕ → NetEvent → Net → Course Net
calling round e n = one_event round (event.Net e) (stepped n e)

-- an IMP sends its distances, if it is up
abbrev pub telling : ℕ → ℕ → Net → Course Net
telling round i n = if is_working n i then calling round (net.Route i) n else no_course n

-- and sends again, if it holds a packet
abbrev pub sending : ℕ → ℕ → Net → Course Net
sending round i n = if can_resend n i then calling round (net.Resend i) n else no_course n

abbrev pub refreshing : ℕ → ℕ → Net → Course Net
refreshing round i n = then_course (telling round i n) (sending round i)

-- these IMPs, one after another
abbrev pub all_refreshing : ℕ → List ℕ → Net → Course Net
all_refreshing round [] n = no_course n
all_refreshing round (i ∷ numbers) n = then_course (refreshing round i n) (all_refreshing round numbers)

-- the oldest frame of a directed line arrives, if the IMP there is up
abbrev pub delivering : ℕ → ℕ → Direction → Net → Course Net
delivering round l d n = if is_heard n l d then calling round (net.Deliver l d 0) n else no_course n

-- and is gone from the line
abbrev pub dropping : ℕ → ℕ → Direction → Net → Course Net
dropping round l d n = calling round (net.Drop l d 0) n

-- this many frames of a directed line, the oldest first, if they are live
abbrev pub carrying : ℕ → ℕ → Direction → ℕ → Net → Course Net
carrying round l d zero n = no_course n
carrying round l d (suc frames) n =
    if nat_lt 0 (live_frames n l d)
    then then_course (then_course (delivering round l d n) (dropping round l d)) (carrying round l d frames)
    else no_course n

-- the turn of a directed line: the frames that are live when it begins
abbrev pub turning : ℕ → ℕ → Direction → Net → Course Net
turning round l d n = carrying round l d (live_frames n l d) n

-- these lines, one after another: from the first IMP, and then back
abbrev pub all_turning : ℕ → List ℕ → Net → Course Net
all_turning round [] n = no_course n
all_turning round (l ∷ lines) n = then_course (then_course (turning round l way.Forward n) (turning round l way.Back)) (all_turning round lines)

-- the calls of which a quiet round is made
abbrev pub IsOfRound : RawEvent → Type 0
IsOfRound (event.Net (net.Route i)) = Unit {0}
IsOfRound (event.Net (net.Resend i)) = Unit {0}
IsOfRound (event.Net (net.Deliver l d k)) = Unit {0}
IsOfRound (event.Net (net.Drop l d k)) = Unit {0}
IsOfRound e = ⊥

-- ---- a round

-- all hosts take
abbrev pub round_of_hosts : ℕ → Net → Course Net
round_of_hosts round n = all_takings from_subnet round n.hosts n

-- the lines from this one on have their turns, and then all hosts take
abbrev pub round_from_line : ℕ → ℕ → Net → Course Net
round_from_line round l n = then_course (all_turning round (numbers_from l (length n.lines)) n) (round_of_hosts round)

-- the IMPs from this one on send their distances and send again, and then lines and hosts have their turns
abbrev pub round_from_imp : ℕ → ℕ → Net → Course Net
round_from_imp round i n = then_course (all_refreshing round (numbers_from i (length n.imps)) n) (round_from_line round 0)

abbrev pub round_of : ℕ → Net → Course Net
round_of round n = round_from_imp round 0 n

-- the elementary events of a calm of this many rounds
abbrev pub calm_of : Net → ℕ → List Element
calm_of n rounds = (rounds_from round_of 1 rounds n).elements

abbrev pub elements_of : Net → RawEvent → List Element
elements_of n e = elements_in (calm_of n) e

-- ---- in the middle of a calm

-- what is left of an IMP's part of a round, where it has sent its distances, or has not
abbrev pub imp_left : ℕ → ℕ → Bool → Net → Course Net
imp_left round i false n = round_from_imp round i n
imp_left round i true n = then_course (sending round i n) (round_from_imp round (i + 1))

-- what is left of a line's turn: the frame that was delivered is dropped, where one was, and then this many frames are carried
abbrev pub turn_left : ℕ → ℕ → Direction → ℕ → Bool → Net → Course Net
turn_left round l d frames false n = carrying round l d frames n
turn_left round l d frames true n = then_course (dropping round l d n) (carrying round l d frames)

-- the turns after this one, and then all hosts take
abbrev pub after_turn : ℕ → ℕ → Direction → Net → Course Net
after_turn round l way.Forward n = then_course (turning round l way.Back n) (round_from_line round (l + 1))
after_turn round l way.Back n = round_from_line round (l + 1) n

-- what is left of a round
abbrev pub round_left : ℕ → Stage → Net → Course Net
round_left round (stage.Refreshing i told) n = imp_left round i told n
round_left round (stage.Carrying l d frames delivered) n = then_course (turn_left round l d frames delivered n) (after_turn round l d)
round_left round (stage.Taking host times) n = takings_from from_subnet round (drop host n.hosts) times n
round_left round stage.Over n = no_course n

-- and of its calm
abbrev pub calm_left : Net → Place → List Element
calm_left n p = rest_of_calm round_of p.round p.rounds (round_left p.round p.stage n)

-- where a calm of this many rounds begins
abbrev pub beginning : ℕ → Place
beginning rounds = record { round = 0; rounds = rounds; stage = stage.Over }
