-- What happens in a subnet: for each event the first refusal, and the subnet after it.
--
-- Refusals are in one order everywhere: what isn't there, then what is still alive, then IMPs, hosts and ends that are down or
-- up, and then the IMP's own. So a step that waits for packets to die is refused for that also where its IMP is down.
use Rattle.std.specs.Prelude.{ℕ, zero, suc, ◌+◌, Bool, false, not, List, [], ◌∷◌, ◌++◌, length, replicate, Option, Some, None, slice_get, slice_set, slice_index_or, is_none, is_some, nat_lt, ◌==◌, ◌&&◌, ◌||◌, if◌then◌else◌, count_by}
use Rattle.std.specs.List.{range_with_len}
use Rattle.interface.specs.Calls.{crossing_of}
use Rattle.interface.specs.Host.{Host, is_host}
use Rattle.interface.specs.declared.address.Flow.{Flow}
use Rattle.interface.specs.declared.carrier.CarrierFault.{CarrierFault}
use Rattle.interface.specs.declared.carrier.CarrierFault.TheVariants as fault
use Rattle.interface.specs.declared.crossing.Crossing.{Crossing}
use Rattle.interface.specs.declared.crossing.Crossing.TheVariants as crossing
use Rattle.interface.specs.declared.crossing.Inbound.{Inbound}
use Rattle.interface.specs.declared.event.Direction.{Direction}
use Rattle.interface.specs.declared.event.Direction.TheVariants as way
use Rattle.interface.specs.declared.event.NetEvent.{NetEvent}
use Rattle.interface.specs.declared.event.NetEvent.TheVariants as event
use Rattle.interface.specs.declared.message.HostMessage.{HostMessage}
use Rattle.link_table.specs.Numbers.{oldest}
use Rattle.flow_law.specs.Moves.{next_number}
use Rattle.imp_channel.specs.declared.frame.Frame.{Frame}
use Rattle.imp_node.specs.State.{State, HostState, ImpTurn, no_host}
use Rattle.imp_node.specs.State as imp
use Rattle.imp_node.specs.Offering.{begins, from_host, from_host_refusal}
use Rattle.imp_node.specs.Arrival.{from_line}
use Rattle.imp_node.specs.Taking.{next_for, to_host, to_host_refusal}
use Rattle.imp_node.specs.Asking.{ask, ask_refusal}
use Rattle.imp_node.specs.Lines.{resend, route, claim, end_down, end_up, end_down_refusal, end_up_refusal}
use Rattle.imp_node.specs.Stopping.{give_up, give_up_refusal, forget, abandon, abandon_refusal, host_down, host_down_refusal, host_up, host_up_refusal}
use Rattle.imp_node.specs.Queries.{last, outstanding, kept}
use Rattle.subnet.specs.Net.{Net, imp_at, wire_at, ends_at, port_of, with_turn, frames_on, far_end, dropping}
use Rattle.subnet.specs.Alive.{says, is_alive, has_data, has_flow, is_remembered, is_awaited, is_awaited_at}

-- ---- small words

-- a call of an IMP that is up
abbrev pub at_imp : Option State → ℕ → (State → ImpTurn) → Net → Net
at_imp None i call n = n
at_imp (Some s) i call n = with_turn i (call s) n

-- with these crossings, newest first, on the log
abbrev pub logging : List Crossing → Net → Net
logging entries n = record n { log = entries ++ n.log }

-- what is refused at an IMP, if it is up
abbrev pub at_up : Option State → (State → Option CarrierFault) → Option CarrierFault
at_up None refusal = Some fault.IsDown
at_up (Some s) refusal = refusal s

-- a refusal that comes before the others
abbrev pub first_of : Bool → CarrierFault → Option CarrierFault → Option CarrierFault
first_of test e others = if test then Some e else others

-- nothing is refused at an IMP that is up
abbrev pub accepted : State → Option CarrierFault
accepted s = None

-- ---- offering

-- the number that would be one step too old, once the next is begun, is alive
abbrev pub alive_behind : Net → Flow → Option ℕ → Bool
alive_behind n f None = false
alive_behind n f (Some number) = is_alive n f (oldest number)

-- whether this is the number, if there is one
abbrev pub is_number : Option ℕ → ℕ → Bool
is_number None number = false
is_number (Some kept) number = kept == number

-- the destination's IMP is up and keeps this number as the flow's last one
abbrev pub is_kept : Net → Flow → ℕ → Bool
is_kept n f number = says (λ s. is_number (kept s f) number) (imp_at n.imps f.destination.imp)

-- An offer would begin a number, if there were room, while the number `window` before the flow's last one is alive, or while the
-- destination's IMP keeps the number that would be begun
abbrev pub offer_alive : Net → Flow → Option State → Bool
offer_alive n f None = false
offer_alive n f (Some s) = begins s f && (alive_behind n f (last s f) || is_kept n f (next_number (last s f)))

abbrev pub offer_refusal : Net → HostMessage → Option CarrierFault
offer_refusal n m =
    first_of (not (is_host n.hosts m.flow.source)) fault.NoSuch
    (first_of (offer_alive n m.flow (imp_at n.imps m.flow.source.imp)) fault.StillAlive
    (at_up (imp_at n.imps m.flow.source.imp) (λ s. from_host_refusal s m)))

-- the message goes out: its IMP takes it
abbrev pub offer_out : Net → HostMessage → Net
offer_out n m = logging (crossing.Out m ∷ []) (at_imp (imp_at n.imps m.flow.source.imp) m.flow.source.imp (λ s. from_host s m) n)

-- ---- taking

abbrev pub take_refusal : Net → Host → Option CarrierFault
take_refusal n h = first_of (not (is_host n.hosts h)) fault.NoSuch (at_up (imp_at n.imps h.imp) (λ s. to_host_refusal s h.host))

-- what a host would get
abbrev pub given_at : Option State → ℕ → Option Inbound
given_at None h = None
given_at (Some s) h = next_for s h

abbrev pub taken_by_host : Net → Host → Option Inbound
taken_by_host n h = given_at (imp_at n.imps h.imp) h.host

-- whether a host gets something when it takes: nothing refuses it, and something waits
abbrev pub gives : Net → Host → Bool
gives n h = is_none (take_refusal n h) && is_some (taken_by_host n h)

abbrev pub crossings_of : Option Inbound → List Crossing
crossings_of None = []
crossings_of (Some i) = crossing_of i ∷ []

-- the host takes the oldest of what waits for it: that crosses, if anything waits
abbrev pub take_in : Net → Host → Net
take_in n h = logging (crossings_of (taken_by_host n h)) (at_imp (imp_at n.imps h.imp) h.imp (λ s. to_host s h.host) n)

-- ---- frames

-- a frame stays on its line when it is delivered; at an IMP that is down it is ignored
abbrev pub delivered : Net → ℕ → Direction → Option Frame → Net
delivered n l d None = n
delivered n l d (Some f) =
    at_imp (imp_at n.imps (far_end d (wire_at n.lines l))) (far_end d (wire_at n.lines l)) (λ s. from_line s (port_of n.lines (far_end d (wire_at n.lines l)) l) f) n

-- the frame at this place, of those that go one way, comes in at the far end
abbrev pub deliver : Net → ℕ → Direction → ℕ → Net
deliver n l d k = delivered n l d (slice_get (frames_on d (wire_at n.lines l)) k)

-- the frame at this place is lost
abbrev pub drop_frame : Net → ℕ → Direction → ℕ → Net
drop_frame n l d k = record n { lines = slice_set n.lines l (dropping d k (wire_at n.lines l)) }

-- a frame of a directed line that isn't there
abbrev pub frame_refusal : Net → ℕ → Direction → ℕ → Option CarrierFault
frame_refusal n l d k = if nat_lt l (length n.lines) && nat_lt k (length (frames_on d (wire_at n.lines l))) then None else Some fault.NoSuch

-- ---- a quiet round

-- an IMP sends its distances and sends again
abbrev pub refreshed : Net → ℕ → Net
refreshed n i = (let told : Net = at_imp (imp_at n.imps i) i route n in at_imp (imp_at told.imps i) i resend told)

abbrev pub all_refreshed : List ℕ → Net → Net
all_refreshed [] n = n
all_refreshed (i ∷ numbers) n = all_refreshed numbers (refreshed n i)

-- this many frames of a directed line, the oldest first, are each delivered once and dropped
abbrev pub carried : ℕ → ℕ → Direction → Net → Net
carried zero l d n = n
carried (suc count) l d n = carried count l d (drop_frame (deliver n l d 0) l d 0)

-- its turn: the frames that are live when it begins
abbrev pub turn_of : ℕ → Direction → Net → Net
turn_of l d n = carried (length (frames_on d (wire_at n.lines l))) l d n

-- each line's turns, one line after another
abbrev pub all_turns : List ℕ → Net → Net
all_turns [] n = n
all_turns (l ∷ lines) n = all_turns lines (turn_of l way.Back (turn_of l way.Forward n))

-- First each IMP that is up, in order, sends its distances and sends again. Then the frames of each line are delivered, from `a`
-- and then from `b`; frames that this puts on later lines are delivered in the same round
abbrev pub quiet_round : Net → Net
quiet_round n = all_turns (range_with_len 0 (length n.lines)) (all_refreshed (range_with_len 0 (length n.imps)) n)

-- ---- giving up, forgetting, asking, abandoning

-- the outstanding message is alive somewhere: a packet of it, an answer to it that travels, or the message in a queue
abbrev pub give_up_alive : Net → Flow → Option ℕ → Bool
give_up_alive n f None = false
give_up_alive n f (Some number) = is_alive n f number

abbrev pub outstanding_at : Option State → Flow → Option ℕ
outstanding_at None f = None
outstanding_at (Some s) f = outstanding s f

abbrev pub giving_up_refusal : Net → Flow → Option CarrierFault
giving_up_refusal n f =
    first_of (not (is_host n.hosts f.source)) fault.NoSuch
    (first_of (give_up_alive n f (outstanding_at (imp_at n.imps f.source.imp) f)) fault.StillAlive
    (at_up (imp_at n.imps f.source.imp) (λ s. give_up_refusal s f)))

-- how many hosts an IMP has, if it is there
abbrev pub site_at : Net → ℕ → Option ℕ
site_at n i = slice_index_or n.sites i None

-- whether there is such an IMP
abbrev pub is_imp : Net → ℕ → Bool
is_imp n i = is_some (site_at n i)

-- an IMP forgets another's flows only where no data, no question and no message from there to here is alive, and no message
-- outstanding there
abbrev pub forgetting_refusal : Net → ℕ → ℕ → Option CarrierFault
forgetting_refusal n at from =
    first_of (not (is_imp n at && is_imp n from)) fault.NoSuch
    (first_of (at == from) fault.NoSuch
    (first_of (has_data n from at || is_awaited_at (imp_at n.imps from) at) fault.StillAlive
    (at_up (imp_at n.imps at) accepted)))

-- the source's IMP asks what became of the outstanding message; the source itself may be down
abbrev pub asking_refusal : Net → Flow → Option CarrierFault
asking_refusal n f = first_of (not (is_host n.hosts f.source)) fault.NoSuch (at_up (imp_at n.imps f.source.imp) (λ s. ask_refusal s f))

-- an IMP that is down has no slot
abbrev pub abandoning_refusal : Option State → Flow → Option CarrierFault
abandoning_refusal None f = Some fault.NoSuch
abandoning_refusal (Some s) f = abandon_refusal s f

-- ---- ends of lines

-- whether this line has an end at this IMP
abbrev pub has_end : Net → ℕ → ℕ → Bool
has_end n i l = is_imp n i && (nat_lt l (length n.lines) && ends_at i (wire_at n.lines l))

abbrev pub at_end_refusal : Net → ℕ → ℕ → (State → ℕ → Option CarrierFault) → Option CarrierFault
at_end_refusal n i l refusal = first_of (not (has_end n i l)) fault.NoSuch (at_up (imp_at n.imps i) (λ s. refusal s (port_of n.lines i l)))

-- ---- hosts

abbrev pub at_host_refusal : Net → Host → (State → ℕ → Option CarrierFault) → Option CarrierFault
at_host_refusal n h refusal = first_of (not (is_host n.hosts h)) fault.NoSuch (at_up (imp_at n.imps h.imp) (λ s. refusal s h.host))

-- a host goes down, and comes up
abbrev pub host_stopped : Net → Host → Net
host_stopped n h = logging (crossing.Down h ∷ []) (at_imp (imp_at n.imps h.imp) h.imp (λ s. host_down s h.host) n)

abbrev pub host_started : Net → Host → Net
host_started n h = logging (crossing.Up h ∷ []) (at_imp (imp_at n.imps h.imp) h.imp (λ s. host_up s h.host) n)

-- ---- IMPs

-- what is asked of an IMP that is up
abbrev pub imp_refusal : Net → ℕ → Option CarrierFault
imp_refusal n i = first_of (not (is_imp n i)) fault.NoSuch (at_up (imp_at n.imps i) accepted)

-- an IMP starts empty, with all ends of lines up and all hosts down
abbrev pub started_imp : ℕ → ℕ → ℕ → State
started_imp i hosts ports = record (imp.opening_node i hosts ports) { hosts = replicate hosts no_host }

-- it starts only where nothing of its flows is alive, no other IMP keeps a number of one from it, and at no other IMP a message
-- to a host at it is outstanding
abbrev pub starting_refusal : Net → ℕ → Option CarrierFault
starting_refusal n i =
    first_of (not (is_imp n i)) fault.NoSuch
    (first_of (has_flow n i) fault.StillAlive
    (first_of (is_remembered n i) fault.StillAlive
    (first_of (is_awaited n i) fault.StillAlive
    (if is_some (imp_at n.imps i) then Some fault.IsUp else None))))

abbrev pub hosts_at : Option ℕ → ℕ
hosts_at None = 0
hosts_at (Some hosts) = hosts

-- an IMP starts: nothing crosses
abbrev pub imp_started : Net → ℕ → Net
imp_started n i = record n { imps = slice_set n.imps i (Some (started_imp i (hosts_at (site_at n i)) (count_by (ends_at i) n.lines))) }

-- the hosts of an IMP that are up go down in order, from host `k` on; newest first
abbrev pub downs_from : ℕ → ℕ → List HostState → List Crossing
downs_from i k [] = []
downs_from i k (h ∷ hosts) = downs_from i (k + 1) hosts ++ (if h.up then crossing.Down (record { imp = i; host = k }) ∷ [] else [])

abbrev pub downs_at : ℕ → Option State → List Crossing
downs_at i None = []
downs_at i (Some s) = downs_from i 0 s.hosts

-- an IMP stops: all that it held is gone, and the frames on lines stay
abbrev pub imp_stopped : Net → ℕ → Net
imp_stopped n i = record n { imps = slice_set n.imps i None; log = downs_at i (imp_at n.imps i) ++ n.log }

-- ---- all events

abbrev pub step_refusal : Net → NetEvent → Option CarrierFault
step_refusal n (event.Deliver l d k) = frame_refusal n l d k
step_refusal n (event.Drop l d k) = frame_refusal n l d k
step_refusal n (event.Garble l d k) = frame_refusal n l d k
step_refusal n (event.Resend i) = imp_refusal n i
step_refusal n (event.Route i) = imp_refusal n i
step_refusal n (event.Claim i) = imp_refusal n i
step_refusal n (event.EndDown i l) = at_end_refusal n i l end_down_refusal
step_refusal n (event.EndUp i l) = at_end_refusal n i l end_up_refusal
step_refusal n (event.ImpDown i) = imp_refusal n i
step_refusal n (event.ImpUp i) = starting_refusal n i
step_refusal n (event.HostDown h) = at_host_refusal n h host_down_refusal
step_refusal n (event.HostUp h) = at_host_refusal n h host_up_refusal
step_refusal n (event.GiveUp f) = giving_up_refusal n f
step_refusal n (event.Forget at from) = forgetting_refusal n at from
step_refusal n (event.Abandon f) = abandoning_refusal (imp_at n.imps f.destination.imp) f
step_refusal n (event.Ask f) = asking_refusal n f

abbrev pub stepped : Net → NetEvent → Net
stepped n (event.Deliver l d k) = deliver n l d k
stepped n (event.Drop l d k) = drop_frame n l d k
stepped n (event.Garble l d k) = drop_frame n l d k
stepped n (event.Resend i) = at_imp (imp_at n.imps i) i resend n
stepped n (event.Route i) = at_imp (imp_at n.imps i) i route n
stepped n (event.Claim i) = at_imp (imp_at n.imps i) i claim n
stepped n (event.EndDown i l) = at_imp (imp_at n.imps i) i (λ s. end_down s (port_of n.lines i l)) n
stepped n (event.EndUp i l) = at_imp (imp_at n.imps i) i (λ s. end_up s (port_of n.lines i l)) n
stepped n (event.ImpDown i) = imp_stopped n i
stepped n (event.ImpUp i) = imp_started n i
stepped n (event.HostDown h) = host_stopped n h
stepped n (event.HostUp h) = host_started n h
stepped n (event.GiveUp f) = at_imp (imp_at n.imps f.source.imp) f.source.imp (λ s. give_up s f) n
stepped n (event.Forget at from) = at_imp (imp_at n.imps at) at (λ s. forget s from) n
stepped n (event.Abandon f) = at_imp (imp_at n.imps f.destination.imp) f.destination.imp (λ s. abandon s f) n
stepped n (event.Ask f) = at_imp (imp_at n.imps f.source.imp) f.source.imp (λ s. ask s f) n
