-- Distances are sent of the subnet's IMPs only.
use Rattle.subnet.proofs.Common.{Flow, Answer, Crossing, Direction, NetEvent, HostMessage, Release, PacketKind, Channel, ChannelFault, Content, Frame, Received, Outgoing, Port, Message, Told, State, ImpTurn, number, host_at, port_at, answered_by, fated, Way, Nowhere, Here, Away, way_of, offered, from_host, on_port, resent_by, resent_from, resend, told_by, told_from, route, claim, end_down, asked_by, ask, outstanding, message_returned, all_returned, stopped, host_down, replied, taken_by, to_host, Net, Wire, imp_at, wire_at, ends_at, port_of, with_turn, frames_on, far_end, at_imp, logging, offer_out, take_in, delivered, deliver, drop_frame, quiet_round, host_stopped, host_started, started_imp, hosts_at, site_at, imp_stopped, imp_started, downs_at, stepped, IsCarriable, CanGo, CanGoFrom, Ends, empty_wire, opened_imp, opened_from, opening_subnet, IsAt, IsSound}
use Rattle.std.proofs.Common.{◌≡◌, ℕ, zero, suc, ◌+◌, ◌-◌, ◌<◌, ◌≤◌, ◌==◌, Bool, true, false, List, [], ◌∷◌, length, map, min, Option, Some, None, Result, Ok, Err, refl, ap, sym, ◌∙◌, subst, inl, inr, eqb-true, eq-eqb, cond, arith, All, if◌then◌else◌}
use Rattle.std.specs.Prelude.{is_some, slice_get, slice_set, count_by}
use Rattle.std.proofs.lemmas.Bool.{cases_Bool, cases_lt}
use Rattle.std.proofs.lemmas.List.{get_or_past, length-set}
use Rattle.std.proofs.lemmas.List.Elements.{All-weaker, All-nil, All-cons, All-head, All-tail, All-append, All-set, All-replicate, All-map}
use Rattle.interface.specs.Host.{Host, IsAddress, most_imps}
use Rattle.interface.specs.declared.crossing.Answer.TheVariants as answer
use Rattle.interface.specs.declared.crossing.Crossing.TheVariants as crossing
use Rattle.interface.specs.declared.event.NetEvent.TheVariants as event
use Rattle.link_table.specs.declared.source.Release.TheVariants as release
use Rattle.packetiser.specs.PacketFields.{PacketFields, IsPacketHost}
use Rattle.packetiser.specs.declared.packet.PacketKind.TheVariants as kind
use Rattle.imp_channel.specs.Line.{End, answer_to, is_foreign, brought, has_expected_bit, frames_of, frames_from, resent, submitted, submitted_on, routes_frame, acknowledgement}
use Rattle.imp_channel.specs.declared.fault.ChannelFault.TheVariants as refused
use Rattle.imp_channel.specs.declared.frame.Content.TheVariants as content
use Rattle.imp_channel.specs.declared.line.Received.TheVariants as received
use Rattle.routing.specs.RouteTable.{Table, heard_distance, least_heard, distance_to, next_of}
use Rattle.routing.specs.Vector.{infinite, IsVector}
use Rattle.routing.proofs.lemmas.{distance-other, next-nowhere, vector-is}
use Rattle.imp_node.specs.Room.{has_route}
use Rattle.link_table.specs.declared.destination.Fate.TheVariants as fate
use Rattle.imp_node.specs.Arrival as arrivals
use Rattle.imp_node.specs.Arrival.{Arrival, Passing, Old, Undeliverable, Replying, Piece, NoSlot, Unmarked, Answering, arrival, arrived, frame_taken, acknowledged, vector_heard, ignored, taken_frame, from_line}
use Rattle.imp_node.specs.Pump.{Pumped, target, sent_on, packet_sent, pumped, pump}
use Rattle.subnet.specs.Events as events
use Rattle.subnet.specs.Routed.{TellsVector, FrameTells, WireTells, HeardVector, ImpHeard, IsRouted, IsHostMessage}
use Rattle.subnet.proofs.Calls.Rounds.{round_keeps}
use Rattle.subnet.proofs.Packets.OnLines.{WireHolds, dropped_holds, put_all_holds, way_holds, wire_holds}
use Rattle.subnet.proofs.Calls.Opens.{places_opened}

-- ---- frames of one IMP

abbrev OutTells : Outgoing → Type 0
OutTells out = FrameTells out.frame

-- an IMP after a call, and its frames
record TurnTells (turn : ImpTurn) : Type 0 where
  pub heard : All HeardVector turn.state.routes.heard
  pub frames : All OutTells turn.frames

sent_on_tells : (ports : List Port) (k : ℕ) (p : PacketFields) (e : End) (free : Option ℕ) → All OutTells (sent_on ports k p (submitted_on e p free)).frames
sent_on_tells ports k p e None = All-nil OutTells
sent_on_tells ports k p e (Some c) = All-cons OutTells _ [] tt (All-nil OutTells)

sent_tells : (ports : List Port) (p : PacketFields) (next : Option ℕ) → All OutTells (packet_sent ports p next).frames
unfolding submitted
sent_tells ports p None = All-nil OutTells
sent_tells ports p (Some k) = sent_on_tells ports k p _ _

pumped_tells : (routes : Table) (ports : List Port) (ps : List PacketFields) → All OutTells (pumped routes ports ps).frames
pumped_tells routes ports [] = All-nil OutTells
pumped_tells routes ports (p ∷ ps) =
    let one : Pumped = packet_sent ports p (next_of routes (target p)) in
    All-append OutTells one.frames (pumped routes one.ports ps).frames (sent_tells ports p _) (pumped_tells routes one.ports ps)

pump_tells : (frames : List Outgoing) (s : State) → All OutTells frames → All HeardVector s.routes.heard → TurnTells (pump frames s)
pump_tells frames s told here = record { heard = here; frames = All-append OutTells frames (pumped s.routes s.ports s.store).frames told (pumped_tells _ _ _) }

quiet_tells : (s : State) → All HeardVector s.routes.heard → TurnTells (pump [] s)
quiet_tells s here = pump_tells [] s (All-nil OutTells) here

-- ---- calls of one IMP

answered_routes : (r : Release) (k : Answer) (f : Flow) (n : ℕ) (s : State) → (answered_by r k f n s).routes ≡ s.routes
answered_routes release.Freed k f n s = refl
answered_routes release.Stale k f n s = refl

either_routes : (b : Bool) (s t u : State) → t.routes ≡ s.routes → u.routes ≡ s.routes → (if b then t else u).routes ≡ s.routes
either_routes true s t u e h = e
either_routes false s t u e h = h

replied_routes : (k : Answer) (packet : PacketKind) (m : Message) (s : State) → (replied k packet m s).routes ≡ s.routes
replied_routes k packet m s = either_routes _ s _ _ (answered_routes _ k m.flow _ s) refl

arrived_routes : (a : Arrival) (p : PacketFields) (s : State) → (arrived a p s).routes ≡ s.routes
arrived_routes Passing p s = refl
arrived_routes Old p s = refl
arrived_routes (Undeliverable new told) p s = refl
arrived_routes (Replying told) p s = refl
arrived_routes Piece p s = refl
arrived_routes NoSlot p s = refl
arrived_routes (arrivals.Whole text) p s = refl
arrived_routes Unmarked p s = refl
arrived_routes (Answering k) p s = answered_routes _ k _ _ s

asked_routes : (o : Option ℕ) (f : Flow) (s : State) → (asked_by o f s).routes ≡ s.routes
asked_routes None f s = refl
asked_routes (Some n) f s = refl

offered_routes : (go : Way) (m : HostMessage) (s : State) → (offered go m s).routes ≡ s.routes
offered_routes Nowhere m s = refl
offered_routes Here m s = refl
offered_routes Away m s = refl

taken_by_routes : (h : ℕ) (ts : List Told) (ms : List Message) (s : State) → (taken_by h ts ms s).routes ≡ s.routes
taken_by_routes h (t ∷ others) ms s = refl
taken_by_routes h [] (m ∷ others) s = replied_routes _ kind.Rfnm m _
taken_by_routes h [] [] s = refl

all_returned_routes : (ms : List Message) (s : State) → (all_returned ms s).routes ≡ s.routes
all_returned_routes [] s = refl
all_returned_routes (m ∷ others) s =
    let t : State = fated m.flow m.number fate.Dead s in
    all_returned_routes others (message_returned m s) ∙ either_routes _ s (replied answer.Dead kind.Dead m t) t (replied_routes _ kind.Dead m t) refl

-- a call that leaves what was heard
same_heard : (s t : State) → t.routes ≡ s.routes → All HeardVector s.routes.heard → All HeardVector t.routes.heard
same_heard s t same here = subst (λ (r : Table). All HeardVector r.heard) (sym same) here

from_host_tells : (m : HostMessage) (s : State) → All HeardVector s.routes.heard → TurnTells (from_host s m)
from_host_tells m s here = quiet_tells _ (same_heard s (offered _ m s) (offered_routes _ m s) here)

ask_tells : (f : Flow) (s : State) → All HeardVector s.routes.heard → TurnTells (ask s f)
ask_tells f s here =
    let t : State = asked_by (outstanding s f) f s in
    quiet_tells t (same_heard s t (asked_routes _ f s) here)

to_host_tells : (h : ℕ) (s : State) → All HeardVector s.routes.heard → TurnTells (to_host s h)
to_host_tells h s here =
    let t : State = taken_by h _ _ s in
    quiet_tells t (same_heard s t (taken_by_routes h _ _ s) here)

host_down_tells : (h : ℕ) (s : State) → All HeardVector s.routes.heard → TurnTells (host_down s h)
host_down_tells h s here =
    let t : State = all_returned (host_at s h).queue (stopped s h) in
    quiet_tells t (same_heard (stopped s h) t (all_returned_routes (host_at s h).queue (stopped s h)) here)

end_down_tells : (k : ℕ) (s : State) → All HeardVector s.routes.heard → TurnTells (end_down s k)
end_down_tells k s here = quiet_tells _ (All-set HeardVector s.routes.heard k None tt here)

resent_tells : (e : End) (c : ℕ) (chs : List Channel) → All FrameTells (frames_from e c chs)
resent_tells e c [] = All-nil FrameTells
resent_tells e c (ch ∷ chs) = All-append FrameTells (frames_of e c ch.bit ch.packet) (frames_from e (c + 1) chs) (at _) (resent_tells e (c + 1) chs) where
  at : (packet : Option PacketFields) → All FrameTells (frames_of e c ch.bit packet)
  at None = All-nil FrameTells
  at (Some p) = All-cons FrameTells _ [] tt (All-nil FrameTells)

resent_from_tells : (k : ℕ) (ports : List Port) → All OutTells (resent_from k ports)
resent_from_tells k [] = All-nil OutTells
resent_from_tells k (port ∷ ports) = All-append OutTells (resent_by k port) (resent_from (k + 1) ports) (at _) (resent_from_tells (k + 1) ports) where
  at : (up : Bool) → All OutTells (cond up (map (on_port k) (resent port.line)) [])
  at true = All-map OutTells (on_port k) (resent port.line) (resent_tells port.line 0 port.line.sending)
  at false = All-nil OutTells

resend_tells : (s : State) → All HeardVector s.routes.heard → TurnTells (resend s)
resend_tells s here = pump_tells _ s (resent_from_tells 0 s.ports) here

told_from_tells : (distances : List ℕ) (k : ℕ) (ports : List Port) → IsVector distances → All OutTells (told_from distances k ports)
told_from_tells distances k [] is = All-nil OutTells
told_from_tells distances k (port ∷ ports) is = All-append OutTells (told_by distances k port) (told_from distances (k + 1) ports) (at _) (told_from_tells distances (k + 1) ports is) where
  at : (up : Bool) → All OutTells (cond up (on_port k (routes_frame port.line distances) ∷ []) [])
  at true = All-cons OutTells _ [] is (All-nil OutTells)
  at false = All-nil OutTells

route_tells : (s : State) → All HeardVector s.routes.heard → TurnTells (route s)
route_tells s here = pump_tells _ s (told_from_tells _ 0 s.ports (vector-is s.routes)) here

-- ---- a frame comes in

-- the distances that it brings
brought_vector : (e : End) (f : Frame) (distances : List ℕ) → answer_to e f ≡ Ok (received.Routes distances) → FrameTells f → IsVector distances
brought_vector e f distances is tells = at f.content is tells where
  not_routes : (foreign expected : Bool) (p : PacketFields) → cond foreign (Err refused.NotCanonical) (Ok (cond expected (received.Fresh p) received.Repeat)) ≡ Ok (received.Routes distances) → IsVector distances
  not_routes true expected p is = absurd (cc)
  not_routes false true p is = absurd (cc)
  not_routes false false p is = absurd (cc)

  at : (c : Content) → cond (is_foreign c) (Err refused.NotCanonical) (Ok (brought e.expected c)) ≡ Ok (received.Routes distances) → TellsVector c → IsVector distances
  at (content.Packet one) is tells = not_routes (is_foreign (content.Packet one)) (has_expected_bit e.expected one) one.packet is
  at content.Nothing is tells = absurd (cc)
  at (content.Routes others) is tells = let same : others ≡ distances = cc in subst IsVector same tells

acknowledged_tells : (k : ℕ) (s : State) → All OutTells (acknowledged k s)
acknowledged_tells k s = All-cons OutTells (record { port = k; frame = acknowledgement (port_at s.ports k).line }) [] tt (All-nil OutTells)

frame_tells : (got : Result Received ChannelFault) (k : ℕ) (f : Frame) (s : State) → ((distances : List ℕ) → got ≡ Ok (received.Routes distances) → IsVector distances)
    → All HeardVector s.routes.heard → TurnTells (taken_frame got k f s)
frame_tells (Ok (received.Fresh p)) k f s told here = at _ where
  at : (room : Bool) → TurnTells (cond room (pump (acknowledged k (frame_taken k f s)) (arrived (arrival s p) p (frame_taken k f s))) (ignored s))
  at true = pump_tells (acknowledged k (frame_taken k f s)) (arrived (arrival s p) p (frame_taken k f s)) (acknowledged_tells k (frame_taken k f s)) (same_heard (frame_taken k f s) (arrived (arrival s p) p (frame_taken k f s)) (arrived_routes (arrival s p) p _) here)
  at false = record { heard = here; frames = All-nil OutTells }
frame_tells (Ok received.Repeat) k f s told here = pump_tells (acknowledged k (frame_taken k f s)) _ (acknowledged_tells k (frame_taken k f s)) here
frame_tells (Ok received.AckOnly) k f s told here = quiet_tells _ here
frame_tells (Ok (received.Routes distances)) k f s told here = quiet_tells _ (All-set HeardVector s.routes.heard k (Some distances) (told distances refl) here)
frame_tells (Err fault) k f s told here = record { heard = here; frames = All-nil OutTells }

from_line_tells : (k : ℕ) (f : Frame) (s : State) → FrameTells f → All HeardVector s.routes.heard → TurnTells (from_line s k f)
from_line_tells k f s tells here = at _ where
  at : (up : Bool) → TurnTells (cond up (taken_frame (answer_to (port_at s.ports k).line f) k f s) (ignored s))
  at true = frame_tells (answer_to (port_at s.ports k).line f) k f s (λ distances is. brought_vector (port_at s.ports k).line f distances is tells) here
  at false = record { heard = here; frames = All-nil OutTells }

-- ---- frames on lines

told_wire : (w : Wire) → WireTells w → WireHolds FrameTells w
told_wire w told = record { forward = told.forward; back = told.back }

wire_told : (w : Wire) → WireHolds FrameTells w → WireTells w
wire_told w told = record { forward = told.forward; back = told.back }

told_wires : (lines : List Wire) → All WireTells lines → All (WireHolds FrameTells) lines
told_wires lines all = All-weaker WireTells (WireHolds FrameTells) told_wire lines all

wires_told : (lines : List Wire) → All (WireHolds FrameTells) lines → All WireTells lines
wires_told lines all = All-weaker (WireHolds FrameTells) WireTells wire_told lines all

-- ---- a call of one IMP

imp_heard : (imps : List (Option State)) (i : ℕ) → All ImpHeard imps → ImpHeard (imp_at imps i)
imp_heard [] i all = tt
imp_heard (o ∷ imps) zero all = All-head ImpHeard o imps all
imp_heard (o ∷ imps) (suc i) all = imp_heard imps i (All-tail ImpHeard o imps all)

still_few : (imps : List (Option State)) (i : ℕ) (o : Option State) → length imps ≤ most_imps + 1 → length (slice_set imps i o) ≤ most_imps + 1
still_few imps i o few = subst (λ (k : ℕ). k ≤ most_imps + 1) (sym (length-set imps i o)) few

turn_routed : (i : ℕ) (turn : ImpTurn) (n : Net) → TurnTells turn → IsRouted n → IsRouted (with_turn i turn n)
turn_routed i turn n t is = record {
  few = still_few n.imps i _ is.few;
  imps = All-set ImpHeard n.imps i (Some turn.state) t.heard is.imps;
  lines = wires_told _ (put_all_holds FrameTells _ i _ (told_wires _ is.lines) t.frames);
}

call_routed : (n : Net) (i : ℕ) (call : State → ImpTurn) → ((s : State) → All HeardVector s.routes.heard → TurnTells (call s)) → IsRouted n → IsRouted (at_imp (imp_at n.imps i) i call n)
call_routed n i call tells is = by (imp_at n.imps i) (imp_heard n.imps i is.imps) where
  by : (o : Option State) → ImpHeard o → IsRouted (at_imp o i call n)
  by None here = is
  by (Some s) here = turn_routed i _ n (tells s here) is

logged_routed : (entries : List Crossing) (n : Net) → IsRouted n → IsRouted (logging entries n)
logged_routed entries n is = record { few = is.few; imps = is.imps; lines = is.lines }

-- ---- the events

pub offer_routed : (n : Net) (m : HostMessage) → IsRouted n → IsRouted (offer_out n m)
offer_routed n m is = logged_routed (crossing.Out m ∷ []) _ (call_routed n _ _ (from_host_tells m) is)

pub take_routed : (n : Net) (h : Host) → IsRouted n → IsRouted (take_in n h)
take_routed n h is = logged_routed _ _ (call_routed n h.imp _ (to_host_tells h.host) is)

abbrev GotTells : Option Frame → Type 0
GotTells None = Unit {0}
GotTells (Some f) = FrameTells f

got_tells : (frames : List Frame) (k : ℕ) → All FrameTells frames → GotTells (slice_get frames k)
got_tells [] k all = tt
got_tells (f ∷ frames) zero all = All-head FrameTells f frames all
got_tells (f ∷ frames) (suc k) all = got_tells frames k (All-tail FrameTells f frames all)

deliver_routed : (n : Net) (l : ℕ) (d : Direction) (k : ℕ) → IsRouted n → IsRouted (deliver n l d k)
deliver_routed n l d k is = by (slice_get (frames_on d (wire_at n.lines l)) k) (got_tells _ k (way_holds FrameTells d _ (wire_holds FrameTells _ l (told_wires _ is.lines)))) where
  by : (o : Option Frame) → GotTells o → IsRouted (delivered n l d o)
  by None here = is
  by (Some f) here =
      let i : ℕ = far_end d _ in
      call_routed n i _ (λ s told. from_line_tells (port_of n.lines i l) f s here told) is

drop_routed : (n : Net) (l : ℕ) (d : Direction) (k : ℕ) → IsRouted n → IsRouted (drop_frame n l d k)
drop_routed n l d k is = record {
  few = is.few;
  imps = is.imps;
  lines = wires_told _ (dropped_holds FrameTells _ l d k (told_wires _ is.lines));
}

resend_routed : (n : Net) (i : ℕ) → IsRouted n → IsRouted (at_imp (imp_at n.imps i) i resend n)
resend_routed n i is = call_routed n i resend resend_tells is

route_routed : (n : Net) (i : ℕ) → IsRouted n → IsRouted (at_imp (imp_at n.imps i) i route n)
route_routed n i is = call_routed n i route route_tells is

start_routed : (n : Net) (i : ℕ) → IsRouted n → IsRouted (imp_started n i)
start_routed n i is =
    let ports : ℕ = count_by (ends_at i) n.lines in
    let s : State = started_imp i (hosts_at (site_at n i)) ports in
    record { few = still_few n.imps i _ is.few; imps = All-set ImpHeard n.imps i (Some s) (All-replicate HeardVector ports None tt) is.imps; lines = is.lines }

stop_routed : (n : Net) (i : ℕ) → IsRouted n → IsRouted (imp_stopped n i)
stop_routed n i is = record { few = still_few n.imps i None is.few; imps = All-set ImpHeard n.imps i None tt is.imps; lines = is.lines }

pub step_routed : (n : Net) (e : NetEvent) → IsRouted n → IsRouted (stepped n e)
step_routed n (event.Deliver l d k) is = deliver_routed n l d k is
step_routed n (event.Drop l d k) is = drop_routed n l d k is
step_routed n (event.Garble l d k) is = drop_routed n l d k is
step_routed n (event.Resend i) is = resend_routed n i is
step_routed n (event.Route i) is = route_routed n i is
step_routed n (event.Claim i) is = call_routed n i claim (λ s here. quiet_tells _ here) is
step_routed n (event.EndDown i l) is = call_routed n i _ (end_down_tells (port_of n.lines i l)) is
step_routed n (event.EndUp i l) is = call_routed n i _ (λ s here. quiet_tells _ here) is
step_routed n (event.ImpDown i) is = stop_routed n i is
step_routed n (event.ImpUp i) is = start_routed n i is
step_routed n (event.HostDown h) is = logged_routed (crossing.Down h ∷ []) _ (call_routed n h.imp _ (host_down_tells h.host) is)
step_routed n (event.HostUp h) is = logged_routed (crossing.Up h ∷ []) _ (call_routed n h.imp _ (λ s here. quiet_tells _ here) is)
step_routed n (event.GiveUp f) is = call_routed n _ _ (λ s here. quiet_tells _ here) is
step_routed n (event.Forget at from) is = call_routed n at _ (λ s here. quiet_tells _ here) is
step_routed n (event.Abandon f) is = call_routed n _ _ (λ s here. quiet_tells _ here) is
step_routed n (event.Ask f) is = call_routed n _ _ (ask_tells f) is

-- ---- a quiet round

pub round_routed : (n : Net) → IsRouted n → IsRouted (quiet_round n)
round_routed n is = round_keeps IsRouted (record { route = route_routed; resend = resend_routed; deliver = deliver_routed; drop = drop_routed }) n is

-- ---- the opening

opened_heard : (i : ℕ) (sites : List (Option ℕ)) (ports : ℕ → ℕ) → All ImpHeard (opened_from i sites ports)
opened_heard i [] ports = All-nil ImpHeard
opened_heard i (site ∷ sites) ports = All-cons ImpHeard (opened_imp i site (ports i)) (opened_from (i + 1) sites ports) (at site) (opened_heard (i + 1) sites ports) where
  at : (o : Option ℕ) → ImpHeard (opened_imp i o (ports i))
  at None = tt
  at (Some hosts) = All-replicate HeardVector (ports i) None tt

empty_tells : (ends : List Ends) → All WireTells (map empty_wire ends)
empty_tells [] = All-nil WireTells
empty_tells (e ∷ ends) = All-cons WireTells (empty_wire e) (map empty_wire ends) (record { forward = All-nil FrameTells; back = All-nil FrameTells }) (empty_tells ends)

pub opening_routed : (hosts : List Host) (sites : List (Option ℕ)) (ends : List Ends) → length sites ≤ most_imps + 1 → IsRouted (opening_subnet hosts sites ends)
opening_routed hosts sites ends few =
    let ports : ℕ → ℕ = λ i. count_by (ends_at i) (map empty_wire ends) in
    record { few = subst (λ (k : ℕ). k ≤ most_imps + 1) (sym (places_opened 0 sites ports)) few; imps = opened_heard 0 sites ports; lines = empty_tells ends }

-- ---- so packets can name every host to which a route leads

far_heard : (o : Option (List ℕ)) (imp : ℕ) → HeardVector o → most_imps < imp → heard_distance o imp ≡ infinite
far_heard None imp here far = refl
far_heard (Some distances) imp here far = elim (cases_Bool (imp == 0)) [
  | inl none ↦ (let zero_imp : imp ≡ 0 = eqb-true imp 0 none in absurd (omega (arith, zero_imp, far)))
  | inr some ↦ rw some (get_or_past distances (imp - 1) infinite (let size : length distances ≡ most_imps = here.one_each in omega (arith, size, far)))
]

far_least : (heard : List (Option (List ℕ))) (imp : ℕ) → All HeardVector heard → most_imps < imp → least_heard heard imp ≡ infinite
far_least [] imp all far = refl
far_least (o ∷ others) imp all far =
    let here : heard_distance o imp ≡ infinite = far_heard o imp (All-head HeardVector o others all) far in
    let rest : least_heard others imp ≡ infinite = far_least others imp (All-tail HeardVector o others all) far in
    rw (here, rest) refl

no_route : (s : State) (imp : ℕ) → All HeardVector s.routes.heard → most_imps < imp → (imp ≡ number s → ⊥) → has_route s imp ≡ false
no_route s imp all far other =
    let least : least_heard s.routes.heard imp ≡ infinite = far_least _ imp all far in
    let distance : distance_to s.routes imp ≡ infinite = distance-other _ imp other ∙ ap (λ (d : ℕ). min (d + 1) infinite) least in
    ap (λ (o : Option ℕ). is_some o) (next-nowhere _ imp distance)

imp_below : (imps : List (Option State)) (i : ℕ) (s : State) → imp_at imps i ≡ Some s → i < length imps
imp_below [] i s at = absurd (cc)
imp_below (o ∷ imps) zero s at = omega arith
imp_below (o ∷ imps) (suc i) s at = let below : i < length imps = imp_below imps i s at in omega (arith, below)

-- a message that goes somewhere goes to an IMP of the subnet
named : (h : Host) → IsAddress h → h.imp ≤ most_imps → IsPacketHost h
named h is low = record { some = is.imp_from; imp = low; host = is.host_to }

where_to : (s : State) (m : HostMessage) → All HeardVector s.routes.heard → number s ≤ most_imps → (go : Way) → way_of s m.flow ≡ go → (go ≡ Nowhere → ⊥) → m.flow.destination.imp ≤ most_imps
where_to s m all low go is goes = elim (cases_Bool (m.flow.destination.imp == number s)) [
  | inl own ↦ (let same : m.flow.destination.imp ≡ number s = eqb-true m.flow.destination.imp (number s) own in omega (arith, same, low))
  | inr other ↦ elim (cases_lt most_imps m.flow.destination.imp) [
    | inl far ↦ (let none : has_route s m.flow.destination.imp ≡ false = no_route s _ all far (λ e. (let both : true ≡ false = sym (eq-eqb m.flow.destination.imp (number s) e) ∙ other in cc)) in
        let no : Nowhere ≡ go = rw (other, none) at is in absurd (goes (sym no)))
    | inr near ↦ omega (arith, near)
  ]
]

pub can_go : (n : Net) (m : HostMessage) → IsRouted n → IsSound n → IsHostMessage m → CanGoFrom (imp_at n.imps m.flow.source.imp) m
can_go n m routed sound is = by (imp_at n.imps m.flow.source.imp) refl (imp_heard n.imps _ routed.imps) where
  carriable : (s : State) → imp_at n.imps m.flow.source.imp ≡ Some s → m.flow.destination.imp ≤ most_imps → IsCarriable m
  carriable s at to =
      let below : m.flow.source.imp < length n.imps = imp_below n.imps _ s at in
      let few : length n.imps ≤ most_imps + 1 = routed.few in
      record { source = named _ is.source (omega (arith, below, few)); destination = named _ is.destination to; link = is.link; text = is.text }

  to : (s : State) → imp_at n.imps m.flow.source.imp ≡ Some s → All HeardVector s.routes.heard → (go : Way) → way_of s m.flow ≡ go → (go ≡ Nowhere → ⊥) → m.flow.destination.imp ≤ most_imps
  to s at heard go way goes =
      let own : number s ≡ m.flow.source.imp = (subst (IsAt m.flow.source.imp) at (sound.imps m.flow.source.imp)).own in
      let below : m.flow.source.imp < length n.imps = imp_below n.imps _ s at in
      let few : length n.imps ≤ most_imps + 1 = routed.few in
      where_to s m heard (omega (arith, own, below, few)) go way goes

  goes_by : (s : State) → imp_at n.imps m.flow.source.imp ≡ Some s → All HeardVector s.routes.heard → (go : Way) → way_of s m.flow ≡ go → CanGo go m
  goes_by s at heard Nowhere way = tt
  goes_by s at heard Here way = carriable s at (to s at heard Here way (λ e. cc))
  goes_by s at heard Away way = carriable s at (to s at heard Away way (λ e. cc))

  by : (o : Option State) → imp_at n.imps m.flow.source.imp ≡ o → ImpHeard o → CanGoFrom o m
  by None at heard = tt
  by (Some s) at heard = goes_by s at heard _ refl
