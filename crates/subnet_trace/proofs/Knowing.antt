-- What an IMP keeps of flows and channels can be printed, after each of its calls.
use Rattle.subnet_trace.proofs.Common.{length-set, All, HostMessage, Flow, Fate, PacketFields, PacketKind, carried_by, Channel, ChannelFault, Content, Frame, Received, Table, next_of, vector_of, Outgoing, Port, Message, Told}
use Rattle.std.proofs.Common.{◌≡◌, ℕ, zero, suc, ◌+◌, ◌<◌, Bool, true, false, List, [], ◌∷◌, ◌++◌, if◌then◌else◌, length, map, Option, Some, None, Result, Ok, Err, refl, sym, ap, subst, arith, replicate}
use Rattle.std.proofs.lemmas.List.Elements.{All-append, All-cons, All-head, All-nil, All-set, All-tail, All-map, All-push, All-replicate}
use Rattle.link_table.specs.Flows.{Sources, handed, release_in}
use Rattle.imp_channel.specs.Line.{End, answer_to, is_free, submitted_on, all_acknowledged, channel_at, expected_after, frames_from, frames_of, holding, is_foreign, resent, routes_frame, state_after, submitted}
use Rattle.imp_node.specs.Arrival.{arrival, arrived, frame_taken, from_line, ignored, taken_frame, Answering, Arrival, NoSlot, Old, Passing, Piece, Replying, Undeliverable, Unmarked}
use Rattle.imp_node.specs.Lines.{resend, resent_from, route, claim, told_from, end_down, end_up, on_port, resent_by, told_by}
use Rattle.imp_node.specs.Offering.{from_host, Away, Here, Nowhere, Way, offered}
use Rattle.imp_node.specs.Pump.{Pumped, packet_sent, pump, pumped, sent_on, target, stored}
use Rattle.imp_node.specs.State.{HostState, ImpTurn, State, down_port, host_at, port_at, is_up, no_host, opening_node, up_host, up_port, with_host}
use Rattle.imp_node.specs.Taking.{taken_by, to_host, is_from_here, replied, reply_has_room}
use Rattle.subnet_trace.specs.Told.{IsAnswerTold, IsFlowNamed, IsHostTold, IsKeptTold, IsMessageTold, IsPacketTold, IsSourceTold, IsShort}
use Rattle.std.proofs.lemmas.List.Quantifiers.{position-Some}
use Rattle.std.specs.FinMap as fin
use Rattle.std.specs.Prelude.{position, slice_index_or}
use Rattle.interface.specs.declared.crossing.Answer.{Answer}
use Rattle.interface.specs.declared.crossing.Answer.TheVariants as answer
use Rattle.link_table.specs.declared.destination.Fate.TheVariants as fate
use Rattle.link_table.specs.declared.source.Release.{Release}
use Rattle.link_table.specs.declared.source.Release.TheVariants as release
use Rattle.packetiser.specs.declared.packet.PacketKind.TheVariants as kind
use Rattle.imp_channel.specs.declared.frame.Content.TheVariants as content
use Rattle.imp_channel.specs.declared.line.Received.TheVariants as received
use Rattle.imp_channel.proofs.lemmas.{fresh_carried}
use Rattle.imp_node.specs.Arrival as arrivals
use Rattle.imp_node.specs.Asking.{ask, asked_by}
use Rattle.imp_node.specs.Flows.{answer_packet, answer_queued, answered_by, fated, freed, given, message_queued, next_number, noted, with_begun}
use Rattle.imp_node.specs.Stopping.{abandon, forget, give_up, host_down, host_up, all_handed, all_returned, message_returned}
use Rattle.subnet_trace.proofs.Tables.{TableHas, answered_has, begun_has, dropped_has, ended_has, given_up_has, handed_has, none_has, noted_has, number_short}

-- ---- what is known

-- a packet is on a channel with a short number
abbrev pub ContentFits : Content → Type 0
ContentFits (content.Packet carried) = IsShort carried.channel
ContentFits content.Nothing = Unit {0}
ContentFits (content.Routes distances) = Unit {0}

abbrev pub FrameFits : Frame → Type 0
FrameFits f = ContentFits f.content

abbrev pub OutFits : Outgoing → Type 0
OutFits out = FrameFits out.frame

-- the channels of an end have short numbers
abbrev EndFits : End → Type 0
EndFits e = IsShort (length e.sending)

abbrev PortFits : Port → Type 0
PortFits p = EndFits p.line

pub record Knows (s : State) : Type 0 where
  pub hosts : All IsHostTold s.hosts
  pub sources : TableHas IsSourceTold s.sources
  pub kept : TableHas IsKeptTold s.kept
  pub ports : All PortFits s.ports

pub record TurnKnows (turn : ImpTurn) : Type 0 where
  pub state : Knows turn.state
  pub frames : All OutFits turn.frames

-- ---- the pump

port_fits : (ports : List Port) (k : ℕ) → All PortFits ports → PortFits (port_at ports k)
port_fits [] k all = omega arith
port_fits (p ∷ ports) zero all = All-head PortFits p ports all
port_fits (p ∷ ports) (suc k) all = port_fits ports k (All-tail PortFits p ports all)

record PumpedFits (w : Pumped) : Type 0 where
  ports : All PortFits w.ports
  frames : All OutFits w.frames

sent_fits : (ports : List Port) (k : ℕ) (p : PacketFields) (free : Option ℕ) → position is_free (port_at ports k).line.sending ≡ free → All PortFits ports → PumpedFits (sent_on ports k p (submitted_on (port_at ports k).line p free))
sent_fits ports k p None is all = record { ports = all; frames = All-nil OutFits }
sent_fits ports k p (Some c) is all =
    let e : End = (port_at ports k).line in
    let fits : EndFits e = port_fits ports k all in
    let low : c < length e.sending = (position-Some is_free e.sending c (channel_at e c) is).0 in
    let held : length (holding e c p).sending ≡ length e.sending = length-set e.sending c _ in
    record {
      ports = All-set PortFits ports k (record (port_at ports k) { line = holding e c p }) (omega (arith, held, fits)) all;
      frames = All-cons OutFits _ [] (omega (arith, low, fits)) (All-nil OutFits);
    }

packet_fits : (ports : List Port) (p : PacketFields) (next : Option ℕ) → All PortFits ports → PumpedFits (packet_sent ports p next)
unfolding submitted
packet_fits ports p None all = record { ports = all; frames = All-nil OutFits }
packet_fits ports p (Some k) all = sent_fits ports k p _ refl all

pumped_fits : (routes : Table) (ports : List Port) (ps : List PacketFields) → All PortFits ports → PumpedFits (pumped routes ports ps)
pumped_fits routes ports [] all = record { ports = all; frames = All-nil OutFits }
pumped_fits routes ports (p ∷ ps) all =
    let one : Pumped = packet_sent ports p (next_of routes (target p)) in
    let first : PumpedFits one = packet_fits ports p _ all in
    let rest : PumpedFits (pumped routes one.ports ps) = pumped_fits routes one.ports ps first.ports in
    record { ports = rest.ports; frames = All-append OutFits one.frames (pumped routes one.ports ps).frames first.frames rest.frames }

pump_knows : (frames : List Outgoing) (s : State) → All OutFits frames → Knows s → TurnKnows (pump frames s)
pump_knows frames s fits k =
    let w : PumpedFits (pumped s.routes s.ports s.store) = pumped_fits s.routes _ s.store k.ports in
    record {
      state = record { hosts = k.hosts; sources = k.sources; kept = k.kept; ports = w.ports };
      frames = All-append OutFits frames (pumped s.routes s.ports s.store).frames fits w.frames;
    }

quiet_knows : (s : State) → Knows s → TurnKnows (pump [] s)
quiet_knows s k = pump_knows [] s (All-nil OutFits) k

-- ---- hosts

at_host : (hosts : List HostState) (h : ℕ) → All IsHostTold hosts → IsHostTold (slice_index_or hosts h no_host)
at_host [] h all = record { queue = All-nil IsMessageTold; answers = All-nil IsAnswerTold }
at_host (x ∷ hosts) zero all = All-head IsHostTold x hosts all
at_host (x ∷ hosts) (suc h) all = at_host hosts h (All-tail IsHostTold x hosts all)

with_host_knows : (s : State) (h : ℕ) (x : HostState) → IsHostTold x → Knows s → Knows (with_host s h x)
with_host_knows s h x told k = record { hosts = All-set IsHostTold s.hosts h x told k.hosts; sources = k.sources; kept = k.kept; ports = k.ports }

given_told : (h : HostState) (t : Told) → IsHostTold h → IsAnswerTold t → IsHostTold (given h t)
given_told h t told named = record { queue = told.queue; answers = by h.up } where
  by : (up : Bool) → All IsAnswerTold (if up then h.answers ++ t ∷ [] else h.answers)
  by true = All-push IsAnswerTold h.answers t told.answers named
  by false = told.answers

-- an answer waits
queued_knows : (k : Answer) (f : Flow) (s : State) → IsFlowNamed f → Knows s → Knows (answer_queued k f s)
queued_knows k f s named knows = record {
  hosts = All-set IsHostTold s.hosts f.source.host (given (host_at s f.source.host) (record { kind = k; flow = f })) (given_told _ _ (at_host _ _ knows.hosts) named) knows.hosts;
  sources = by (is_up s _);
  kept = knows.kept;
  ports = knows.ports;
} where
  by : (up : Bool) → TableHas IsSourceTold (if up then s.sources else handed s.sources f)
  by true = knows.sources
  by false = handed_has _ f knows.sources

answered_knows : (r : Release) (k : Answer) (f : Flow) (n : ℕ) (s : State) → IsFlowNamed f → Knows s → Knows (answered_by r k f n s)
answered_knows release.Freed k f n s named knows = queued_knows k f _ named (record { hosts = knows.hosts; sources = answered_has _ f n knows.sources; kept = knows.kept; ports = knows.ports })
answered_knows release.Stale k f n s named knows = knows

-- a message waits
message_knows : (m : Message) (s : State) → IsMessageTold m → Knows s → Knows (message_queued m s)
message_knows m s told k =
    let here : IsHostTold (host_at s m.flow.destination.host) = at_host _ _ k.hosts in
    with_host_knows s _ _ (record { queue = All-push IsMessageTold (host_at s m.flow.destination.host).queue m here.queue told; answers = here.answers }) k

begun_knows : (f : Flow) (s : State) → IsFlowNamed f → Knows s → Knows (with_begun f s)
begun_knows f s named k = record { hosts = k.hosts; sources = begun_has _ f named k.sources; kept = k.kept; ports = k.ports }

noted_knows : (f : Flow) (n : ℕ) (new : Fate) (s : State) → IsFlowNamed f → IsShort n → Knows s → Knows (noted f n new s)
noted_knows f n new s named short k = record { hosts = k.hosts; sources = k.sources; kept = noted_has s.kept f n new named short k.kept; ports = k.ports }

fated_knows : (f : Flow) (n : ℕ) (new : Fate) (s : State) → Knows s → Knows (fated f n new s)
fated_knows f n new s k = record { hosts = k.hosts; sources = k.sources; kept = ended_has s.kept f n new k.kept; ports = k.ports }

-- ---- a host offers a message

offered_knows : (go : Way) (m : HostMessage) (s : State) → IsFlowNamed m.flow → Knows s → Knows (offered go m s)
offered_knows Nowhere m s named k = queued_knows _ m.flow s named k
offered_knows Here m s named k =
    let short : IsShort (next_number s m.flow) = number_short _ in
    message_knows _ _ (record { flow = named; number = short })
    (noted_knows m.flow _ _ _ named short (begun_knows m.flow s named k))
offered_knows Away m s named k = let begun : Knows (with_begun m.flow s) = begun_knows m.flow s named k in record { hosts = begun.hosts; sources = begun.sources; kept = begun.kept; ports = begun.ports }

pub from_host_knows : (m : HostMessage) (s : State) → IsFlowNamed m.flow → Knows s → TurnKnows (from_host s m)
from_host_knows m s named k = quiet_knows _ (offered_knows _ m s named k)

-- ---- a frame comes in

freed_length : (acks : List Bool) (channels : List Channel) → length (all_acknowledged acks channels) ≡ length channels
freed_length acks [] = refl
freed_length [] (c ∷ channels) = ap suc (freed_length [] channels)
freed_length (ack ∷ acks) (c ∷ channels) = ap suc (freed_length acks channels)

after_fits : (e : End) (f : Frame) → EndFits e → EndFits (state_after e f)
after_fits e f fits = by (is_foreign f.content) where
  by : (b : Bool) → EndFits (if b then e else record { sending = all_acknowledged f.acks e.sending; expected = expected_after e.expected f.content })
  by true = fits
  by false = subst IsShort (sym (freed_length f.acks _)) fits

taken_knows : (k : ℕ) (f : Frame) (s : State) → Knows s → Knows (frame_taken k f s)
taken_knows k f s knows = record {
  hosts = knows.hosts;
  sources = knows.sources;
  kept = knows.kept;
  ports = All-set PortFits s.ports k _ (after_fits _ f (port_fits _ k knows.ports)) knows.ports;
}

arrived_knows : (a : Arrival) (p : PacketFields) (s : State) → IsPacketTold p → Knows s → Knows (arrived a p s)
arrived_knows Old p s told k = k
arrived_knows (Undeliverable new packet) p s told k =
    let known = noted_knows _ _ new s told.flow told.number k in
    record { hosts = known.hosts; sources = known.sources; kept = known.kept; ports = known.ports }
arrived_knows NoSlot p s told k = k
arrived_knows (arrivals.Whole text) p s told k =
    let known = noted_knows _ _ _ s told.flow told.number k in
    message_knows _ _ (record { flow = told.flow; number = told.number }) (record { hosts = known.hosts; sources = known.sources; kept = known.kept; ports = known.ports })
arrived_knows Unmarked p s told k =
    let known = noted_knows _ _ _ s told.flow told.number k in
    record { hosts = known.hosts; sources = known.sources; kept = known.kept; ports = known.ports }
arrived_knows (Answering kind) p s told k = answered_knows _ kind _ _ s told.flow k
arrived_knows a p s told k = record { hosts = k.hosts; sources = k.sources; kept = k.kept; ports = k.ports }

ignored_knows : (s : State) → Knows s → TurnKnows (ignored s)
ignored_knows s k = record { state = k; frames = All-nil OutFits }

acknowledged_fits : (k : ℕ) (s : State) → All OutFits (arrivals.acknowledged k s)
acknowledged_fits k s = All-cons OutFits _ [] tt (All-nil OutFits)

frame_knows : (got : Result Received ChannelFault) (k : ℕ) (f : Frame) (s : State) → ((p : PacketFields) → got ≡ Ok (received.Fresh p) → IsPacketTold p) → Knows s → TurnKnows (taken_frame got k f s)
frame_knows (Ok (received.Fresh p)) k f s told knows = at _ where
  at : (room : Bool) → TurnKnows (if room then pump (arrivals.acknowledged k (frame_taken k f s)) (arrived (arrival s p) p (frame_taken k f s)) else ignored s)
  at true = pump_knows (arrivals.acknowledged k (frame_taken k f s)) (arrived (arrival s p) p (frame_taken k f s)) (acknowledged_fits k (frame_taken k f s)) (arrived_knows _ p _ (told p refl) (taken_knows k f s knows))
  at false = ignored_knows s knows
frame_knows (Ok received.Repeat) k f s told knows = pump_knows (arrivals.acknowledged k (frame_taken k f s)) _ (acknowledged_fits k (frame_taken k f s)) (taken_knows k f s knows)
frame_knows (Ok received.AckOnly) k f s told knows = quiet_knows _ (taken_knows k f s knows)
frame_knows (Ok (received.Routes distances)) k f s told knows =
    let taken : Knows (frame_taken k f s) = taken_knows k f s knows in
    quiet_knows _ (record { hosts = taken.hosts; sources = taken.sources; kept = taken.kept; ports = taken.ports })
frame_knows (Err fault) k f s told knows = ignored_knows s knows

pub from_line_knows : (k : ℕ) (f : Frame) (s : State) → All IsPacketTold (carried_by f.content) → Knows s → TurnKnows (from_line s k f)
from_line_knows k f s told knows = at _ where
  fresh : (p : PacketFields) → answer_to (port_at s.ports k).line f ≡ Ok (received.Fresh p) → IsPacketTold p
  fresh p is = All-head IsPacketTold p [] (subst (All IsPacketTold) (fresh_carried (port_at s.ports k).line f p is) told)

  at : (up : Bool) → TurnKnows (if up then taken_frame (answer_to (port_at s.ports k).line f) k f s else ignored s)
  at true = frame_knows (answer_to (port_at s.ports k).line f) k f s fresh knows
  at false = ignored_knows s knows

-- ---- a host takes, goes down, comes up

replied_knows : (k : Answer) (packet : PacketKind) (m : Message) (s : State) → IsMessageTold m → Knows s → Knows (replied k packet m s)
replied_knows k packet m s told knows = by (is_from_here s m) where
  by : (here : Bool) → Knows (if here then freed k m.flow m.number s else stored (answer_packet packet m.flow m.number) s)
  by true = answered_knows (release_in m.number (fin.get s.sources m.flow)) k m.flow _ s told.flow knows
  by false = record { hosts = knows.hosts; sources = knows.sources; kept = knows.kept; ports = knows.ports }

taken_by_knows : (h : ℕ) (ts : List Told) (ms : List Message) (s : State) → All IsAnswerTold ts → All IsMessageTold ms → Knows s → Knows (taken_by h ts ms s)
taken_by_knows h (t ∷ others) ms s answers queue k =
    let left : Knows (with_host s h (record (host_at s h) { answers = others })) = with_host_knows s h _ (record { queue = (at_host _ h k.hosts).queue; answers = All-tail IsAnswerTold t others answers }) k in
    record { hosts = left.hosts; sources = handed_has _ t.flow k.sources; kept = left.kept; ports = left.ports }
taken_by_knows h [] (m ∷ others) s answers queue k =
    let left : Knows (with_host s h (record (host_at s h) { queue = others })) = with_host_knows s h _ (record { queue = All-tail IsMessageTold m others queue; answers = (at_host _ h k.hosts).answers }) k in
    replied_knows _ kind.Rfnm m _ (All-head IsMessageTold m others queue) (fated_knows m.flow _ _ _ left)
taken_by_knows h [] [] s answers queue k = k

pub to_host_knows : (h : ℕ) (s : State) → Knows s → TurnKnows (to_host s h)
to_host_knows h s k =
    let here : IsHostTold (host_at s h) = at_host _ h k.hosts in
    quiet_knows _ (taken_by_knows h _ _ s here.answers here.queue k)

returned_knows : (m : Message) (s : State) → IsMessageTold m → Knows s → Knows (message_returned m s)
returned_knows m s told k = by (reply_has_room t m) where
  t : State
  t = fated m.flow m.number fate.Dead s

  fated_is : Knows t
  fated_is = fated_knows m.flow _ _ s k

  by : (room : Bool) → Knows (if room then replied answer.Dead kind.Dead m t else t)
  by true = replied_knows answer.Dead kind.Dead m t told fated_is
  by false = fated_is

all_returned_knows : (ms : List Message) (s : State) → All IsMessageTold ms → Knows s → Knows (all_returned ms s)
all_returned_knows [] s all k = k
all_returned_knows (m ∷ ms) s all k = all_returned_knows ms (message_returned m s) (All-tail IsMessageTold m ms all) (returned_knows m s (All-head IsMessageTold m ms all) k)

all_handed_has : (ts : List Told) (m : Sources) → TableHas IsSourceTold m → TableHas IsSourceTold (all_handed ts m)
all_handed_has [] m has = has
all_handed_has (t ∷ ts) m has = all_handed_has ts (handed m t.flow) (handed_has m t.flow has)

pub host_down_knows : (h : ℕ) (s : State) → Knows s → TurnKnows (host_down s h)
host_down_knows h s k =
    let here : IsHostTold (host_at s h) = at_host _ h k.hosts in
    let down : Knows (with_host s h no_host) = with_host_knows s h no_host (record { queue = All-nil IsMessageTold; answers = All-nil IsAnswerTold }) k in
    quiet_knows _ (all_returned_knows _ _ here.queue (record { hosts = down.hosts; sources = all_handed_has (host_at s h).answers _ k.sources; kept = k.kept; ports = k.ports }))

pub host_up_knows : (h : ℕ) (s : State) → Knows s → TurnKnows (host_up s h)
host_up_knows h s k =
    let here : IsHostTold (host_at s h) = at_host _ h k.hosts in
    quiet_knows _ (with_host_knows s h _ (record { queue = here.queue; answers = here.answers }) k)

-- ---- the other calls

pub give_up_knows : (f : Flow) (s : State) → IsFlowNamed f → Knows s → TurnKnows (give_up s f)
give_up_knows f s named k = quiet_knows _ (queued_knows _ f _ named (record { hosts = k.hosts; sources = given_up_has _ f k.sources; kept = k.kept; ports = k.ports }))

pub forget_knows : (imp : ℕ) (s : State) → Knows s → TurnKnows (forget s imp)
forget_knows imp s k = quiet_knows _ (record { hosts = k.hosts; sources = k.sources; kept = dropped_has s.kept imp k.kept; ports = k.ports })

pub abandon_knows : (f : Flow) (s : State) → Knows s → TurnKnows (abandon s f)
abandon_knows f s k = quiet_knows _ (record { hosts = k.hosts; sources = k.sources; kept = k.kept; ports = k.ports })

asked_knows : (o : Option ℕ) (f : Flow) (s : State) → Knows s → Knows (asked_by o f s)
asked_knows None f s k = k
asked_knows (Some n) f s k = record { hosts = k.hosts; sources = k.sources; kept = k.kept; ports = k.ports }

pub ask_knows : (f : Flow) (s : State) → Knows s → TurnKnows (ask s f)
ask_knows f s k = quiet_knows _ (asked_knows _ f s k)

pub end_down_knows : (k : ℕ) (s : State) → Knows s → TurnKnows (end_down s k)
end_down_knows k s knows = quiet_knows _ (record { hosts = knows.hosts; sources = knows.sources; kept = knows.kept; ports = All-set PortFits s.ports k down_port (omega arith) knows.ports })

pub claim_knows : (s : State) → Knows s → TurnKnows (claim s)
claim_knows s k = quiet_knows _ (record { hosts = k.hosts; sources = k.sources; kept = k.kept; ports = k.ports })

pub end_up_knows : (k : ℕ) (s : State) → Knows s → TurnKnows (end_up s k)
end_up_knows k s knows = quiet_knows _ (record { hosts = knows.hosts; sources = knows.sources; kept = knows.kept; ports = All-set PortFits s.ports k _ (port_fits _ k knows.ports) knows.ports })

-- the frames of busy channels, of which the first has this number
frames_fit : (e : End) (c : ℕ) (channels : List Channel) → IsShort (c + length channels) → All FrameFits (frames_from e c channels)
frames_fit e c [] short = All-nil FrameFits
frames_fit e c (channel ∷ channels) short =
    All-append FrameFits (frames_of e c channel.bit channel.packet) (frames_from e (c + 1) channels) (at _) (frames_fit e (c + 1) channels (omega (arith, short)))
  where
    at : (packet : Option PacketFields) → All FrameFits (frames_of e c channel.bit packet)
    at None = All-nil FrameFits
    at (Some p) = All-cons FrameFits _ [] (omega (arith, short)) (All-nil FrameFits)

resent_fit : (k : ℕ) (ports : List Port) → All PortFits ports → All OutFits (resent_from k ports)
resent_fit k [] all = All-nil OutFits
resent_fit k (port ∷ ports) all = All-append OutFits (resent_by k port) (resent_from (k + 1) ports) (at _) (resent_fit (k + 1) ports (All-tail PortFits port ports all)) where
  at : (up : Bool) → All OutFits (if up then map (on_port k) (resent port.line) else [])
  at true = All-map OutFits (on_port k) (resent port.line) (frames_fit port.line 0 port.line.sending (omega (arith, All-head PortFits port ports all)))
  at false = All-nil OutFits

pub resend_knows : (s : State) → Knows s → TurnKnows (resend s)
resend_knows s k = pump_knows _ s (resent_fit 0 _ k.ports) k

told_fit : (distances : List ℕ) (k : ℕ) (ports : List Port) → All OutFits (told_from distances k ports)
told_fit distances k [] = All-nil OutFits
told_fit distances k (port ∷ ports) = All-append OutFits (told_by distances k port) (told_from distances (k + 1) ports) (at _) (told_fit distances (k + 1) ports) where
  at : (up : Bool) → All OutFits (if up then on_port k (routes_frame port.line distances) ∷ [] else [])
  at true = All-cons OutFits _ [] tt (All-nil OutFits)
  at false = All-nil OutFits

pub route_knows : (s : State) → Knows s → TurnKnows (route s)
route_knows s k = pump_knows _ s (told_fit (vector_of s.routes) 0 s.ports) k

-- ---- an IMP that starts

pub opening_knows : (own hosts ports : ℕ) → Knows (opening_node own hosts ports)
opening_knows own hosts ports = record {
  hosts = All-replicate IsHostTold hosts up_host (record { queue = All-nil IsMessageTold; answers = All-nil IsAnswerTold });
  sources = none_has IsSourceTold;
  kept = none_has IsKeptTold;
  ports = All-replicate PortFits ports up_port (omega arith);
}

-- and one that starts again, with its hosts down
pub started_knows : (own hosts ports : ℕ) → Knows (record (opening_node own hosts ports) { hosts = replicate hosts no_host })
started_knows own hosts ports =
    let opens : Knows (opening_node own hosts ports) = opening_knows own hosts ports in
    record { hosts = All-replicate IsHostTold hosts no_host (record { queue = All-nil IsMessageTold; answers = All-nil IsAnswerTold }); sources = opens.sources; kept = opens.kept; ports = opens.ports }
