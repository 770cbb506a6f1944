-- A property of every packet, over each call of an IMP.
use Rattle.imp_node.proofs.Common.{flat_map, Flow, Answer, HostMessage, Release, PacketFields, flow_of, PacketKind, carried_by, packets_in, ChannelFault, Frame, Received, vector_of, Port, Message, Told, State, ImpTurn, opening_node, up_port, host_at, port_at, number, Way, Nowhere, Here, Away, offered, from_host, is_from_here, reply_has_room, replied, taken_by, to_host, asked_by, ask, packets_in_channels, packets}
use Rattle.std.proofs.Common.{◌≡◌, ℕ, zero, suc, ◌+◌, replicate, Bool, true, false, List, [], ◌∷◌, ◌++◌, Option, Some, None, Result, Ok, Err, refl, cond, subst, sym, All, Contains, map, ◌==◌}
use Rattle.std.specs.FinMap as finite
use Rattle.std.proofs.lemmas.List.Elements.{All-nil, All-cons, All-head, All-tail, All-append, All-set, All-map, All-replicate, All-weaker, All-contains_itself, Contains-append_left, Contains-append_right}
use Rattle.bit_messages.specs.Body.{body}
use Rattle.interface.specs.declared.crossing.Answer.TheVariants as answer
use Rattle.link_table.specs.Flows.{release_in}
use Rattle.link_table.specs.declared.destination.Fate.TheVariants as fate
use Rattle.link_table.specs.declared.source.Release.TheVariants as release
use Rattle.packetiser.specs.Pieces.{packets_of}
use Rattle.packetiser.specs.declared.packet.PacketKind.TheVariants as kind
use Rattle.packetiser.proofs.lemmas.{All_left, All_right}
use Rattle.imp_channel.specs.Line.{answer_to, resent, routes_frame}
use Rattle.imp_channel.specs.declared.line.Received.TheVariants as received
use Rattle.imp_channel.proofs.lemmas.{ContentHas, fresh_carried, opening_has, opening_packets, packets_have, received_has, resent_has}
use Rattle.imp_node.specs.Pump.{pump, stored}
use Rattle.imp_node.specs.Flows.{freed, answered_by, answer_packet, next_number, fated}
use Rattle.imp_node.specs.Arrival.{Arrival, Passing, Old, Undeliverable, Replying, Piece, NoSlot, Whole, Unmarked, Answering, arrival, arrived, frame_taken, acknowledged, ignored, fresh, taken_frame, from_line}
use Rattle.imp_node.specs.Lines.{resent_by, resent_from, resend, told_by, told_from, route, claim, end_down, end_up, on_port}
use Rattle.imp_node.specs.Stopping.{give_up, forget, abandon, message_returned, all_returned, stopped, host_down, host_up}
use Rattle.imp_node.specs.Making.{Leaves, cut_for, from_host_makes, told_for, from_line_makes, reply_for, rfnm_for, to_host_makes, question_for, ask_makes, host_down_makes}
use Rattle.imp_node.proofs.Held.{PortHas, OutgoingHas, Has, TurnHas, has_packets, turn_has, port_has, pump_has, quiet_has, stored_has, answered_has, added_has, without_has}

-- ---- from_host

offered_has : (P : PacketFields → Type 0) (way : Way) (m : HostMessage) (s : State) → Has P s → All P (cut_for way s m) → Has P (offered way m s)
offered_has P Nowhere m s h made = record { store = h.store; lines = h.lines; slots = h.slots }
offered_has P Here m s h made = record { store = h.store; lines = h.lines; slots = h.slots }
offered_has P Away m s h made = record { store = All-append P s.store (packets_of m.flow (next_number s m.flow) (body m.text)) h.store made; lines = h.lines; slots = h.slots }

pub from_host_has : (P : PacketFields → Type 0) (s : State) (m : HostMessage) → Has P s → All P (from_host_makes s m) → TurnHas P (from_host s m)
from_host_has P s m h made = quiet_has P _ (offered_has P _ m s h made)

-- ---- from_line

pub taken_has : (P : PacketFields → Type 0) (k : ℕ) (f : Frame) (s : State) → Has P s → Has P (frame_taken k f s)
taken_has P k f s h = record {
  store = h.store;
  lines = All-set (PortHas P) s.ports k _ (received_has P _ f (port_has P _ k h.lines)) h.lines;
  slots = h.slots;
}

acknowledged_has : (P : PacketFields → Type 0) (k : ℕ) (s : State) → All (OutgoingHas P) (acknowledged k s)
acknowledged_has P k s = All-cons (OutgoingHas P) _ [] tt (All-nil (OutgoingHas P))

arrived_has : (P : PacketFields → Type 0) (a : Arrival) (p : PacketFields) (s : State) → Has P s → P p → All P (told_for a p) → Has P (arrived a p s)
arrived_has P Passing p s h here made = stored_has P p s here h
arrived_has P Old p s h here made = h
arrived_has P (Undeliverable new told) p s h here made =
    stored_has P _ _ (All-head P _ [] made)
    (record { store = h.store; lines = h.lines; slots = without_has P (flow_of p) s.slots h.slots })
arrived_has P (Replying told) p s h here made = stored_has P _ s (All-head P _ [] made) h
arrived_has P Piece p s h here made = record { store = h.store; lines = h.lines; slots = added_has P p _ here h.slots }
arrived_has P NoSlot p s h here made = h
arrived_has P (Whole text) p s h here made = record { store = h.store; lines = h.lines; slots = added_has P p _ here h.slots }
arrived_has P Unmarked p s h here made = record { store = h.store; lines = h.lines; slots = added_has P p _ here h.slots }
arrived_has P (Answering kind) p s h here made = answered_has P _ kind _ _ s h

ignored_has : (P : PacketFields → Type 0) (s : State) → Has P s → TurnHas P (ignored s)
ignored_has P s h = record { state = h; frames = All-nil (OutgoingHas P) }

fresh_turn_has : (P : PacketFields → Type 0) (k : ℕ) (f : Frame) (p : PacketFields) (s : State) → Has P s → P p → All P (told_for (arrival s p) p) → TurnHas P (fresh k f p s)
fresh_turn_has P k f p s h here dead = at _ where
  at : (room : Bool) → TurnHas P (cond room (pump (acknowledged k (frame_taken k f s)) (arrived (arrival s p) p (frame_taken k f s))) (ignored s))
  at true = pump_has P (acknowledged k (frame_taken k f s)) _ (acknowledged_has P k (frame_taken k f s)) (arrived_has P _ p _ (taken_has P k f s h) here dead)
  at false = ignored_has P s h

taken_frame_has : (P : PacketFields → Type 0) (answer : Result Received ChannelFault) (k : ℕ) (f : Frame) (s : State) → Has P s
    → ((p : PacketFields) → answer ≡ Ok (received.Fresh p) → P p × All P (told_for (arrival s p) p)) → TurnHas P (taken_frame answer k f s)
taken_frame_has P (Ok (received.Fresh p)) k f s h brings = fresh_turn_has P k f p s h (brings p refl).0 (brings p refl).1
taken_frame_has P (Ok received.Repeat) k f s h brings = pump_has P (acknowledged k (frame_taken k f s)) _ (acknowledged_has P k (frame_taken k f s)) (taken_has P k f s h)
taken_frame_has P (Ok received.AckOnly) k f s h brings = quiet_has P _ (taken_has P k f s h)
taken_frame_has P (Ok (received.Routes distances)) k f s h brings =
    let got : Has P (frame_taken k f s) = taken_has P k f s h in
    quiet_has P _ (record { store = got.store; lines = got.lines; slots = got.slots })
taken_frame_has P (Err fault) k f s h brings = ignored_has P s h

-- what a frame brings has it: its packet, and what that makes
abbrev pub Brings : (PacketFields → Type 0) → State → Frame → Type 0
Brings P s f = All P (from_line_makes s f)

brought_has : (P : PacketFields → Type 0) (s : State) (f : Frame) (p : PacketFields) → carried_by f.content ≡ p ∷ [] → Brings P s f → P p × All P (told_for (arrival s p) p)
brought_has P s f p is brings =
    let whole : All P ((p ∷ told_for (arrival s p) p) ++ []) = subst (λ (ps : List PacketFields). All P (flat_map (λ q. q ∷ told_for (arrival s q) q) ps)) is brings in
    let both : All P (p ∷ told_for (arrival s p) p) = All_left P (p ∷ told_for (arrival s p) p) [] whole in
    (All-head P p (told_for (arrival s p) p) both, All-tail P p (told_for (arrival s p) p) both)

pub from_line_has : (P : PacketFields → Type 0) (s : State) (k : ℕ) (f : Frame) → Has P s → Brings P s f → TurnHas P (from_line s k f)
from_line_has P s k f h brings = at _ where
  at : (up : Bool) → TurnHas P (cond up (taken_frame (answer_to (port_at s.ports k).line f) k f s) (ignored s))
  at true = taken_frame_has P (answer_to (port_at s.ports k).line f) k f s h (λ p is. brought_has P s f p (fresh_carried (port_at s.ports k).line f p is) brings)
  at false = ignored_has P s h

-- ---- to_host, host_down

replied_has : (P : PacketFields → Type 0) (kind : Answer) (packet : PacketKind) (m : Message) (s : State) → Has P s → All P (reply_for packet s m) → Has P (replied kind packet m s)
replied_has P kind packet m s h made = at (is_from_here s m) made where
  at : (here : Bool) → All P (cond here [] (answer_packet packet m.flow m.number ∷ [])) → Has P (cond here (freed kind m.flow m.number s) (stored (answer_packet packet m.flow m.number) s))
  at true made = answered_has P (release_in m.number (finite.get s.sources m.flow)) kind m.flow _ s h
  at false made = stored_has P _ s (All-head P _ [] made) h

taken_by_has : (P : PacketFields → Type 0) (h : ℕ) (told : List Told) (queue : List Message) (s : State) → Has P s → All P (rfnm_for s told queue) → Has P (taken_by h told queue s)
taken_by_has P h (told ∷ others) queue s has made = record { store = has.store; lines = has.lines; slots = has.slots }
taken_by_has P h [] (m ∷ others) s has made =
    replied_has P _ _ m _ (record { store = has.store; lines = has.lines; slots = has.slots }) made
taken_by_has P h [] [] s has made = has

pub to_host_has : (P : PacketFields → Type 0) (s : State) (h : ℕ) → Has P s → All P (to_host_makes s h) → TurnHas P (to_host s h)
to_host_has P s h has made = quiet_has P _ (taken_by_has P h _ _ s has made)

returned_has : (P : PacketFields → Type 0) (m : Message) (s : State) → Has P s → All P (reply_for kind.Dead s m) → Has P (message_returned m s)
returned_has P m s h made = at _ where
  t : State
  t = fated m.flow m.number fate.Dead s

  has : Has P t
  has = record { store = h.store; lines = h.lines; slots = h.slots }

  at : (room : Bool) → Has P (cond room (replied answer.Dead kind.Dead m t) t)
  at true = replied_has P answer.Dead _ m t has made
  at false = has

-- a reply doesn't change the IMP's number, so what the next ones make stays the same
pub returned_number : (m : Message) (s : State) → number (message_returned m s) ≡ number s
returned_number m s = at (reply_has_room t m) (is_from_here s m) _ where
  t : State
  t = fated m.flow m.number fate.Dead s

  at : (room here : Bool) (r : Release) → number (cond room (cond here (answered_by r answer.Dead m.flow m.number t) (stored (answer_packet kind.Dead m.flow m.number) t)) t) ≡ number s
  at true true release.Freed = refl
  at true true release.Stale = refl
  at true false r = refl
  at false here r = refl

all_returned_has : (P : PacketFields → Type 0) (ms : List Message) (s : State) → Has P s → All P (flat_map (reply_for kind.Dead s) ms) → Has P (all_returned ms s)
all_returned_has P [] s h made = h
all_returned_has P (m ∷ ms) s h made =
    let first : Has P (message_returned m s) = returned_has P m s h (All_left P _ _ made) in
    let rest : All P (flat_map (reply_for kind.Dead s) ms) = All_right P _ _ made in
    all_returned_has P ms (message_returned m s) first (subst (λ (own : ℕ). All P (flat_map (λ (q : Message). cond (q.flow.source.imp == own) [] (answer_packet kind.Dead q.flow q.number ∷ [])) ms)) (sym (returned_number m s)) rest)

pub host_down_has : (P : PacketFields → Type 0) (s : State) (h : ℕ) → Has P s → All P (host_down_makes s h) → TurnHas P (host_down s h)
host_down_has P s h has made =
    quiet_has P _ (all_returned_has P (host_at s h).queue (stopped s h) (record { store = has.store; lines = has.lines; slots = has.slots }) made)

-- ---- the ends of lines

on_port_has : (P : PacketFields → Type 0) (k : ℕ) (frames : List Frame) → All (λ f. ContentHas P f.content) frames → All (OutgoingHas P) (map (on_port k) frames)
on_port_has P k frames has = All-map (OutgoingHas P) (on_port k) frames has

resent_by_has : (P : PacketFields → Type 0) (k : ℕ) (port : Port) → PortHas P port → All (OutgoingHas P) (resent_by k port)
resent_by_has P k port has = at _ where
  at : (up : Bool) → All (OutgoingHas P) (cond up (map (on_port k) (resent port.line)) [])
  at true = on_port_has P k _ (resent_has P _ has)
  at false = All-nil (OutgoingHas P)

resent_from_has : (P : PacketFields → Type 0) (k : ℕ) (ports : List Port) → All (PortHas P) ports → All (OutgoingHas P) (resent_from k ports)
resent_from_has P k [] has = All-nil (OutgoingHas P)
resent_from_has P k (port ∷ ports) has =
    All-append (OutgoingHas P) (resent_by k port) (resent_from (k + 1) ports) (resent_by_has P k port (All-head (PortHas P) port ports has)) (resent_from_has P (k + 1) ports (All-tail (PortHas P) port ports has))

pub resend_has : (P : PacketFields → Type 0) (s : State) → Has P s → TurnHas P (resend s)
resend_has P s h = pump_has P _ s (resent_from_has P 0 _ h.lines) h

told_by_has : (P : PacketFields → Type 0) (distances : List ℕ) (k : ℕ) (port : Port) → All (OutgoingHas P) (told_by distances k port)
told_by_has P distances k port = at _ where
  at : (up : Bool) → All (OutgoingHas P) (cond up (on_port k (routes_frame port.line distances) ∷ []) [])
  at true = All-cons (OutgoingHas P) _ [] tt (All-nil (OutgoingHas P))
  at false = All-nil (OutgoingHas P)

told_from_has : (P : PacketFields → Type 0) (distances : List ℕ) (k : ℕ) (ports : List Port) → All (OutgoingHas P) (told_from distances k ports)
told_from_has P distances k [] = All-nil (OutgoingHas P)
told_from_has P distances k (port ∷ ports) =
    All-append (OutgoingHas P) (told_by distances k port) (told_from distances (k + 1) ports) (told_by_has P distances k port) (told_from_has P distances (k + 1) ports)

pub route_has : (P : PacketFields → Type 0) (s : State) → Has P s → TurnHas P (route s)
route_has P s h = pump_has P _ s (told_from_has P (vector_of s.routes) 0 s.ports) h

pub end_down_has : (P : PacketFields → Type 0) (s : State) (k : ℕ) → Has P s → TurnHas P (end_down s k)
end_down_has P s k h = quiet_has P _ (record {
  store = All-append P s.store (packets_in (port_at s.ports k).line.sending) h.store (packets_have P _ (port_has P _ k h.lines));
  lines = All-set (PortHas P) s.ports k _ (opening_has P) h.lines;
  slots = h.slots;
})

pub end_up_has : (P : PacketFields → Type 0) (s : State) (k : ℕ) → Has P s → TurnHas P (end_up s k)
end_up_has P s k h = quiet_has P _ (record {
  store = h.store;
  lines = All-set (PortHas P) s.ports k _ (port_has P _ k h.lines) h.lines;
  slots = h.slots;
})

-- ---- flows and hosts

pub claim_has : (P : PacketFields → Type 0) (s : State) → Has P s → TurnHas P (claim s)
claim_has P s h = quiet_has P _ (record { store = h.store; lines = h.lines; slots = h.slots })

pub give_up_has : (P : PacketFields → Type 0) (s : State) (f : Flow) → Has P s → TurnHas P (give_up s f)
give_up_has P s f h = quiet_has P _ (record { store = h.store; lines = h.lines; slots = h.slots })

asked_has : (P : PacketFields → Type 0) (o : Option ℕ) (f : Flow) (s : State) → Has P s → All P (question_for o f) → Has P (asked_by o f s)
asked_has P None f s h made = h
asked_has P (Some n) f s h made = stored_has P _ s (All-head P _ [] made) h

pub ask_has : (P : PacketFields → Type 0) (s : State) (f : Flow) → Has P s → All P (ask_makes s f) → TurnHas P (ask s f)
ask_has P s f h made = quiet_has P _ (asked_has P _ f s h made)

pub forget_has : (P : PacketFields → Type 0) (s : State) (imp : ℕ) → Has P s → TurnHas P (forget s imp)
forget_has P s imp h = quiet_has P _ (record { store = h.store; lines = h.lines; slots = h.slots })

pub abandon_has : (P : PacketFields → Type 0) (s : State) (f : Flow) → Has P s → TurnHas P (abandon s f)
abandon_has P s f h = quiet_has P _ (record { store = h.store; lines = h.lines; slots = without_has P f _ h.slots })

pub host_up_has : (P : PacketFields → Type 0) (s : State) (h : ℕ) → Has P s → TurnHas P (host_up s h)
host_up_has P s h has = quiet_has P _ (record { store = has.store; lines = has.lines; slots = has.slots })

-- ---- at the opening

pub start_has : (P : PacketFields → Type 0) (own hosts ports : ℕ) → Has P (opening_node own hosts ports)
start_has P own hosts ports = record { store = All-nil P; lines = All-replicate (PortHas P) ports up_port (opening_has P); slots = All-nil P }

-- ---- the packets as lists

-- a call that keeps every property of all packets leaves nothing new
leaves : (s : State) (made : List PacketFields) (turn : ImpTurn) → (Has (Contains (packets s ++ made)) s → All (Contains (packets s ++ made)) made → TurnHas (Contains (packets s ++ made)) turn) → Leaves s made turn
leaves s made turn has =
    let P : PacketFields → Type 0 = Contains (packets s ++ made) in
    let old : All P (packets s) = All-weaker (Contains (packets s)) P (λ p there. Contains-append_left (packets s) made p there) (packets s) (All-contains_itself (packets s)) in
    let new : All P made = All-weaker (Contains made) P (λ p there. Contains-append_right (packets s) made p there) made (All-contains_itself made) in
    turn_has P turn (has (has_packets P s old) new)

pub from_host_leaves : (s : State) (m : HostMessage) → Leaves s (from_host_makes s m) (from_host s m)
from_host_leaves s m = leaves s _ _ (from_host_has _ s m)

pub from_line_leaves : (s : State) (k : ℕ) (f : Frame) → Leaves s (from_line_makes s f) (from_line s k f)
from_line_leaves s k f = leaves s _ _ (from_line_has _ s k f)

pub to_host_leaves : (s : State) (h : ℕ) → Leaves s (to_host_makes s h) (to_host s h)
to_host_leaves s h = leaves s _ _ (to_host_has _ s h)

pub host_down_leaves : (s : State) (h : ℕ) → Leaves s (host_down_makes s h) (host_down s h)
host_down_leaves s h = leaves s _ _ (host_down_has _ s h)

pub resend_leaves : (s : State) → Leaves s [] (resend s)
resend_leaves s = leaves s [] _ (λ h none. resend_has (Contains (packets s ++ [])) s h)

pub route_leaves : (s : State) → Leaves s [] (route s)
route_leaves s = leaves s [] _ (λ h none. route_has (Contains (packets s ++ [])) s h)

pub claim_leaves : (s : State) → Leaves s [] (claim s)
claim_leaves s = leaves s [] (claim s) (λ h none. claim_has (Contains (packets s ++ [])) s h)

pub end_down_leaves : (s : State) (k : ℕ) → Leaves s [] (end_down s k)
end_down_leaves s k = leaves s [] _ (λ h none. end_down_has (Contains (packets s ++ [])) s k h)

pub end_up_leaves : (s : State) (k : ℕ) → Leaves s [] (end_up s k)
end_up_leaves s k = leaves s [] _ (λ h none. end_up_has (Contains (packets s ++ [])) s k h)

pub give_up_leaves : (s : State) (f : Flow) → Leaves s [] (give_up s f)
give_up_leaves s f = leaves s [] _ (λ h none. give_up_has (Contains (packets s ++ [])) s f h)

pub ask_leaves : (s : State) (f : Flow) → Leaves s (ask_makes s f) (ask s f)
ask_leaves s f = leaves s _ _ (ask_has _ s f)

pub forget_leaves : (s : State) (imp : ℕ) → Leaves s [] (forget s imp)
forget_leaves s imp = leaves s [] _ (λ h none. forget_has (Contains (packets s ++ [])) s imp h)

pub abandon_leaves : (s : State) (f : Flow) → Leaves s [] (abandon s f)
abandon_leaves s f = leaves s [] _ (λ h none. abandon_has (Contains (packets s ++ [])) s f h)

pub host_up_leaves : (s : State) (h : ℕ) → Leaves s [] (host_up s h)
host_up_leaves s h = leaves s [] _ (λ has none. host_up_has (Contains (packets s ++ [])) s h has)

no_channels : (count : ℕ) → packets_in_channels (replicate count up_port) ≡ []
no_channels zero = refl
no_channels (suc count) = rw opening_packets (no_channels count)

pub start_packets : (own hosts ports : ℕ) → packets (opening_node own hosts ports) ≡ []
start_packets own hosts ports = rw (no_channels ports) refl
