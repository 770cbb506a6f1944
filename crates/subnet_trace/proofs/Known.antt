-- All that is in a subnet can be printed after each event, if it could be before.
use Rattle.subnet_trace.proofs.Common.{length-set, All, Host, HostMessage, NetEvent, Crossing, Direction, carried_by, Channel, Content, Frame, resend, route, ImpTurn, State, Port, Ends}
use Rattle.std.proofs.Common.{◌≡◌, ℕ, zero, suc, ◌+◌, List, [], ◌∷◌, length, map, Option, Some, None, IfSome, slice_get, refl, ap, ◌∙◌, arith, count_by}
use Rattle.std.proofs.lemmas.List.Elements.{All-cons, All-head, All-nil, All-set, All-tail, All-weaker}
use Rattle.packetiser.specs.PacketFields.{PacketFields, IsPacket}
use Rattle.packetiser.specs.Slots.{SlotState, IsPieceFor, IsSlot}
use Rattle.script.specs.Spelling.{IsNetEvent}
use Rattle.subnet.specs.Events.{at_imp, deliver, delivered, drop_frame, offer_out, quiet_round, site_at, stepped, step_refusal, take_in, hosts_at, started_imp}
use Rattle.subnet.specs.Net.{Net, Wire, ends_at, far_end, frames_on, imp_at, port_of, wire_at}
use Rattle.subnet.specs.Opening.{opened_from, opened_imp, opening_subnet, empty_wire}
use Rattle.subnet.specs.Sound.{IsSound, IsAt}
use Rattle.subnet_trace.specs.Told.{IsChannelTold, IsContentTold, IsFlowNamed, IsFrameTold, IsHeardTold, IsKeptTold, IsLineTold, IsOneNetwork, IsPacketTold, IsPieceTold, IsPlaced, IsPortTold, IsSlotTold, IsSourceTold, IsTold, IsToldAt}
use Rattle.trace.proofs.lemmas.{flow_named}
use Rattle.interface.specs.declared.NetEvent.TheVariants as net
use Rattle.imp_channel.specs.declared.frame.Content.TheVariants as content
use Rattle.imp_channel.proofs.lemmas.{ContentHas}
use Rattle.subnet.specs.Routed.{FrameTells, HeardVector, ImpHeard, TellsVector, WireTells}
use Rattle.subnet.specs.Working.{IsWhole}
use Rattle.subnet.proofs.lemmas.{FrameHas, GotHas, ImpHas, Keeps, NetHas, WireHas, WireHolds, deliver_sound, drop_sound, dropped_holds, got_has, imp_has, packets_net, put_all_holds, resend_sound, round_keeps, route_sound, way_holds, wire_holds}
use Rattle.subnet_trace.proofs.Knowing.{ContentFits, FrameFits, Knows, TurnKnows, abandon_knows, ask_knows, claim_knows, end_down_knows, end_up_knows, forget_knows, from_host_knows, from_line_knows, give_up_knows, host_down_knows, host_up_knows, opening_knows, resend_knows, route_knows, started_knows, to_host_knows}
use Rattle.subnet_trace.proofs.Rest.{at_keeps, drop_keeps, opening, step_keeps}
use Rattle.subnet_trace.proofs.Tables.{table_all}

-- ---- what valid values are

packet_told : (p : PacketFields) → IsPacket p → IsPacketTold p
packet_told p is = record {
  flow = record {
    source = record { imp = omega (arith, is.source.imp); host = omega (arith, is.source.host) };
    destination = record { imp = omega (arith, is.destination.imp); host = omega (arith, is.destination.host) };
    link = omega (arith, is.link);
  };
  number = omega (arith, is.number);
  place = omega (arith, is.place);
}

-- ---- a subnet of this network of which all flows and channels can be printed

abbrev ImpKnows : Option State → Type 0
ImpKnows None = Unit {0}
ImpKnows (Some s) = Knows s

pub record IsKnown (o n : Net) : Type 0 where
  imps : All ImpKnows n.imps
  lines : All (WireHolds FrameFits) n.lines
  there : IsPlaced n
  places : length n.imps ≡ length n.sites
  pub network : IsOneNetwork o n

one_network : (o n m : Net) → IsOneNetwork o n → IsOneNetwork n m → IsOneNetwork o m
one_network o n m p q = record { hosts = p.hosts ∙ q.hosts; sites = p.sites ∙ q.sites; lines = p.lines ∙ q.lines }

imp_knows : (imps : List (Option State)) (i : ℕ) → All ImpKnows imps → ImpKnows (imp_at imps i)
imp_knows [] i all = tt
imp_knows (o ∷ imps) zero all = All-head ImpKnows o imps all
imp_knows (o ∷ imps) (suc i) all = imp_knows imps i (All-tail ImpKnows o imps all)

-- a call of an IMP that keeps what is known in it, whatever crossed
call_known : {o : Net} (n : Net) (i : ℕ) (call : State → ImpTurn) (log : List Crossing) → ((s : State) → Knows s → TurnKnows (call s)) → IsKnown o n → IsKnown o (record (at_imp (imp_at n.imps i) i call n) { log = log })
call_known {o} n i call log keeps is = by (imp_at n.imps i) (imp_knows n.imps i is.imps) ((at_keeps n i call log).placed is.there) (at_keeps n i call log).network where
  by : (here : Option State) → ImpKnows here → IsPlaced (record (at_imp here i call n) { log = log }) → IsOneNetwork n (record (at_imp here i call n) { log = log }) → IsKnown o (record (at_imp here i call n) { log = log })
  by None knows there same = record { imps = is.imps; lines = is.lines; there = there; places = is.places; network = one_network o n _ is.network same }
  by (Some s) knows there same =
      let turn : TurnKnows (call s) = keeps s knows in
      record {
        imps = All-set ImpKnows n.imps i (Some (call s).state) turn.state is.imps;
        lines = put_all_holds FrameFits _ i _ is.lines turn.frames;
        there = there;
        places = length-set n.imps i (Some (call s).state) ∙ is.places;
        network = one_network o n _ is.network same;
      }

pub offer_known : {o : Net} (n : Net) (m : HostMessage) → IsFlowNamed m.flow → IsKnown o n → IsKnown o (offer_out n m)
offer_known n m named is = call_known n _ _ _ (λ s. from_host_knows m s named) is

pub take_known : {o : Net} (n : Net) (h : Host) → IsKnown o n → IsKnown o (take_in n h)
take_known n h is = call_known n h.imp _ _ (to_host_knows h.host) is

-- ---- frames that are delivered

carried_told : (c : Content) → ContentHas IsPacket c → All IsPacketTold (carried_by c)
carried_told (content.Packet carried) has = All-cons IsPacketTold carried.packet [] (packet_told _ has) (All-nil IsPacketTold)
carried_told content.Nothing has = All-nil IsPacketTold
carried_told (content.Routes distances) has = All-nil IsPacketTold

deliver_known : {o : Net} (n : Net) (l : ℕ) (d : Direction) (k : ℕ) → IsSound n → IsKnown o n → IsKnown o (deliver n l d k)
deliver_known {o} n l d k sound is = by (slice_get (frames_on d (wire_at n.lines l)) k) got where
  has : NetHas IsPacket n
  has = packets_net IsPacket n sound.formats

  got : GotHas IsPacket (slice_get (frames_on d (wire_at n.lines l)) k)
  got = got_has IsPacket _ k (way_holds _ d _ (wire_holds _ _ l has.lines))

  by : (f : Option Frame) → GotHas IsPacket f → IsKnown o (delivered n l d f)
  by None here = is
  by (Some f) here =
      let i : ℕ = far_end d (wire_at n.lines l) in
      call_known n i _ _ (λ s. from_line_knows (port_of n.lines i l) f s (carried_told _ here)) is

drop_known : {o : Net} (n : Net) (l : ℕ) (d : Direction) (k : ℕ) → IsKnown o n → IsKnown o (drop_frame n l d k)
drop_known {o} n l d k is = record {
  imps = is.imps;
  lines = dropped_holds FrameFits _ l d k is.lines;
  there = is.there;
  places = is.places;
  network = one_network o n _ is.network (drop_keeps n l d k).network;
}

resend_known : {o : Net} (n : Net) (i : ℕ) → IsKnown o n → IsKnown o (at_imp (imp_at n.imps i) i resend n)
resend_known n i is = call_known n i resend _ resend_knows is

route_known : {o : Net} (n : Net) (i : ℕ) → IsKnown o n → IsKnown o (at_imp (imp_at n.imps i) i route n)
route_known n i is = call_known n i route _ route_knows is

-- ---- a quiet round

record IsSoundlyKnown (o n : Net) : Type 0 where
  sound : IsSound n
  known : IsKnown o n

pub round_known : {o : Net} (n : Net) → IsSound n → IsKnown o n → IsKnown o (quiet_round n)
round_known {o} n sound known = (round_keeps (IsSoundlyKnown o) keeps n (record { sound = sound; known = known })).known where
  keeps : Keeps (IsSoundlyKnown o)
  keeps = record {
    route = λ m i is. record { sound = route_sound m i is.sound; known = route_known m i is.known };
    resend = λ m i is. record { sound = resend_sound m i is.sound; known = resend_known m i is.known };
    deliver = λ m l d k is. record { sound = deliver_sound m l d k is.sound; known = deliver_known m l d k is.sound is.known };
    drop = λ m l d k is. record { sound = drop_sound m l d k is.sound; known = drop_known m l d k is.known };
  }

-- ---- the other events

pub step_known : {o : Net} (n : Net) (e : NetEvent) → IsNetEvent e → step_refusal n e ≡ None → IsSound n → IsKnown o n → IsKnown o (stepped n e)
step_known n (net.Deliver l d k) valid ok sound is = deliver_known n l d k sound is
step_known n (net.Drop l d k) valid ok sound is = drop_known n l d k is
step_known n (net.Garble l d k) valid ok sound is = drop_known n l d k is
step_known n (net.Resend i) valid ok sound is = resend_known n i is
step_known n (net.Route i) valid ok sound is = route_known n i is
step_known n (net.Claim i) valid ok sound is = call_known n i _ _ claim_knows is
step_known n (net.EndDown i l) valid ok sound is = call_known n i _ _ (end_down_knows (port_of n.lines i l)) is
step_known n (net.EndUp i l) valid ok sound is = call_known n i _ _ (end_up_knows (port_of n.lines i l)) is
step_known {o} n (net.ImpDown i) valid ok sound is = record {
  imps = All-set ImpKnows n.imps i None tt is.imps;
  lines = is.lines;
  there = (step_keeps n (net.ImpDown i) ok).placed is.there;
  places = length-set n.imps i None ∙ is.places;
  network = one_network o n _ is.network (step_keeps n (net.ImpDown i) ok).network;
}
step_known {o} n (net.ImpUp i) valid ok sound is =
    let hosts : ℕ = hosts_at (site_at n i) in
    let ports : ℕ = count_by (ends_at i) n.lines in
    record {
      imps = All-set ImpKnows n.imps i (Some (started_imp i hosts ports)) (started_knows i hosts ports) is.imps;
      lines = is.lines;
      there = (step_keeps n (net.ImpUp i) ok).placed is.there;
      places = length-set n.imps i (Some (started_imp i hosts ports)) ∙ is.places;
      network = one_network o n _ is.network (step_keeps n (net.ImpUp i) ok).network;
    }
step_known n (net.HostDown h) valid ok sound is = call_known n h.imp _ _ (host_down_knows h.host) is
step_known n (net.HostUp h) valid ok sound is = call_known n h.imp _ _ (host_up_knows h.host) is
step_known n (net.GiveUp f) valid ok sound is = call_known n _ _ _ (λ s. give_up_knows f s (flow_named f valid)) is
step_known n (net.Forget at from) valid ok sound is = call_known n at _ _ (forget_knows from) is
step_known n (net.Abandon f) valid ok sound is = call_known n _ _ _ (abandon_knows f) is
step_known n (net.Ask f) valid ok sound is = call_known n _ _ _ (ask_knows f) is

-- ---- the opening

opened_knows : (i : ℕ) (sites : List (Option ℕ)) (ports : ℕ → ℕ) → All ImpKnows (opened_from i sites ports)
opened_knows i [] ports = All-nil ImpKnows
opened_knows i (site ∷ sites) ports = All-cons ImpKnows (opened_imp i site (ports i)) (opened_from (i + 1) sites ports) (at site) (opened_knows (i + 1) sites ports) where
  at : (o : Option ℕ) → ImpKnows (opened_imp i o (ports i))
  at None = tt
  at (Some hosts) = opening_knows i hosts _

opened_places : (i : ℕ) (sites : List (Option ℕ)) (ports : ℕ → ℕ) → length (opened_from i sites ports) ≡ length sites
opened_places i [] ports = refl
opened_places i (site ∷ sites) ports = ap suc (opened_places (i + 1) sites ports)

empty_fit : (ends : List Ends) → All (WireHolds FrameFits) (map empty_wire ends)
empty_fit [] = All-nil (WireHolds FrameFits)
empty_fit (e ∷ ends) = All-cons (WireHolds FrameFits) (empty_wire e) (map empty_wire ends) (record { forward = All-nil FrameFits; back = All-nil FrameFits }) (empty_fit ends)

pub opening_known : (hosts : List Host) (sites : List (Option ℕ)) (ends : List Ends) → IsKnown (opening_subnet hosts sites ends) (opening_subnet hosts sites ends)
opening_known hosts sites ends = record {
  imps = opened_knows 0 sites _;
  lines = empty_fit ends;
  there = opening hosts sites ends;
  places = opened_places 0 sites _;
  network = record { hosts = refl; sites = refl; lines = refl };
}

-- ---- so it is printed

frame_told : (c : Content) → ContentFits c → TellsVector c → ContentHas IsPacket c → IsContentTold c
frame_told (content.Packet carried) fits tells has = record { channel = fits; packet = packet_told _ has }
frame_told content.Nothing fits tells has = tt
frame_told (content.Routes distances) fits tells has = tells

frames_told : (frames : List Frame) → All FrameFits frames → All FrameTells frames → All (FrameHas IsPacket) frames → All IsFrameTold frames
frames_told [] fits tells has = All-nil IsFrameTold
frames_told (f ∷ frames) fits tells has =
    All-cons IsFrameTold f frames (frame_told _ (All-head FrameFits f frames fits) (All-head FrameTells f frames tells) (All-head (FrameHas IsPacket) f frames has))
    (frames_told frames (All-tail FrameFits f frames fits) (All-tail FrameTells f frames tells) (All-tail (FrameHas IsPacket) f frames has))

lines_told : (lines : List Wire) → All (WireHolds FrameFits) lines → All WireTells lines → All (WireHas IsPacket) lines → All IsLineTold lines
lines_told [] fits tells has = All-nil IsLineTold
lines_told (w ∷ ws) fits tells has =
    let f : WireHolds FrameFits w = All-head (WireHolds FrameFits) w ws fits in
    let t : WireTells w = All-head WireTells w ws tells in
    let h : WireHas IsPacket w = All-head (WireHas IsPacket) w ws has in
    All-cons IsLineTold w ws (record { forward = frames_told _ f.forward t.forward h.forward; back = frames_told w.back f.back t.back h.back })
    (lines_told ws (All-tail (WireHolds FrameFits) w ws fits) (All-tail WireTells w ws tells) (All-tail (WireHas IsPacket) w ws has))

packets_told : (ps : List PacketFields) → All IsPacket ps → All IsPacketTold ps
packets_told ps all = All-weaker IsPacket IsPacketTold packet_told ps all

heard_told : (o : Option (List ℕ)) → HeardVector o → IsHeardTold o
heard_told None heard = tt
heard_told (Some distances) heard = heard

piece_told : (s : SlotState) (p : PacketFields) → IsPieceFor s.flow s.number p → IsPacket p → IsPieceTold s p
piece_told s p piece packet = record { flow = piece.flow; number = piece.same_number; told = packet_told p packet }

slot_told : (s : SlotState) → IsSlot s → IsSlotTold s
slot_told s is = record { some = is.some; pieces = λ k d low. piece_told s _ (is.pieces k d low) (is.packets k d low) }

held_told : (o : Option PacketFields) → IfSome o IsPacket → IfSome o IsPacketTold
held_told None has = tt
held_told (Some p) has = packet_told p has

port_told : (p : Port) → All (λ c. IfSome c.packet IsPacket) p.line.sending → IsPortTold p
port_told p has = All-weaker (λ (c : Channel). IfSome c.packet IsPacket) IsChannelTold (λ c held. held_told c.packet held) p.line.sending has

imp_told : (i : ℕ) (o : Option State) → IsAt i o → ImpKnows o → ImpHeard o → ImpHas IsPacket o → IsToldAt i o
imp_told i None sound knows heard has = tt
imp_told i (Some s) sound knows heard has = record {
  own = sound.own;
  live = sound.live;
  hosts = knows.hosts;
  ports = All-weaker (λ (p : Port). All (λ (c : Channel). IfSome c.packet IsPacket) p.line.sending) IsPortTold port_told s.ports has.lines;
  routes = All-weaker HeardVector IsHeardTold heard_told s.routes.heard heard;
  store = packets_told _ has.store;
  slots = All-weaker IsSlot IsSlotTold slot_told s.slots sound.slots.sound;
  sources = table_all IsSourceTold _ knows.sources;
  kept = table_all IsKeptTold s.kept knows.kept;
}

imp_heard : (imps : List (Option State)) (i : ℕ) → All ImpHeard imps → ImpHeard (imp_at imps i)
imp_heard [] i all = tt
imp_heard (o ∷ imps) zero all = All-head ImpHeard o imps all
imp_heard (o ∷ imps) (suc i) all = imp_heard imps i (All-tail ImpHeard o imps all)

pub told : {o : Net} (n : Net) → IsWhole n → IsKnown o n → IsTold n
told n whole known = record {
  places = known.places;
  there = known.there;
  imps = λ i. imp_told i (imp_at n.imps i) (whole.sound.imps i) (imp_knows n.imps i known.imps) (imp_heard n.imps i whole.routed.imps) (imp_has IsPacket n.imps i has.imps);
  lines = lines_told _ known.lines whole.routed.lines has.lines;
} where
  has : NetHas IsPacket n
  has = packets_net IsPacket n whole.sound.formats
