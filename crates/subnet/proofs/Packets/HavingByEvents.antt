-- A property of every packet, over each event.
use Rattle.subnet.proofs.Common.{ℕ, List, [], ◌∷◌, ◌++◌, Option, Some, None, All, Contains, flat_map, All-nil, All-cons, All-set, All-weaker, All-contains_itself, Contains-append_left, Contains-append_right, Host, Flow, Crossing, Direction, HostMessage, PacketFields, carried_by, Content, Frame, ContentHas, State, ImpTurn, resend, route, claim, end_down, end_up, ask, give_up, forget, abandon, Net, imp_at, wire_at, ends_at, port_of, far_end, packets, at_imp, logging, offer_out, take_in, delivered, deliver, drop_frame, host_stopped, host_started, started_imp, hosts_at, site_at, imp_started, imp_stopped}
use Rattle.std.specs.Prelude.{count_by}
use Rattle.interface.specs.declared.crossing.Crossing.TheVariants as crossing
use Rattle.imp_channel.specs.declared.frame.Content.TheVariants as content
use Rattle.imp_node.specs.State as imp
use Rattle.imp_node.specs.Arrival.{arrival}
use Rattle.imp_node.specs.Making.{told_for, from_line_makes}
use Rattle.imp_node.proofs.lemmas.{Has, TurnHas, abandon_has, ask_has, claim_has, end_down_has, end_up_has, forget_has, from_host_has, from_line_has, give_up_has, host_down_has, host_up_has, resend_has, route_has, start_has, to_host_has}
use Rattle.subnet.specs.Making.{NothingNew, OnlyNew, made_at, offer_makes, take_makes, asking_makes, stop_makes, told_made, frame_makes, deliver_makes}
use Rattle.subnet.proofs.Packets.Having.{FrameHas, ImpHas, NetHas, GotHas, net_packets, packets_net, net_itself, imp_has, got_has, with_turn_has, dropped_has}
use Rattle.subnet.proofs.Packets.OnLines.{way_holds, wire_holds}

-- ---- a call of one IMP

logged_has : (P : PacketFields → Type 0) (entries : List Crossing) (n : Net) → NetHas P n → NetHas P (logging entries n)
logged_has P entries n h = record { imps = h.imps; lines = h.lines }

-- one that makes packets
making_has : (P : PacketFields → Type 0) (o : Option State) (i : ℕ) (call : State → ImpTurn) (makes : State → List PacketFields) (n : Net)
    → NetHas P n → ImpHas P o → All P (made_at o makes) → ((s : State) → Has P s → All P (makes s) → TurnHas P (call s)) → NetHas P (at_imp o i call n)
making_has P None i call makes n h has made each = h
making_has P (Some s) i call makes n h has made each = with_turn_has P i _ n h (each s has made)

-- one that makes none
call_has : (P : PacketFields → Type 0) (o : Option State) (i : ℕ) (call : State → ImpTurn) (n : Net) → NetHas P n → ImpHas P o → ((s : State) → Has P s → TurnHas P (call s)) → NetHas P (at_imp o i call n)
call_has P None i call n h has each = h
call_has P (Some s) i call n h has each = with_turn_has P i _ n h (each s has)

quiet_call_has : (P : PacketFields → Type 0) (n : Net) (i : ℕ) (call : State → ImpTurn) → NetHas P n → ((s : State) → Has P s → TurnHas P (call s)) → NetHas P (at_imp (imp_at n.imps i) i call n)
quiet_call_has P n i call h each = call_has P _ i call n h (imp_has P n.imps i h.imps) each

-- ---- the events that make packets

offer_has : (P : PacketFields → Type 0) (n : Net) (m : HostMessage) → NetHas P n → All P (offer_makes n m) → NetHas P (offer_out n m)
offer_has P n m h made =
    let i : ℕ = m.flow.source.imp in
    logged_has P (crossing.Out m ∷ []) _
    (making_has P _ i _ _ n h (imp_has P n.imps i h.imps) made (λ s has cut. from_host_has P s m has cut))

take_has : (P : PacketFields → Type 0) (n : Net) (h : Host) → NetHas P n → All P (take_makes n h) → NetHas P (take_in n h)
take_has P n h has made =
    logged_has P _ _
    (making_has P _ h.imp _ _ n has (imp_has P n.imps h.imp has.imps) made (λ s here rfnm. to_host_has P s h.host here rfnm))

stop_has : (P : PacketFields → Type 0) (n : Net) (h : Host) → NetHas P n → All P (stop_makes n h) → NetHas P (host_stopped n h)
stop_has P n h has made =
    logged_has P (crossing.Down h ∷ []) _
    (making_has P _ h.imp _ _ n has (imp_has P n.imps h.imp has.imps) made (λ s here dead. host_down_has P s h.host here dead))

-- an IMP asks
asked_has : (P : PacketFields → Type 0) (n : Net) (f : Flow) → NetHas P n → All P (asking_makes n f) → NetHas P (at_imp (imp_at n.imps f.source.imp) f.source.imp (λ s. ask s f) n)
asked_has P n f h made =
    making_has P _ _ _ _ n h (imp_has P n.imps _ h.imps) made (λ s here question. ask_has P s f here question)

-- a frame brings its packet, and what that makes
pub brings : (P : PacketFields → Type 0) (s : State) (f : Frame) → FrameHas P f → All P (told_made f s) → All P (from_line_makes s f)
brings P s f has told = at f.content has told where
  at : (c : Content) → ContentHas P c → All P (flat_map (λ p. told_for (arrival s p) p) (carried_by c)) → All P (flat_map (λ p. p ∷ told_for (arrival s p) p) (carried_by c))
  at (content.Packet carried) here told = All-cons P carried.packet (told_for (arrival s carried.packet) carried.packet ++ []) here told
  at content.Nothing here told = All-nil P
  at (content.Routes distances) here told = All-nil P

delivered_has : (P : PacketFields → Type 0) (n : Net) (l : ℕ) (d : Direction) (o : Option Frame)
    → NetHas P n → GotHas P o → All P (frame_makes (imp_at n.imps (far_end d (wire_at n.lines l))) o) → NetHas P (delivered n l d o)
delivered_has P n l d None h got made = h
delivered_has P n l d (Some f) h got made =
    let i : ℕ = far_end d _ in
    making_has P _ i _ _ n h (imp_has P n.imps i h.imps) made
    (λ s has told. from_line_has P s (port_of n.lines i l) f has (brings P s f got told))

deliver_has : (P : PacketFields → Type 0) (n : Net) (l : ℕ) (d : Direction) (k : ℕ) → NetHas P n → All P (deliver_makes n l d k) → NetHas P (deliver n l d k)
deliver_has P n l d k h made =
    delivered_has P n l d _ h
    (got_has P _ k (way_holds _ d _ (wire_holds _ _ l h.lines))) made

-- ---- hosts and IMPs that start, and IMPs that stop

start_host_has : (P : PacketFields → Type 0) (n : Net) (h : Host) → NetHas P n → NetHas P (host_started n h)
start_host_has P n h has =
    logged_has P (crossing.Up h ∷ []) _
    (quiet_call_has P n h.imp _ has (λ s here. host_up_has P s h.host here))

started_has : (P : PacketFields → Type 0) (i hosts ports : ℕ) → Has P (started_imp i hosts ports)
started_has P i hosts ports = let h : Has P (imp.opening_node i hosts ports) = start_has P i hosts ports in record { store = h.store; lines = h.lines; slots = h.slots }

start_imp_has : (P : PacketFields → Type 0) (n : Net) (i : ℕ) → NetHas P n → NetHas P (imp_started n i)
start_imp_has P n i h =
    let s : State = started_imp i (hosts_at (site_at n i)) (count_by (ends_at i) n.lines) in
    record { imps = All-set (ImpHas P) n.imps i (Some s) (started_has P i _ _) h.imps; lines = h.lines }

stop_imp_has : (P : PacketFields → Type 0) (n : Net) (i : ℕ) → NetHas P n → NetHas P (imp_stopped n i)
stop_imp_has P n i h = record { imps = All-set (ImpHas P) n.imps i None tt h.imps; lines = h.lines }

-- ---- the packets as lists

keeps : (n m : Net) → (NetHas (Contains (packets n)) n → NetHas (Contains (packets n)) m) → NothingNew n m
keeps n m has = net_packets _ m (has (net_itself n))

makes_only : (n m : Net) (made : List PacketFields) → (NetHas (Contains (packets n ++ made)) n → All (Contains (packets n ++ made)) made → NetHas (Contains (packets n ++ made)) m) → OnlyNew n made m
makes_only n m made has =
    let P : PacketFields → Type 0 = Contains (packets n ++ made) in
    let old : All P (packets n) = All-weaker (Contains (packets n)) P (λ p there. Contains-append_left (packets n) made p there) (packets n) (All-contains_itself (packets n)) in
    let new : All P made = All-weaker (Contains made) P (λ p there. Contains-append_right (packets n) made p there) made (All-contains_itself made) in
    net_packets P m (has (packets_net P n old) new)

pub offer_only : (n : Net) (m : HostMessage) → OnlyNew n (offer_makes n m) (offer_out n m)
offer_only n m = makes_only n _ _ (offer_has _ n m)

pub take_only : (n : Net) (h : Host) → OnlyNew n (take_makes n h) (take_in n h)
take_only n h = makes_only n _ _ (take_has _ n h)

pub stop_only : (n : Net) (h : Host) → OnlyNew n (stop_makes n h) (host_stopped n h)
stop_only n h = makes_only n _ _ (stop_has _ n h)

pub ask_only : (n : Net) (f : Flow) → OnlyNew n (asking_makes n f) (at_imp (imp_at n.imps f.source.imp) f.source.imp (λ s. ask s f) n)
ask_only n f =
    makes_only n _ _ (asked_has _ n f)

pub deliver_only : (n : Net) (l : ℕ) (d : Direction) (k : ℕ) → OnlyNew n (deliver_makes n l d k) (deliver n l d k)
deliver_only n l d k = makes_only n _ _ (deliver_has _ n l d k)

-- a call of one IMP that makes none
calls_nothing : (n : Net) (i : ℕ) (call : State → ImpTurn) → ((s : State) → Has (Contains (packets n)) s → TurnHas (Contains (packets n)) (call s)) → NothingNew n (at_imp (imp_at n.imps i) i call n)
calls_nothing n i call each = keeps n _ (λ h. quiet_call_has (Contains (packets n)) n i call h each)

pub drop_nothing : (n : Net) (l : ℕ) (d : Direction) (k : ℕ) → NothingNew n (drop_frame n l d k)
drop_nothing n l d k = keeps n _ (dropped_has _ n l d k)

pub resend_nothing : (n : Net) (i : ℕ) → NothingNew n (at_imp (imp_at n.imps i) i resend n)
resend_nothing n i = calls_nothing n i resend (resend_has _)

pub route_nothing : (n : Net) (i : ℕ) → NothingNew n (at_imp (imp_at n.imps i) i route n)
route_nothing n i = calls_nothing n i route (route_has _)

pub claim_nothing : (n : Net) (i : ℕ) → NothingNew n (at_imp (imp_at n.imps i) i claim n)
claim_nothing n i = calls_nothing n i claim (claim_has (Contains (packets n)))

pub end_down_nothing : (n : Net) (i k : ℕ) → NothingNew n (at_imp (imp_at n.imps i) i (λ s. end_down s k) n)
end_down_nothing n i k = calls_nothing n i _ (λ s h. end_down_has (Contains (packets n)) s k h)

pub end_up_nothing : (n : Net) (i k : ℕ) → NothingNew n (at_imp (imp_at n.imps i) i (λ s. end_up s k) n)
end_up_nothing n i k = calls_nothing n i _ (λ s h. end_up_has (Contains (packets n)) s k h)

pub give_up_nothing : (n : Net) (i : ℕ) (f : Flow) → NothingNew n (at_imp (imp_at n.imps i) i (λ s. give_up s f) n)
give_up_nothing n i f = calls_nothing n i _ (λ s h. give_up_has (Contains (packets n)) s f h)

pub forget_nothing : (n : Net) (i from : ℕ) → NothingNew n (at_imp (imp_at n.imps i) i (λ s. forget s from) n)
forget_nothing n i from = calls_nothing n i _ (λ s h. forget_has (Contains (packets n)) s from h)

pub abandon_nothing : (n : Net) (i : ℕ) (f : Flow) → NothingNew n (at_imp (imp_at n.imps i) i (λ s. abandon s f) n)
abandon_nothing n i f = calls_nothing n i _ (λ s h. abandon_has (Contains (packets n)) s f h)

pub start_host_nothing : (n : Net) (h : Host) → NothingNew n (host_started n h)
start_host_nothing n h = keeps n _ (start_host_has _ n h)

pub start_imp_nothing : (n : Net) (i : ℕ) → NothingNew n (imp_started n i)
start_imp_nothing n i = keeps n _ (start_imp_has _ n i)

pub stop_imp_nothing : (n : Net) (i : ℕ) → NothingNew n (imp_stopped n i)
stop_imp_nothing n i = keeps n _ (stop_imp_has _ n i)
