-- What is about one peer leaves the other pairs as they are.
use Rattle.std.proofs.Common.{◌≡◌, ℕ, Bool, true, false, Option, Some, None, refl}
use Rattle.interface.specs.Host.{Host, same_host}
use Rattle.interface.specs.declared.address.Flow.{Flow}
use Rattle.interface.specs.declared.crossing.Answer.{Answer}
use Rattle.interface.specs.declared.crossing.Inbound.TheVariants as inbound
use Rattle.interface.specs.declared.message.HostMessage.{HostMessage}
use Rattle.sockets.specs.Accepting.{accepted, accepted_message, accepted_answer, turn_of}
use Rattle.host_pairs.specs.Turn.{message_taken, answered_turn}
use Rattle.ncp_control.specs.declared.command.Command.TheVariants as command
use Rattle.host_pairs.specs.Entries.{is_busy, sending_end, free_link}
use Rattle.sockets.specs.Others.{owner_host, peer_of, is_about}
use Rattle.host_pairs.specs.Pair.{PairState}
use Rattle.sockets.specs.Pairs.{NcpState, pair_with, owner_of}
use Rattle.host_pairs.specs.Desk.{desk_of, listens_on}
use Rattle.sockets.specs.Requests.{served, at_owner, closed_socket}
use Rattle.host_pairs.specs.Asked.{contacted, requested, receiver_requested, commanded, closed_end}
use Rattle.host_pairs.specs.Parcels.{Parcel, pair_after, parcel_gone}
use Rattle.sockets.specs.Sending.{offered, next_in}
use Rattle.host_pairs.specs.declared.entry.Entry.{Entry}
use Rattle.sockets.specs.declared.peer.Peer.{Peer}
use Rattle.sockets.specs.declared.request.Request.{Request}
use Rattle.sockets.specs.declared.request.Request.TheVariants as request
use Rattle.sockets.proofs.PairLemmas.{others_stay}

message_by : (s : NcpState) (m : HostMessage) (stamp : ℕ) (h : Host) → same_host h m.flow.source ≡ false → (b : Bool) → same_host s.own m.flow.destination ≡ b
    → pair_with h (accepted_message s m stamp).0.peers ≡ pair_with h s.peers
message_by s m stamp h f true e =
    rw e (others_stay m.flow.source h (message_taken m.flow.source stamp m.flow.link.0 m.text (turn_of s m.flow.source)).pair s.peers f)
message_by s m stamp h f false e = rw e refl

pub message_leaves : (s : NcpState) (m : HostMessage) (stamp : ℕ) (h : Host) → same_host h m.flow.source ≡ false → pair_with h (accepted s (inbound.Message m) stamp).0.peers ≡ pair_with h s.peers
unfolding accepted
message_leaves s m stamp h f = message_by s m stamp h f (same_host s.own m.flow.destination) refl

answer_by : (s : NcpState) (kind : Answer) (w : Flow) (h : Host) → same_host h w.destination ≡ false
    → (b c : Bool) → same_host s.own w.source ≡ b → is_busy (pair_with w.destination s.peers).busy w.link.0 ≡ c
    → pair_with h (accepted_answer s kind w).0.peers ≡ pair_with h s.peers
answer_by s kind w h f true true e g =
    rw (e, g) (others_stay w.destination h (answered_turn w.destination kind w.link.0 (turn_of s w.destination)).pair s.peers f)
answer_by s kind w h f true false e g = rw (e, g) refl
answer_by s kind w h f false c e g = rw e refl

pub answer_leaves : (s : NcpState) (kind : Answer) (w : Flow) (stamp : ℕ) (h : Host) → same_host h w.destination ≡ false → pair_with h (accepted s (inbound.Answer kind w) stamp).0.peers ≡ pair_with h s.peers
unfolding accepted
answer_leaves s kind w stamp h f = answer_by s kind w h f (same_host s.own w.source) (is_busy (pair_with w.destination s.peers).busy w.link.0) refl refl

pub offer_leaves : (s : NcpState) (stamp : ℕ) (p : Peer) (parcel : Parcel) (h : Host) → next_in s.peers ≡ Some (p, parcel) → same_host h p.host ≡ false → pair_with h (offered s stamp).0.peers ≡ pair_with h s.peers
unfolding offered
offer_leaves s stamp p parcel h e f =
    rw e (others_stay p.host h (pair_after parcel p.pair (parcel_gone p.host stamp p.pair.busy parcel (desk_of p.pair s.listening))) s.peers f)

owner_leaves : (s : NcpState) (o : Option (Host × Entry)) (change : Entry → PairState → PairState) (h : Host) → is_about h (owner_host o) ≡ false → pair_with h (at_owner s o change).peers ≡ pair_with h s.peers
owner_leaves s None change h e = refl
owner_leaves s (Some (g, x)) change h e = others_stay g h (change x (pair_with g s.peers)) s.peers e

close_leaves : (s : NcpState) (socket : ℕ) (h : Host) → is_about h (peer_of s (request.Close socket)) ≡ false → (b : Bool) → listens_on socket s.listening ≡ b → pair_with h (closed_socket s socket).peers ≡ pair_with h s.peers
close_leaves s socket h e true l = rw l refl
close_leaves s socket h e false l =
    let f : is_about h (owner_host (owner_of socket s.peers)) ≡ false = rw l at e in
    rw l (owner_leaves s (owner_of socket s.peers) (λ x. closed_end socket) h f)

pub call_leaves : (s : NcpState) (r : Request) (h : Host) → is_about h (peer_of s r) ≡ false → pair_with h (served s r).peers ≡ pair_with h s.peers
unfolding served
call_leaves s (request.Contact peer) h e = others_stay peer h (contacted (pair_with peer s.peers)) s.peers e
call_leaves s (request.Listen socket size) h e = refl
call_leaves s (request.OpenSend peer own foreign size) h e =
    others_stay peer h (requested (sending_end own foreign size) (command.Str own foreign size) (pair_with peer s.peers)) s.peers e
call_leaves s (request.OpenReceive peer own foreign) h e =
    others_stay peer h (receiver_requested own foreign (free_link (pair_with peer s.peers).entries) (pair_with peer s.peers)) s.peers e
call_leaves s (request.Send socket bits) h e = owner_leaves s (owner_of socket s.peers) _ h e
call_leaves s (request.Grant socket messages bits) h e = owner_leaves s (owner_of socket s.peers) _ h e
call_leaves s (request.AskBack socket messages bits) h e = owner_leaves s (owner_of socket s.peers) _ h e
call_leaves s (request.Interrupt socket) h e = owner_leaves s (owner_of socket s.peers) _ h e
call_leaves s (request.Close socket) h e = close_leaves s socket h e (listens_on socket s.listening) refl
call_leaves s (request.Echo peer octet) h e = others_stay peer h (commanded (command.Eco octet) (pair_with peer s.peers)) s.peers e
