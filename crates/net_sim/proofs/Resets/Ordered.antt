-- Each call of a host's program keeps its peers in order of their address octets.
use Rattle.net_sim.proofs.Common.{◌≡◌, ℕ, Bool, true, false, List, [], ◌∷◌, find, Option, Some, None, refl, ap, sym, subst, Host, IsAddress, same_host, Flow, Answer, HostMessage, accepted_message, accepted_answer, message_taken, answered_turn, is_busy, is_mine_on, sending_end, free_link, PairState, NcpState, pair_with, with_pair, owner_of, desk_of, listens_on, AreInOrder, at_owner, closed_socket, requested, receiver_requested, commanded, closed_end, Parcel, next_of, pair_after, parcel_gone, next_in, offered_by, Entry, Peer, Request, IsAddressed}
use Rattle.interface.specs.Host.{address_octet}
use Rattle.interface.specs.declared.crossing.Inbound.TheVariants as inbound
use Rattle.interface.proofs.lemmas.{same_host-true}
use Rattle.ncp_control.specs.declared.command.Command.TheVariants as command
use Rattle.sockets.specs.Accepting.{accepted, turn_of}
use Rattle.host_pairs.specs.Pair.{is_opening}
use Rattle.sockets.specs.Pairs.{placed, without_peer}
use Rattle.sockets.specs.Peers.{StandAbove}
use Rattle.sockets.specs.Requests.{served}
use Rattle.host_pairs.specs.Asked.{contacted}
use Rattle.sockets.specs.Sending.{offered}
use Rattle.sockets.specs.declared.request.Request.TheVariants as request
use Rattle.sockets.proofs.lemmas.{order_placed, order_removed}

-- ---- peers have addresses

order_by : (h : Host) (q : PairState) (ps : List Peer) → IsAddress h → AreInOrder ps → (b : Bool) → is_opening q ≡ b → AreInOrder (with_pair h q ps)
order_by h q ps a s true e = rw e (order_removed h ps (without_peer h ps) s refl)
order_by h q ps a s false e = rw e (order_placed (record { host = h; pair = q }) ps (placed (record { host = h; pair = q }) ps) a s refl)

order_with : (h : Host) (q : PairState) (ps : List Peer) → IsAddress h → AreInOrder ps → AreInOrder (with_pair h q ps)
order_with h q ps a s = order_by h q ps a s (is_opening q) refl

-- the pair of a host that isn't among the peers has nothing outstanding
busy_by : (h : Host) (n k : ℕ) (p : Peer) (ps : List Peer) → StandAbove n (p ∷ ps) → (is_busy (pair_with h ps).busy k ≡ true → IsAddress h) → (b : Bool) → same_host h p.host ≡ b
    → is_busy (pair_with h (p ∷ ps)).busy k ≡ true → IsAddress h
busy_by h n k p ps s rest true e busy = subst (λ (x : Host). IsAddress x) (sym (same_host-true h p.host e)) s.1
busy_by h n k p ps s rest false e busy = rest (rw e at busy)

busy_address : (h : Host) (n k : ℕ) (ps : List Peer) → StandAbove n ps → is_busy (pair_with h ps).busy k ≡ true → IsAddress h
busy_address h n k [] s busy = absurd (cc)
busy_address h n k (p ∷ ps) s busy = busy_by h n k p ps s (λ b. busy_address h (address_octet p.host) k ps s.2 b) (same_host h p.host) refl busy

-- so has whom something goes to
abbrev peer_or : Peer → Option (Peer × Parcel) → Peer
peer_or d None = d
peer_or d (Some found) = found.0

next_by : (n : ℕ) (q : Peer) (ps : List Peer) (p : Peer) (x : Parcel) → StandAbove n (q ∷ ps) → (next_in ps ≡ Some (p, x) → IsAddress p.host) → (o : Option Parcel) → next_of q.pair ≡ o
    → next_in (q ∷ ps) ≡ Some (p, x) → IsAddress p.host
next_by n q ps p x s rest (Some y) e is =
    let same : q ≡ p = ap (peer_or q) (rw e at is) in
    subst (λ (r : Peer). IsAddress r.host) same s.1
next_by n q ps p x s rest None e is = rest (rw e at is)

next_address : (n : ℕ) (ps : List Peer) (p : Peer) (x : Parcel) → StandAbove n ps → next_in ps ≡ Some (p, x) → IsAddress p.host
next_address n [] p x s is = absurd (cc)
next_address n (q ∷ ps) p x s is = next_by n q ps p x s (λ e. next_address (address_octet q.host) ps p x s.2 e) (next_of q.pair) refl is

-- and whose end is on a socket
abbrev host_or : Host → Option (Host × Entry) → Host
host_or d None = d
host_or d (Some found) = found.0

owner_by : (socket n : ℕ) (q : Peer) (ps : List Peer) (g : Host) (e : Entry) → StandAbove n (q ∷ ps) → (owner_of socket ps ≡ Some (g, e) → IsAddress g) → (o : Option Entry)
    → find (is_mine_on socket) q.pair.entries ≡ o → owner_of socket (q ∷ ps) ≡ Some (g, e) → IsAddress g
owner_by socket n q ps g e s rest (Some y) f is =
    let same : q.host ≡ g = ap (host_or q.host) (rw f at is) in
    subst (λ (x : Host). IsAddress x) same s.1
owner_by socket n q ps g e s rest None f is = rest (rw f at is)

owner_address : (socket n : ℕ) (ps : List Peer) (g : Host) (e : Entry) → StandAbove n ps → owner_of socket ps ≡ Some (g, e) → IsAddress g
owner_address socket n [] g e s is = absurd (cc)
owner_address socket n (q ∷ ps) g e s is = owner_by socket n q ps g e s (λ h. owner_address socket (address_octet q.host) ps g e s.2 h) (find (is_mine_on socket) q.pair.entries) refl is

-- ---- what comes in

message_by : (s : NcpState) (m : HostMessage) (stamp : ℕ) → IsAddress m.flow.source → AreInOrder s.peers → (b : Bool) → same_host s.own m.flow.destination ≡ b → AreInOrder (accepted_message s m stamp).0.peers
message_by s m stamp a o true e = rw e (order_with m.flow.source (message_taken m.flow.source stamp m.flow.link.0 m.text (turn_of s m.flow.source)).pair s.peers a o)
message_by s m stamp a o false e = rw e o

pub message_order : (s : NcpState) (m : HostMessage) (stamp : ℕ) → IsAddress m.flow.source → AreInOrder s.peers → AreInOrder (accepted s (inbound.Message m) stamp).0.peers
unfolding accepted
message_order s m stamp a o = message_by s m stamp a o (same_host s.own m.flow.destination) refl

answer_by : (s : NcpState) (kind : Answer) (f : Flow) → AreInOrder s.peers → (b c : Bool) → same_host s.own f.source ≡ b → is_busy (pair_with f.destination s.peers).busy f.link.0 ≡ c
    → AreInOrder (accepted_answer s kind f).0.peers
answer_by s kind f o true true e g =
    rw (e, g) (order_with f.destination (answered_turn f.destination kind f.link.0 (turn_of s f.destination)).pair s.peers (busy_address f.destination 0 f.link.0 s.peers o g) o)
answer_by s kind f o true false e g = rw (e, g) o
answer_by s kind f o false c e g = rw e o

pub answer_order : (s : NcpState) (kind : Answer) (f : Flow) (stamp : ℕ) → AreInOrder s.peers → AreInOrder (accepted s (inbound.Answer kind f) stamp).0.peers
unfolding accepted
answer_order s kind f stamp o = answer_by s kind f o (same_host s.own f.source) (is_busy (pair_with f.destination s.peers).busy f.link.0) refl refl

-- ---- what goes out

offer_by : (s : NcpState) (stamp : ℕ) → AreInOrder s.peers → (o : Option (Peer × Parcel)) → next_in s.peers ≡ o → AreInOrder (offered_by s stamp o).0.peers
offer_by s stamp o None e = o
offer_by s stamp o (Some (p, x)) e = order_with p.host (pair_after x p.pair (parcel_gone p.host stamp p.pair.busy x (desk_of p.pair s.listening))) s.peers (next_address 0 s.peers p x o e) o

pub offer_order : (s : NcpState) (stamp : ℕ) → AreInOrder s.peers → AreInOrder (offered s stamp).0.peers
unfolding offered
offer_order s stamp o = offer_by s stamp o (next_in s.peers) refl

-- ---- what a user asks for

owner_order : (s : NcpState) (socket : ℕ) (change : Entry → PairState → PairState) → AreInOrder s.peers → (o : Option (Host × Entry)) → owner_of socket s.peers ≡ o → AreInOrder (at_owner s o change).peers
owner_order s socket change o None e = o
owner_order s socket change o (Some (g, x)) e = order_with g (change x (pair_with g s.peers)) s.peers (owner_address socket 0 s.peers g x o e) o

at_order : (s : NcpState) (socket : ℕ) (change : Entry → PairState → PairState) → AreInOrder s.peers → AreInOrder (at_owner s (owner_of socket s.peers) change).peers
at_order s socket change o = owner_order s socket change o (owner_of socket s.peers) refl

close_order : (s : NcpState) (socket : ℕ) → AreInOrder s.peers → (b : Bool) → listens_on socket s.listening ≡ b → AreInOrder (closed_socket s socket).peers
close_order s socket o true e = rw e o
close_order s socket o false e = rw e (at_order s socket (λ x. closed_end socket) o)

pub request_order : (s : NcpState) (r : Request) → IsAddressed r → AreInOrder s.peers → AreInOrder (served s r).peers
unfolding served
request_order s (request.Contact peer) a o = order_with peer (contacted (pair_with peer s.peers)) s.peers a o
request_order s (request.Listen socket size) a o = o
request_order s (request.OpenSend peer own foreign size) a o =
    order_with peer (requested (sending_end own foreign size) (command.Str own foreign size) (pair_with peer s.peers)) s.peers a o
request_order s (request.OpenReceive peer own foreign) a o =
    order_with peer (receiver_requested own foreign (free_link (pair_with peer s.peers).entries) (pair_with peer s.peers)) s.peers a o
request_order s (request.Close socket) a o = close_order s socket o (listens_on socket s.listening) refl
request_order s (request.Echo peer octet) a o = order_with peer (commanded (command.Eco octet) (pair_with peer s.peers)) s.peers a o
request_order s r a o = at_order s _ _ o
