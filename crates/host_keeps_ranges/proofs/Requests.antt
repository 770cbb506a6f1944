-- What a user asks for keeps the numbers in their ranges.
use Rattle.std.proofs.Common.{◌≡◌, ℕ, Bool, true, false, not, ◌&&◌, if◌then◌else◌, List, [], ◌∷◌, ◌++◌, find, Option, Some, None, IsTrue, refl, arith}
use Rattle.interface.specs.Host.{Host}
use Rattle.interface.proofs.lemmas.{not_false}
use Rattle.ncp_control.specs.Command.{IsCommand, IsOctet, IsWord}
use Rattle.ncp_control.specs.Numbers.{is_byte_size, is_connection_link, is_receive_socket, is_send_socket}
use Rattle.ncp_control.specs.declared.command.Command.{Command}
use Rattle.ncp_control.specs.declared.command.Command.TheVariants as command
use Rattle.host_pairs.specs.Asked.{closed_end, commanded, contacted, interrupt_of, receiver_requested, requested, with_end, with_more_bits}
use Rattle.host_pairs.specs.Commands.{granted}
use Rattle.host_pairs.specs.Desk.{desk_of, listens_on}
use Rattle.host_pairs.specs.Entries.{called_off, free_link, is_mine_on, is_receiving, receiving_end, sending_end}
use Rattle.host_pairs.specs.Pair.{PairState}
use Rattle.host_pairs.specs.Parcels.{link_of}
use Rattle.ncp_control.specs.Phases.{is_ready}
use Rattle.host_pairs.specs.declared.entry.Entry.{Entry}
use Rattle.host_pairs.specs.declared.listener.Listener.{Listener}
use Rattle.host_pairs.proofs.lemmas.{both}
use Rattle.sockets.specs.Pairs.{NcpState, owner_first, owner_of, pair_with, with_pair}
use Rattle.sockets.specs.Requests.{at_owner, closed_socket, is_taken, is_used, refusal, served}
use Rattle.sockets.specs.declared.peer.Peer.{Peer}
use Rattle.sockets.specs.declared.request.Request.{Request}
use Rattle.sockets.specs.declared.request.Request.TheVariants as request
use Rattle.sockets.proofs.lemmas.{not_first}
use Rattle.host_keeps_ranges.specs.Ranges.{ArePairs, AreSizes, IsAsked, IsInRange, IsLink, IsPair, IsRanged}
use Rattle.host_keeps_ranges.proofs.Desks.{Keeps, commands_more, ends_changed, ends_more, free_is_link, link_octet, sizes_filtered}
use Rattle.host_keeps_ranges.proofs.Takes.{Ranged, SomeRange, more_granted, ranged_settled, receiving_range, sending_range, some_range}
use Rattle.host_keeps_ranges.proofs.Calls.{pair_range, with_range}

-- ---- the end of a socket

abbrev OwnerRange : Option (Host × Entry) → Type 0
OwnerRange None = Unit {0}
OwnerRange (Some found) = IsInRange found.1

first_range : (h : Host) (o : Option Entry) (others : Option (Host × Entry)) → SomeRange o → OwnerRange others → OwnerRange (owner_first h o others)
first_range h (Some e) others is rest = is
first_range h None others is rest = rest

owner_range : (socket : ℕ) (ps : List Peer) → ArePairs ps → OwnerRange (owner_of socket ps)
owner_range socket [] h = tt
owner_range socket (p ∷ ps) h = first_range p.host (find (is_mine_on socket) p.pair.entries) (owner_of socket ps) (some_range (is_mine_on socket) p.pair.entries h.0.ends) (owner_range socket ps h.1)

octet_of_link : (o : Option ℕ) → IsLink o → IsOctet (link_of o)
octet_of_link None h = omega arith
octet_of_link (Some link) h = h

-- ---- a pair

end_range : (socket : ℕ) (change : Entry → Entry) (q : PairState) → Keeps change → IsPair q → IsPair (with_end socket change q)
end_range socket change q k h = record { ends = ends_changed (is_mine_on socket) change q.entries k h.ends; commands = h.commands }

commanded_range : (c : Command) (q : PairState) → IsCommand c → IsPair q → IsPair (commanded c q)
commanded_range c q ok h = record { ends = h.ends; commands = commands_more q.queue c h.commands ok }

requested_range : (e : Entry) (c : Command) (q : PairState) → IsInRange e → IsCommand c → IsPair q → IsPair (requested e c q)
requested_range e c q is ok h = record { ends = ends_more q.entries e h.ends is; commands = commands_more q.queue c h.commands ok }

receiver_range : (own foreign : ℕ) (link : Option ℕ) (q : PairState) → IsWord own → IsTrue (is_receive_socket own) → IsWord foreign → IsTrue (is_send_socket foreign) → ((l : ℕ) → link ≡ Some l → IsTrue (is_connection_link l)) → IsPair q
    → IsPair (receiver_requested own foreign link q)
receiver_range own foreign None q a b c d k h = h
receiver_range own foreign (Some link) q a b c d k h = requested_range (receiving_end own foreign link) (command.Rts own foreign link) q (receiving_range own foreign link a c (link_octet link (k link refl))) (a, b, c, d, k link refl) h

closed_range : (socket : ℕ) (q : PairState) → IsPair q → IsPair (closed_end socket q)
closed_range socket q h =
    let off : IsPair (with_end socket called_off q) = end_range socket called_off q (λ e i. record { own = i.own; foreign = i.foreign; link = i.link; messages = i.messages; bits = i.bits }) h in
    let done : Ranged _ = ranged_settled q.busy (desk_of (with_end socket called_off q) []) (record { ends = off.ends; commands = off.commands; sizes = tt }) in
    record { ends = done.ends; commands = done.commands }

interrupt_range : (b : Bool) (link : ℕ) → IsOctet link → IsCommand (if b then command.Inr link else command.Ins link)
interrupt_range true link h = h
interrupt_range false link h = h

-- ---- a host

peer_range : (s : NcpState) (g : Host) (q : PairState) → IsRanged s → IsPair q → IsRanged (record s { peers = with_pair g q s.peers })
peer_range s g q h is = record { pairs = with_range g q s.peers is h.pairs; sizes = h.sizes }

owned_range : (s : NcpState) (o : Option (Host × Entry)) (change : Entry → PairState → PairState) → OwnerRange o → ((e : Entry) (q : PairState) → IsInRange e → IsPair q → IsPair (change e q)) → IsRanged s → IsRanged (at_owner s o change)
owned_range s None change there k h = h
owned_range s (Some (g, e)) change there k h = peer_range s g (change e (pair_with g s.peers)) h (k e (pair_with g s.peers) there (pair_range g s.peers h.pairs))

close_range : (s : NcpState) (socket : ℕ) → IsRanged s → IsRanged (closed_socket s socket)
close_range s socket h = by (listens_on socket s.listening) refl where
  by : (b : Bool) → listens_on socket s.listening ≡ b → IsRanged (closed_socket s socket)
  by true e = rw e (record { pairs = h.pairs; sizes = sizes_filtered _ s.listening h.sizes })
  by false e = rw e (owned_range s (owner_of socket s.peers) (λ x. closed_end socket) (owner_range socket s.peers h.pairs) (λ x q is. closed_range socket q) h)

sizes_more : (xs : List Listener) (l : Listener) → AreSizes xs → IsOctet l.size × IsTrue (is_byte_size l.size) → AreSizes (xs ++ l ∷ [])
sizes_more [] l h is = (is, tt)
sizes_more (x ∷ xs) l h is = (h.0, sizes_more xs l h.1 is)

pub request_ranged : (s : NcpState) (r : Request) → refusal s r ≡ None → IsAsked r → IsRanged s → IsRanged (served s r)
unfolding served refusal
request_ranged s (request.Contact peer) ok is h = peer_range s peer (contacted (pair_with peer s.peers)) h (record { ends = tt; commands = tt })
request_ranged s (request.Listen socket size) ok is h =
    let sized : IsTrue (is_byte_size size) = not_false (is_byte_size size) (not_first (not (is_byte_size size)) _ _ (not_first (is_used s socket) _ _ ok).1).0 in
    record { pairs = h.pairs; sizes = sizes_more s.listening (record { socket = socket; size = size }) h.sizes (is, sized) }
request_ranged s (request.OpenSend peer own foreign size) ok is h =
    let first : (not (is_ready (pair_with peer s.peers).phase) ≡ false) × (_ ≡ None) = not_first (not (is_ready (pair_with peer s.peers).phase)) _ _ ok in
    let second : (not (is_send_socket own && is_receive_socket foreign) ≡ false) × (_ ≡ None) = not_first (not (is_send_socket own && is_receive_socket foreign)) _ _ first.1 in
    let sized : IsTrue (is_byte_size size) = not_false (is_byte_size size) (not_first (not (is_byte_size size)) _ _ (not_first (is_taken s peer own foreign) _ _ second.1).1).0 in
    let kinds : (is_send_socket own ≡ true) × (is_receive_socket foreign ≡ true) = both (is_send_socket own) (is_receive_socket foreign) (not_false (is_send_socket own && is_receive_socket foreign) second.0) in
    peer_range s peer _ h (requested_range (sending_end own foreign size) (command.Str own foreign size) (pair_with peer s.peers) (sending_range own foreign size is.0 is.1) (is.0, kinds.0, is.1, kinds.1, is.2, sized) (pair_range peer s.peers h.pairs))
request_ranged s (request.OpenReceive peer own foreign) ok is h =
    let first : (not (is_ready (pair_with peer s.peers).phase) ≡ false) × (_ ≡ None) = not_first (not (is_ready (pair_with peer s.peers).phase)) _ _ ok in
    let second : (not (is_receive_socket own && is_send_socket foreign) ≡ false) × (_ ≡ None) = not_first (not (is_receive_socket own && is_send_socket foreign)) _ _ first.1 in
    let kinds : (is_receive_socket own ≡ true) × (is_send_socket foreign ≡ true) = both (is_receive_socket own) (is_send_socket foreign) (not_false (is_receive_socket own && is_send_socket foreign) second.0) in
    peer_range s peer _ h (receiver_range own foreign (free_link (pair_with peer s.peers).entries) (pair_with peer s.peers) is.0 kinds.0 is.1 kinds.1 (λ l f. free_is_link (pair_with peer s.peers).entries l f) (pair_range peer s.peers h.pairs))
request_ranged s (request.Send socket bits) ok is h =
    owned_range s (owner_of socket s.peers) (λ e. with_end socket (with_more_bits bits)) (owner_range socket s.peers h.pairs)
    (λ e q there. end_range socket (with_more_bits bits) q (λ y i. record { own = i.own; foreign = i.foreign; link = i.link; messages = i.messages; bits = i.bits })) h
request_ranged s (request.Grant socket messages bits) ok is h =
    owned_range s (owner_of socket s.peers) (λ e q. commanded (command.All (link_of e.link) messages bits) (with_end socket (granted messages bits) q)) (owner_range socket s.peers h.pairs)
    (λ e q there k. commanded_range (command.All (link_of e.link) messages bits) (with_end socket (granted messages bits) q) (octet_of_link e.link there.link, is.0, is.1) (end_range socket (granted messages bits) q (more_granted messages bits) k)) h
request_ranged s (request.AskBack socket messages bits) ok is h =
    owned_range s (owner_of socket s.peers) (λ e. commanded (command.Gvb (link_of e.link) messages bits)) (owner_range socket s.peers h.pairs)
    (λ e q there. commanded_range (command.Gvb (link_of e.link) messages bits) q (octet_of_link e.link there.link, is.0, is.1)) h
request_ranged s (request.Interrupt socket) ok is h =
    owned_range s (owner_of socket s.peers) (λ e. commanded (interrupt_of e)) (owner_range socket s.peers h.pairs) (λ e q there. commanded_range (interrupt_of e) q (interrupt_range (is_receiving e) (link_of e.link) (octet_of_link e.link there.link))) h
request_ranged s (request.Close socket) ok is h = close_range s socket h
request_ranged s (request.Echo peer octet) ok is h = peer_range s peer (commanded (command.Eco octet) (pair_with peer s.peers)) h (commanded_range (command.Eco octet) (pair_with peer s.peers) is (pair_range peer s.peers h.pairs))
