-- What a user asks for (NIC 8246 leaves the calls to each host; RTS, STR, CLS, ALL, GVB, INR, INS, ECO and RST go out by them).
use Rattle.std.specs.Prelude.{ℕ, ◌&&◌, ◌||◌, not, Bool, if◌then◌else◌, List, [], ◌∷◌, ◌++◌, length, Option, Some, None, is_some}
use Rattle.interface.specs.Host.{Host}
use Rattle.ncp_control.specs.Numbers.{is_receive_socket, is_send_socket, is_byte_size}
use Rattle.ncp_control.specs.declared.command.Command.TheVariants as command
use Rattle.host_pairs.specs.Commands.{granted}
use Rattle.host_pairs.specs.Entries.{entry_at, sending_end, was_closed, is_open, free_link}
use Rattle.host_pairs.specs.Pair.{PairState}
use Rattle.sockets.specs.Pairs.{NcpState, pair_with, with_pair, owner_of}
use Rattle.host_pairs.specs.Desk.{listens_on, without_listener}
use Rattle.ncp_control.specs.Phases.{is_ready}
use Rattle.host_pairs.specs.Parcels.{link_of}
use Rattle.host_pairs.specs.declared.entry.Entry.{Entry}
use Rattle.sockets.specs.declared.fault.NcpFault.{NcpFault}
use Rattle.sockets.specs.declared.fault.NcpFault.TheVariants as fault
use Rattle.host_pairs.specs.declared.notice.Notice.{Notice}
use Rattle.sockets.specs.declared.request.Request.{Request}
use Rattle.sockets.specs.declared.request.Request.TheVariants as request
use Rattle.host_pairs.specs.Asked.{are_bytes, passes, contacted, requested, receiver_requested, with_end, commanded, with_more_bits, interrupt_of, closed_end, contact_notices}

-- ---- refusals, in their order

-- the first fault whose test holds, else what follows
abbrev pub first_if : Bool → NcpFault → Option NcpFault → Option NcpFault
first_if test e others = if test then Some e else others

-- a socket listens, or has an end that this host opened or listened for
abbrev pub is_used : NcpState → ℕ → Bool
is_used s socket = listens_on socket s.listening || is_some (owner_of socket s.peers)

abbrev pub is_taken : NcpState → Host → ℕ → ℕ → Bool
is_taken s peer own foreign = is_used s own || is_some (entry_at own foreign (pair_with peer s.peers).entries)

abbrev pub listen_refusal : NcpState → ℕ → ℕ → Option NcpFault
listen_refusal s socket size =
    first_if (is_used s socket) fault.InUse
    (first_if (not (is_byte_size size)) fault.BadSize None)

abbrev pub open_send_refusal : NcpState → Host → ℕ → ℕ → ℕ → Option NcpFault
open_send_refusal s peer own foreign size =
    first_if (not (is_ready (pair_with peer s.peers).phase)) fault.NotContacted
    (first_if (not (is_send_socket own && is_receive_socket foreign)) fault.WrongEnd
    (first_if (is_taken s peer own foreign) fault.InUse
    (first_if (not (is_byte_size size)) fault.BadSize None)))

abbrev pub open_receive_refusal : NcpState → Host → ℕ → ℕ → Option NcpFault
open_receive_refusal s peer own foreign =
    first_if (not (is_ready (pair_with peer s.peers).phase)) fault.NotContacted
    (first_if (not (is_receive_socket own && is_send_socket foreign)) fault.WrongEnd
    (first_if (is_taken s peer own foreign) fault.InUse
    (first_if (not (is_some (free_link (pair_with peer s.peers).entries))) fault.NoLink None)))

-- calls on a socket ask for an end of this host's own that is open
abbrev pub on_open : (Entry → Option NcpFault) → Option (Host × Entry) → Option NcpFault
on_open others None = Some fault.NoSuchSocket
on_open others (Some found) = first_if (not (is_open found.1)) fault.NotOpen (others found.1)

-- whole bytes; and an end that drains takes no more
abbrev pub send_fault : ℕ → Entry → Option NcpFault
send_fault bits e =
    first_if (not (are_bytes bits e.size)) fault.BadSize
    (first_if (was_closed e) fault.Closing None)

abbrev pub grant_fault : ℕ → ℕ → Entry → Option NcpFault
grant_fault messages bits e =
    first_if (was_closed e) fault.Closing
    (first_if (passes e.allocation messages bits) fault.OverGrant None)

abbrev pub closing_fault : Entry → Option NcpFault
closing_fault e = first_if (was_closed e) fault.Closing None

abbrev pub send_refusal : NcpState → ℕ → ℕ → Option NcpFault
send_refusal s socket bits =
    first_if (not (is_send_socket socket)) fault.WrongEnd (on_open (send_fault bits) (owner_of socket s.peers))

abbrev pub grant_refusal : NcpState → ℕ → ℕ → ℕ → Option NcpFault
grant_refusal s socket messages bits =
    first_if (not (is_receive_socket socket)) fault.WrongEnd (on_open (grant_fault messages bits) (owner_of socket s.peers))

abbrev pub ask_back_refusal : NcpState → ℕ → Option NcpFault
ask_back_refusal s socket =
    first_if (not (is_receive_socket socket)) fault.WrongEnd (on_open closing_fault (owner_of socket s.peers))

abbrev pub interrupt_refusal : NcpState → ℕ → Option NcpFault
interrupt_refusal s socket = on_open closing_fault (owner_of socket s.peers)

abbrev pub close_fault : Option (Host × Entry) → Option NcpFault
close_fault None = Some fault.NoSuchSocket
close_fault (Some found) = closing_fault found.1

-- what listens may always be closed
abbrev pub close_refusal : NcpState → ℕ → Option NcpFault
close_refusal s socket = if listens_on socket s.listening then None else close_fault (owner_of socket s.peers)

abbrev pub echo_refusal : NcpState → Host → Option NcpFault
echo_refusal s peer = first_if (not (is_ready (pair_with peer s.peers).phase)) fault.NotContacted None

-- why a request is refused
unfoldable pub refusal : NcpState → Request → Option NcpFault
refusal s (request.Contact peer) = None
refusal s (request.Listen socket size) = listen_refusal s socket size
refusal s (request.OpenSend peer own foreign size) = open_send_refusal s peer own foreign size
refusal s (request.OpenReceive peer own foreign) = open_receive_refusal s peer own foreign
refusal s (request.Send socket bits) = send_refusal s socket (length bits)
refusal s (request.Grant socket messages bits) = grant_refusal s socket messages bits
refusal s (request.AskBack socket messages bits) = ask_back_refusal s socket
refusal s (request.Interrupt socket) = interrupt_refusal s socket
refusal s (request.Close socket) = close_refusal s socket
refusal s (request.Echo peer octet) = echo_refusal s peer

-- ---- what they do

-- the connections with a peer are changed
abbrev pub with_peer : NcpState → Host → (PairState → PairState) → NcpState
with_peer s peer change = record s { peers = with_pair peer (change (pair_with peer s.peers)) s.peers }

-- the connection of a socket is changed
abbrev pub at_owner : NcpState → Option (Host × Entry) → (Entry → PairState → PairState) → NcpState
at_owner s None change = s
at_owner s (Some (peer, e)) change = with_peer s peer (change e)

abbrev pub closed_socket : NcpState → ℕ → NcpState
closed_socket s socket =
    if listens_on socket s.listening
    then record s { listening = without_listener socket s.listening }
    else at_owner s (owner_of socket s.peers) (λ e. closed_end socket)

-- a request that isn't refused is served
unfoldable pub served : NcpState → Request → NcpState
served s (request.Contact peer) = with_peer s peer contacted
served s (request.Listen socket size) = record s { listening = s.listening ++ record { socket = socket; size = size } ∷ [] }
served s (request.OpenSend peer own foreign size) = with_peer s peer (requested (sending_end own foreign size) (command.Str own foreign size))
served s (request.OpenReceive peer own foreign) = with_peer s peer (receiver_requested own foreign (free_link (pair_with peer s.peers).entries))
served s (request.Send socket bits) = at_owner s (owner_of socket s.peers) (λ e. with_end socket (with_more_bits bits))
served s (request.Grant socket messages bits) =
    at_owner s (owner_of socket s.peers) (λ e q. commanded (command.All (link_of e.link) messages bits) (with_end socket (granted messages bits) q))
served s (request.AskBack socket messages bits) =
    at_owner s (owner_of socket s.peers) (λ e. commanded (command.Gvb (link_of e.link) messages bits))
served s (request.Interrupt socket) = at_owner s (owner_of socket s.peers) (λ e. commanded (interrupt_of e))
served s (request.Close socket) = closed_socket s socket
served s (request.Echo peer octet) = with_peer s peer (commanded (command.Eco octet))

unfoldable pub served_notices : NcpState → Request → List Notice
served_notices s (request.Contact peer) = contact_notices peer (pair_with peer s.peers).phase
served_notices s r = []
