-- Whom a request is about: words for the laws of one host.
use Rattle.std.specs.Prelude.{Bool, false, if◌then◌else◌, Option, Some, None}
use Rattle.interface.specs.Host.{Host, same_host}
use Rattle.interface.specs.declared.message.HostMessage.{HostMessage}
use Rattle.sockets.specs.Pairs.{NcpState, owner_of}
use Rattle.host_pairs.specs.Desk.{listens_on}
use Rattle.host_pairs.specs.Parcels.{Parcel}
use Rattle.host_pairs.specs.declared.entry.Entry.{Entry}
use Rattle.sockets.specs.declared.peer.Peer.{Peer}
use Rattle.sockets.specs.declared.request.Request.{Request}
use Rattle.sockets.specs.declared.request.Request.TheVariants as request
use Rattle.host_pairs.specs.Allowed.{IsReadAs}

-- ---- whom a request is about

abbrev pub owner_host : Option (Host × Entry) → Option Host
owner_host None = None
owner_host (Some found) = Some found.0

-- a request names its peer, or a socket whose end has one; what listens is about nobody
abbrev pub peer_of : NcpState → Request → Option Host
peer_of s (request.Contact peer) = Some peer
peer_of s (request.Listen socket size) = None
peer_of s (request.OpenSend peer own foreign size) = Some peer
peer_of s (request.OpenReceive peer own foreign) = Some peer
peer_of s (request.Send socket bits) = owner_host (owner_of socket s.peers)
peer_of s (request.Grant socket messages bits) = owner_host (owner_of socket s.peers)
peer_of s (request.AskBack socket messages bits) = owner_host (owner_of socket s.peers)
peer_of s (request.Interrupt socket) = owner_host (owner_of socket s.peers)
peer_of s (request.Close socket) = if listens_on socket s.listening then None else owner_host (owner_of socket s.peers)
peer_of s (request.Echo peer octet) = Some peer

abbrev pub is_about : Host → Option Host → Bool
is_about h None = false
is_about h (Some g) = same_host h g

-- ---- what is read again

-- the message of what goes out to a peer
abbrev pub IsReadFrom : Option (Peer × Parcel) → Option HostMessage → Type 0
IsReadFrom None message = Unit {0}
IsReadFrom (Some found) None = ⊥
IsReadFrom (Some found) (Some m) = IsReadAs found.0.pair found.1 m.text
