-- How a program looks whether it would serve a request of its user, before it does. Private functions cite it, and no public clause.
use Rattle.std.specs.Prelude.{◌≡◌, ℕ, List, MatchResult, Option, Some, None, Result}
use Rattle.interface.specs.Host.{Host}
use Rattle.ncp_control.specs.declared.command.Command.{Command}
use Rattle.host_pairs.specs.Asked.{interrupt_of}
use Rattle.host_pairs.specs.Entries.{free_link}
use Rattle.host_pairs.specs.Outgoing.{parcel_of}
use Rattle.host_pairs.specs.Pair.{PairState}
use Rattle.host_pairs.specs.declared.entry.Entry.{Entry}
use Rattle.host_pairs.specs.Parcels.{link_of}
use Rattle.host_pairs.specs.declared.outgoing.Outgoing.{Outgoing}
use Rattle.sockets.specs.Pairs.{NcpState, owner_of, pair_with}
use Rattle.sockets.specs.Requests.{at_owner, on_open, with_peer}
use Rattle.sockets.specs.Sending.{next_in}
use Rattle.sockets.specs.declared.peer.Peer.{Peer}
use Rattle.sockets.specs.declared.fault.NcpFault.{NcpFault}

-- the first fault that applies; or there is none, and what is found is so
abbrev pub Checked : {T : Type 0} → Option NcpFault → (T → Type 0) → Result T NcpFault → Type 0
Checked fault IsSo result = MatchResult result (λ found. (fault ≡ None) × IsSo found) (λ f. fault ≡ Some f)

-- whatever is done at the pair that owns a socket is done at that with this peer
abbrev pub IsOwner : NcpState → ℕ → Host → Type 0
IsOwner s socket peer = (change : PairState → PairState) → at_owner s (owner_of socket s.peers) (λ e. change) ≡ with_peer s peer change

-- and with the link of the socket's end, or with what an interrupt on it says
abbrev pub IsOwnerOnLink : NcpState → ℕ → Host → ℕ → Type 0
IsOwnerOnLink s socket peer link =
    (change : ℕ → PairState → PairState) →
    at_owner s (owner_of socket s.peers) (λ e. change (link_of e.link)) ≡ with_peer s peer (change link)

abbrev pub IsOwnerSaying : NcpState → ℕ → Host → Command → Type 0
IsOwnerSaying s socket peer command =
    (change : Command → PairState → PairState) →
    at_owner s (owner_of socket s.peers) (λ e. change (interrupt_of e)) ≡ with_peer s peer (change command)

-- these are the sockets, and this is the first link that no end with the peer receives on
abbrev pub IsFreeFor : NcpState → Host → ℕ → ℕ → ℕ → ℕ → ℕ → Type 0
IsFreeFor s peer own foreign mine yours link =
    (mine ≡ own) × (yours ≡ foreign) × (free_link (pair_with peer s.peers).entries ≡ Some link)

-- this is the peer and the end that has the socket, and it is open
abbrev pub IsOpenAt : NcpState → ℕ → Host → Entry → Type 0
IsOpenAt s socket peer entry =
    (owner_of socket s.peers ≡ Some (peer, entry)) × (on_open (λ e. None) (owner_of socket s.peers) ≡ None)

-- the socket has no end that is open, whatever else is asked of one
abbrev pub IsNotOpen : NcpState → ℕ → NcpFault → Type 0
IsNotOpen s socket f = (others : Entry → Option NcpFault) → on_open others (owner_of socket s.peers) ≡ Some f

-- this goes to this peer, and nothing goes before it
abbrev pub IsNext : List Peer → Host → Outgoing → Type 0
IsNext peers h out = next_in peers ≡ Some (record { host = h; pair = pair_with h peers }, parcel_of (pair_with h peers).entries out)
