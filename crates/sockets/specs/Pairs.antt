-- What a host knows of each other host, and of its own sockets.
use Rattle.std.specs.Prelude.{ℕ, Bool, false, not, nat_lt, if◌then◌else◌, List, [], ◌∷◌, filter, find, Option, Some, None}
use Rattle.interface.specs.Host.{Host, same_host, address_octet}
use Rattle.host_pairs.specs.Entries.{is_mine_on}
use Rattle.host_pairs.specs.Pair.{PairState, opening_pair, is_opening}
use Rattle.host_pairs.specs.declared.entry.Entry.{Entry}
use Rattle.host_pairs.specs.declared.listener.Listener.{Listener}
use Rattle.sockets.specs.declared.peer.Peer.{Peer}

-- a host's network control program: its own address, its peers in order of their address octets, what listens, and whether
-- running out of memory has made it useless
pub record NcpState : Type 0 where
  pub own : Host
  pub peers : List Peer
  pub listening : List Listener
  pub spent : Bool

-- ---- peers

abbrev pub opening_state : Host → NcpState
opening_state own = record { own = own; peers = []; listening = []; spent = false }

abbrev pub pair_in : Option Peer → PairState
pair_in None = opening_pair
pair_in (Some p) = p.pair

abbrev pub pair_with : Host → List Peer → PairState
pair_with h peers = pair_in (find (λ p. same_host h p.host) peers)

-- in order of address octets
abbrev pub placed : Peer → List Peer → List Peer
placed p [] = p ∷ []
placed p (q ∷ qs) =
    if nat_lt (address_octet q.host) (address_octet p.host) then q ∷ placed p qs
    else (if same_host p.host q.host then p ∷ qs else p ∷ q ∷ qs)

abbrev pub without_peer : Host → List Peer → List Peer
without_peer h peers = filter (λ p. not (same_host h p.host)) peers

-- a peer's pair is now this one; one that is in the initial state isn't kept
abbrev pub with_pair : Host → PairState → List Peer → List Peer
with_pair h q peers = if is_opening q then without_peer h peers else placed (record { host = h; pair = q }) peers

-- ---- sockets

-- this host's own end on a socket, with its peer
abbrev pub owner_first : Host → Option Entry → Option (Host × Entry) → Option (Host × Entry)
owner_first h (Some e) others = Some (h, e)
owner_first h None others = others

abbrev pub owner_of : ℕ → List Peer → Option (Host × Entry)
owner_of socket [] = None
owner_of socket (p ∷ ps) = owner_first p.host (find (is_mine_on socket) p.pair.entries) (owner_of socket ps)
