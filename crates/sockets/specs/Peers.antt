-- The order in which a host keeps its peers, and the place of each.
use Rattle.std.specs.Prelude.{◌≡◌, ℕ, ◌<◌, ◌≤◌, Bool, List, [], ◌∷◌, length, find, Some, None, is_some, slice_index_or, slice_set}
use Rattle.std.specs.List.{insert, remove}
use Rattle.interface.specs.Host.{Host, IsAddress, address_octet, same_host}
use Rattle.host_pairs.specs.Pair.{PairState}
use Rattle.host_pairs.specs.Parcels.{next_of}
use Rattle.sockets.specs.Pairs.{pair_with, placed, without_peer}
use Rattle.sockets.specs.declared.peer.Peer.{Peer}

-- peers in order of their address octets, all of them above this one
abbrev pub StandAbove : ℕ → List Peer → Type 0
StandAbove octet [] = Unit {0}
StandAbove octet (p ∷ ps) = (octet < address_octet p.host) × IsAddress p.host × StandAbove (address_octet p.host) ps

-- peers in order of their address octets, each host once
abbrev pub AreInOrder : List Peer → Type 0
AreInOrder peers = StandAbove 0 peers

-- whether something goes to a peer next
abbrev pub has_parcel : Peer → Bool
has_parcel p = is_some (next_of p.pair)

-- a host that is known is found at this place, removed from it, and placed there
pub record StandsAt (h : Host) (ps : List Peer) (at : ℕ) : Type 0 where
  pub there : at < length ps
  pub host : (d : Peer) → (slice_index_or ps at d).host ≡ h
  pub found : (d : Peer) → find (λ p. same_host h p.host) ps ≡ Some (slice_index_or ps at d)
  pub removed : remove ps at ≡ without_peer h ps
  pub placed : (q : PairState) → slice_set ps at (record { host = h; pair = q }) ≡ placed (record { host = h; pair = q }) ps

-- one that isn't known is found nowhere, and inserted at this place
pub record IsMissing (h : Host) (ps : List Peer) (at : ℕ) : Type 0 where
  pub within : at ≤ length ps
  pub found : find (λ p. same_host h p.host) ps ≡ None
  pub removed : without_peer h ps ≡ ps
  pub placed : (q : PairState) → insert ps at (record { host = h; pair = q }) ≡ placed (record { host = h; pair = q }) ps

-- the pair with a known host becomes one to which this change may lead, and nothing else changes
abbrev pub PairChanges : Host → (PairState → PairState → Type 0) → List Peer → List Peer → Type 0
PairChanges h Changes old new = (q : PairState) × Changes (pair_with h old) q × (new ≡ placed (record { host = h; pair = q }) old)
