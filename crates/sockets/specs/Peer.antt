-- A host that this one speaks to.
use Rattle.interface.specs.Host.{Host}
use Rattle.host_pairs.specs.Pair.{PairState}

-- its address, and how far the two hosts have come
pub record PeerState : Type 0 where
  pub host : Host
  pub pair : PairState
