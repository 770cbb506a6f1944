-- A law of src/law.rt: its fields are the clauses.
use Rattle.std.specs.Prelude.{List, Some, false, if◌then◌else◌, ℕ, ◌≡◌}
use Rattle.host_pairs.specs.Pair.{PairState}
use Rattle.host_pairs.specs.Parcels.{Parcel}
use Rattle.interface.specs.Host.{Host, same_host}
use Rattle.interface.specs.declared.address.Flow.{Flow}
use Rattle.interface.specs.declared.crossing.Answer.{Answer}
use Rattle.interface.specs.declared.crossing.Inbound.TheVariants as inbound
use Rattle.interface.specs.declared.message.HostMessage.{HostMessage}
use Rattle.sockets.specs.Accepting.{accepted}
use Rattle.sockets.specs.Others.{is_about, peer_of}
use Rattle.sockets.specs.Pairs.{NcpState, pair_with, with_pair}
use Rattle.sockets.specs.Requests.{served}
use Rattle.sockets.specs.Sending.{next_in, offered}
use Rattle.sockets.specs.declared.peer.Peer.{Peer}
use Rattle.sockets.specs.declared.request.Request.{Request}

-- What is about one peer leaves the other pairs as they are.
pub record Others : Type 0 where
  -- a pair that is changed is found as it is now, and every other as it was
  pub changed :
      (g h : Host) (q : PairState) (peers : List Peer) →
      pair_with h (with_pair g q peers) ≡ if same_host h g then q else pair_with h peers
  -- a message is about its source, an answer about the destination of what is answered
  pub message :
      (s : NcpState) (m : HostMessage) (stamp : ℕ) (h : Host) → same_host h m.flow.source ≡ false →
      pair_with h (accepted s (inbound.Message m) stamp).0.peers ≡ pair_with h s.peers
  pub answer :
      (s : NcpState) (kind : Answer) (f : Flow) (stamp : ℕ) (h : Host) → same_host h f.destination ≡ false →
      pair_with h (accepted s (inbound.Answer kind f) stamp).0.peers ≡ pair_with h s.peers
  -- what goes out is about the peer that it goes to, a call about the peer that it names or whose connection it is
  pub offer :
      (s : NcpState) (stamp : ℕ) (p : Peer) (parcel : Parcel) (h : Host) → next_in s.peers ≡ Some (p, parcel) →
      same_host h p.host ≡ false → pair_with h (offered s stamp).0.peers ≡ pair_with h s.peers
  pub call :
      (s : NcpState) (r : Request) (h : Host) → is_about h (peer_of s r) ≡ false →
      pair_with h (served s r).peers ≡ pair_with h s.peers
