-- What a program says, and that its peers are in order, whatever strangers do.
use Rattle.mixed_worlds.proofs.Common.{◌≡◌, ℕ, Bool, false, List, ◌∷◌, Option, Some, None, refl, Flow, Answer, HostMessage, Parcel, accepted, NcpState, AreInOrder, served, Peer, Request, Asked, Crossed, Moment, program, IsMixed}
use Rattle.interface.specs.Host.{Host, IsAddress}
use Rattle.interface.specs.declared.crossing.Inbound.TheVariants as inbound
use Rattle.host_services.specs.Named.{IsAddressed}
use Rattle.sockets.specs.Sending.{message_for, message_of, next_in, next_out, offered}
use Rattle.world_keeps_lives.proofs.lemmas.Sockets as sockets

pub record Says (s : NcpState) (m : HostMessage) : Type 0 where
  pub peer : Peer
  pub parcel : Parcel
  pub next : next_in s.peers ≡ Some (peer, parcel)
  pub message : message_for s.own peer parcel ≡ m

pub says : (s : NcpState) (m : HostMessage) → next_out s ≡ Some m → Says s m
unfolding next_out
says s m out = by (next_in s.peers) refl out where
  by : (o : Option (Peer × Parcel)) → next_in s.peers ≡ o → message_of s.own o ≡ Some m → Says s m
  by None e is = absurd (cc)
  by (Some (p, x)) e is = record { peer = p; parcel = x; next = e; message = cc }

-- each call of a program keeps its peers in order
pub record Orders : Type 0 where
  pub request : (s : NcpState) (r : Request) → IsAddressed r → AreInOrder s.peers → AreInOrder (served s r).peers
  pub message : (s : NcpState) (m : HostMessage) (stamp : ℕ) → IsAddress m.flow.source → AreInOrder s.peers
      → AreInOrder (accepted s (inbound.Message m) stamp).0.peers
  pub answer : (s : NcpState) (kind : Answer) (f : Flow) (stamp : ℕ) → AreInOrder s.peers
      → AreInOrder (accepted s (inbound.Answer kind f) stamp).0.peers
  pub offer : (s : NcpState) (stamp : ℕ) → AreInOrder s.peers → AreInOrder (offered s stamp).0.peers

module _ (orders : Orders) (strange : Host → Bool) (hosts : List Host) where
  -- the older moments are mixed too
  pub older : (x : Moment) (moments : List Moment) → IsMixed strange hosts (x ∷ moments) → IsMixed strange hosts moments
  older (Crossed c) moments mixed = record
      { addresses = mixed.addresses; strangers = mixed.strangers; run = mixed.run.1; happen = mixed.happen.1 }
  older (Asked h r) moments mixed = record
      { addresses = mixed.addresses; strangers = mixed.strangers; run = mixed.run; happen = mixed.happen.1 }

  pub ordered : (a : Host) (moments : List Moment) → strange a ≡ false → IsMixed strange hosts moments
      → AreInOrder (program a moments).peers
  ordered a moments off mixed = sockets.ordered (record { all = hosts; strange = strange }) mixed.addresses a off moments mixed.run mixed.happen
