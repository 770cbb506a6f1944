-- What a host's program says and hears, and what its user knows of it, call after call.
use Rattle.std.specs.Prelude.{◌==◌, ◌∷◌, ◌≡◌, ◌≤◌, [], false, List, None, Some, true, ℕ}
use Rattle.interface.specs.Host.{Host, same_host}
use Rattle.interface.specs.declared.address.Flow.{Flow}
use Rattle.interface.specs.declared.crossing.Answer.{Answer}
use Rattle.interface.specs.declared.crossing.Inbound.TheVariants as inbound
use Rattle.interface.specs.declared.message.HostMessage.{HostMessage}
use Rattle.ncp_control.specs.Phases.{is_ready}
use Rattle.ncp_control.specs.declared.command.Command.TheVariants as command
use Rattle.host_pairs.specs.About.{AreAbout}
use Rattle.host_pairs.specs.Allowed.{commands_of}
use Rattle.host_pairs.specs.Control.{Legal, orders_of}
use Rattle.host_pairs.specs.Parcels.{Parcel}
use Rattle.host_pairs.specs.declared.notice.Notice.{Notice}
use Rattle.sockets.specs.Accepting.{accepted, turn_of}
use Rattle.sockets.specs.Pairs.{NcpState, opening_state, pair_with}
use Rattle.sockets.specs.Peers.{AreInOrder}
use Rattle.sockets.specs.Requests.{refusal, served, served_notices}
use Rattle.sockets.specs.Sending.{next_in, offered}
use Rattle.sockets.specs.declared.peer.Peer.{Peer}
use Rattle.sockets.specs.declared.request.Request.{Request}
use Rattle.pairing_law.specs.Ends.{End, nothing}
use Rattle.pairing_law.specs.Links.{AreSteps, receiver, sender, Sockets, Step}
use Rattle.pairing_law.specs.Partners.{IsIn}
use Rattle.pairing_law.specs.Sides.{both, Life}
use Rattle.pairing_law.specs.Sides as pairing
use Rattle.host_keeps_pairing.specs.Ends.{HasEnd, kept_in}
use Rattle.host_keeps_pairing.specs.Hearing.{after_request, AreFree, AreJoint}
use Rattle.host_keeps_pairing.specs.Known.{all_known, ArePartners, Knows}
use Rattle.host_keeps_pairing.specs.Openings.{all_lives_gone, all_lives_taken, AreAmong, with_openings}
use Rattle.host_keeps_pairing.specs.Words.{all_gone, all_taken, AllFit, marks, marks_in, MayAllGo}

-- What a host says: where its program has, for two sockets and a peer, an end of the law of pairing, all that goes out
-- of it is what the law lets it say of that end, and the program has the end after it.
pub record Saying : Type 0 where
  -- a program that starts has no end
  pub opening :
      (origin : ℕ → ℕ) (own foreign : ℕ) (h peer : Host) →
      HasEnd origin own foreign (pair_with peer (opening_state h).peers) nothing
  -- a contact drops the ends with its peer. All else that a user asks for, and isn't refused, says nothing yet: it
  -- waits
  pub request :
      (origin : ℕ → ℕ) (own foreign : ℕ) (s : NcpState) (r : Request) (peer : Host) (x : End) → refusal s r ≡ None →
      HasEnd origin own foreign (pair_with peer s.peers) x →
      HasEnd origin own foreign (pair_with peer (served s r).peers) (after_request peer r x)
  -- the commands of the next message say only what may be said, where the requests before went out at lower places
  pub may :
      (origin : ℕ → ℕ) (own foreign : ℕ) (s : NcpState) (stamp : ℕ) (g : Peer) (parcel : Parcel) (x : End) (next : ℕ) →
      AreInOrder s.peers → next_in s.peers ≡ Some (g, parcel) → next ≤ stamp →
      HasEnd origin own foreign (pair_with g.host s.peers) x →
      MayAllGo (marks stamp own foreign (commands_of g.pair parcel)) x next
  -- and once it has gone out, they are said
  pub offer :
      (origin : ℕ → ℕ) (own foreign : ℕ) (s : NcpState) (stamp : ℕ) (g : Peer) (parcel : Parcel) (x : End) →
      AreInOrder s.peers → next_in s.peers ≡ Some (g, parcel) → HasEnd origin own foreign (pair_with g.host s.peers) x →
      HasEnd origin own foreign (pair_with g.host (offered s stamp).0.peers)
      (all_gone (marks stamp own foreign (commands_of g.pair parcel)) x)

-- What a host hears of a peer in a message for it.
pub record Hearing : Type 0 where
  -- where the pair is ready, commands that are in order, with links that are free, do to the end what the law says of
  -- each
  pub commands :
      (origin : ℕ → ℕ) (own foreign : ℕ) (s : NcpState) (m : HostMessage) (stamp : ℕ) (x : End) →
      same_host s.own m.flow.destination ≡ true → (m.flow.link.0 == 0) ≡ true →
      is_ready (pair_with m.flow.source s.peers).phase ≡ true → AreJoint (orders_of m.text) →
      AreFree m.flow.source stamp (orders_of m.text) (turn_of s m.flow.source) →
      AllFit (marks_in (origin stamp) foreign own (orders_of m.text)) x →
      HasEnd origin own foreign (pair_with m.flow.source s.peers) x →
      HasEnd origin own foreign (pair_with m.flow.source (accepted s (inbound.Message m) stamp).0.peers)
      (all_taken (marks_in (origin stamp) foreign own (orders_of m.text)) x)
  -- where it isn't, they do nothing
  pub idle :
      (origin : ℕ → ℕ) (own foreign : ℕ) (s : NcpState) (m : HostMessage) (stamp : ℕ) (x : End) →
      same_host s.own m.flow.destination ≡ true → (m.flow.link.0 == 0) ≡ true →
      is_ready (pair_with m.flow.source s.peers).phase ≡ false → AreJoint (orders_of m.text) →
      HasEnd origin own foreign (pair_with m.flow.source s.peers) x →
      HasEnd origin own foreign (pair_with m.flow.source (accepted s (inbound.Message m) stamp).0.peers) x
  -- an RST leaves no end, and an RRP leaves it as it is
  pub reset :
      (origin : ℕ → ℕ) (own foreign : ℕ) (s : NcpState) (m : HostMessage) (stamp : ℕ) →
      same_host s.own m.flow.destination ≡ true → (m.flow.link.0 == 0) ≡ true →
      orders_of m.text ≡ Legal command.Rst ∷ [] →
      HasEnd origin own foreign (pair_with m.flow.source (accepted s (inbound.Message m) stamp).0.peers) nothing
  pub reply :
      (origin : ℕ → ℕ) (own foreign : ℕ) (s : NcpState) (m : HostMessage) (stamp : ℕ) (x : End) →
      same_host s.own m.flow.destination ≡ true → (m.flow.link.0 == 0) ≡ true →
      orders_of m.text ≡ Legal command.Rrp ∷ [] → HasEnd origin own foreign (pair_with m.flow.source s.peers) x →
      HasEnd origin own foreign (pair_with m.flow.source (accepted s (inbound.Message m) stamp).0.peers) x
  -- so do data
  pub «data» :
      (origin : ℕ → ℕ) (own foreign : ℕ) (s : NcpState) (m : HostMessage) (stamp : ℕ) (x : End) →
      same_host s.own m.flow.destination ≡ true → (m.flow.link.0 == 0) ≡ false →
      HasEnd origin own foreign (pair_with m.flow.source s.peers) x →
      HasEnd origin own foreign (pair_with m.flow.source (accepted s (inbound.Message m) stamp).0.peers) x
  -- an answer leaves it too, but where the pair is ready no longer
  pub answer :
      (origin : ℕ → ℕ) (own foreign : ℕ) (s : NcpState) (kind : Answer) (f : Flow) (stamp : ℕ) (x : End) →
      HasEnd origin own foreign (pair_with f.destination s.peers) x →
      HasEnd origin own foreign (pair_with f.destination (accepted s (inbound.Answer kind f) stamp).0.peers)
      (kept_in (pair_with f.destination (accepted s (inbound.Answer kind f) stamp).0.peers) x)

-- The openings of which a host's user is notified are lives of the law: what was notified stays some of the lives, in
-- their order, after each call. A partner's request is given by the place where it was taken, and the law's by that
-- where it went out.
pub record Openings : Type 0 where
  -- what goes out, and commands that are in order, make the lives that the law says
  pub offer :
      (origin : ℕ → ℕ) (own foreign : ℕ) (s : NcpState) (stamp : ℕ) (g : Peer) (parcel : Parcel) (x : End)
      (told lives : List Life) → AreInOrder s.peers → next_in s.peers ≡ Some (g, parcel) →
      HasEnd origin own foreign (pair_with g.host s.peers) x → AreAmong told lives →
      AreAmong (with_openings origin own foreign (offered s stamp).1 told)
      (all_lives_gone (marks stamp own foreign (commands_of g.pair parcel)) x lives)
  pub commands :
      (origin : ℕ → ℕ) (own foreign : ℕ) (s : NcpState) (m : HostMessage) (stamp : ℕ) (x : End) (told lives : List Life)
      → same_host s.own m.flow.destination ≡ true → (m.flow.link.0 == 0) ≡ true →
      is_ready (pair_with m.flow.source s.peers).phase ≡ true → AreJoint (orders_of m.text) →
      AreFree m.flow.source stamp (orders_of m.text) (turn_of s m.flow.source) →
      AllFit (marks_in (origin stamp) foreign own (orders_of m.text)) x →
      HasEnd origin own foreign (pair_with m.flow.source s.peers) x → AreAmong told lives →
      AreAmong (with_openings origin own foreign (accepted s (inbound.Message m) stamp).1 told)
      (all_lives_taken (marks_in (origin stamp) foreign own (orders_of m.text)) x lives)
  -- nothing else reports an opening: commands where the pair isn't ready, an RST, an RRP, data, an answer and what a
  -- user asks for
  pub idle :
      (origin : ℕ → ℕ) (own foreign : ℕ) (s : NcpState) (m : HostMessage) (stamp : ℕ) →
      same_host s.own m.flow.destination ≡ true → (m.flow.link.0 == 0) ≡ true →
      is_ready (pair_with m.flow.source s.peers).phase ≡ false → AreJoint (orders_of m.text) → (told : List Life) →
      with_openings origin own foreign (accepted s (inbound.Message m) stamp).1 told ≡ told
  pub reset :
      (origin : ℕ → ℕ) (own foreign : ℕ) (s : NcpState) (m : HostMessage) (stamp : ℕ) →
      same_host s.own m.flow.destination ≡ true → (m.flow.link.0 == 0) ≡ true →
      orders_of m.text ≡ Legal command.Rst ∷ [] → (told : List Life) →
      with_openings origin own foreign (accepted s (inbound.Message m) stamp).1 told ≡ told
  pub reply :
      (origin : ℕ → ℕ) (own foreign : ℕ) (s : NcpState) (m : HostMessage) (stamp : ℕ) →
      same_host s.own m.flow.destination ≡ true → (m.flow.link.0 == 0) ≡ true →
      orders_of m.text ≡ Legal command.Rrp ∷ [] → (told : List Life) →
      with_openings origin own foreign (accepted s (inbound.Message m) stamp).1 told ≡ told
  pub «data» :
      (origin : ℕ → ℕ) (own foreign : ℕ) (s : NcpState) (m : HostMessage) (stamp : ℕ) (told lives : List Life) →
      same_host s.own m.flow.destination ≡ true → (m.flow.link.0 == 0) ≡ false → AreAmong told lives →
      AreAmong (with_openings origin own foreign (accepted s (inbound.Message m) stamp).1 told) lives
  pub answer :
      (origin : ℕ → ℕ) (own foreign : ℕ) (s : NcpState) (kind : Answer) (f : Flow) (stamp : ℕ) (told : List Life) →
      with_openings origin own foreign (accepted s (inbound.Answer kind f) stamp).1 told ≡ told
  pub request :
      (origin : ℕ → ℕ) (own foreign : ℕ) (s : NcpState) (r : Request) (told : List Life) →
      with_openings origin own foreign (served_notices s r) told ≡ told

-- What a host's user knows to be open is open: where its program reported an opening on two sockets with a peer, and
-- hasn't reported since that the end is over, the law's end there is open by the two requests that were reported. Each
-- call keeps this.
pub record Endings : Type 0 where
  -- what goes out, and commands that are in order, have the end that the law gives. Where both CLS have passed the user
  -- is notified
  pub offer :
      (origin : ℕ → ℕ) (own foreign : ℕ) (s : NcpState) (stamp : ℕ) (g : Peer) (parcel : Parcel) (x : End)
      (known : List Life) → AreInOrder s.peers → next_in s.peers ≡ Some (g, parcel) →
      HasEnd origin own foreign (pair_with g.host s.peers) x → Knows known x →
      Knows (all_known origin g.host own foreign (offered s stamp).1 known)
      (all_gone (marks stamp own foreign (commands_of g.pair parcel)) x)
  pub commands :
      (origin : ℕ → ℕ) (own foreign : ℕ) (s : NcpState) (m : HostMessage) (stamp : ℕ) (x : End) (known : List Life) →
      same_host s.own m.flow.destination ≡ true → (m.flow.link.0 == 0) ≡ true →
      is_ready (pair_with m.flow.source s.peers).phase ≡ true → AreJoint (orders_of m.text) →
      AreFree m.flow.source stamp (orders_of m.text) (turn_of s m.flow.source) →
      AllFit (marks_in (origin stamp) foreign own (orders_of m.text)) x →
      HasEnd origin own foreign (pair_with m.flow.source s.peers) x → Knows known x →
      Knows (all_known origin m.flow.source own foreign (accepted s (inbound.Message m) stamp).1 known)
      (all_taken (marks_in (origin stamp) foreign own (orders_of m.text)) x)
  -- an RST leaves no end, and the user is notified; so does an answer where the pair is ready no longer, and a contact
  pub reset :
      (origin : ℕ → ℕ) (own foreign : ℕ) (s : NcpState) (m : HostMessage) (stamp : ℕ) (x : End) (known : List Life) →
      same_host s.own m.flow.destination ≡ true → (m.flow.link.0 == 0) ≡ true →
      orders_of m.text ≡ Legal command.Rst ∷ [] → HasEnd origin own foreign (pair_with m.flow.source s.peers) x →
      Knows known x →
      Knows (all_known origin m.flow.source own foreign (accepted s (inbound.Message m) stamp).1 known) nothing
  pub answer :
      (origin : ℕ → ℕ) (own foreign : ℕ) (s : NcpState) (kind : Answer) (f : Flow) (stamp : ℕ) (x : End)
      (known : List Life) → HasEnd origin own foreign (pair_with f.destination s.peers) x → Knows known x →
      Knows (all_known origin f.destination own foreign (accepted s (inbound.Answer kind f) stamp).1 known)
      (kept_in (pair_with f.destination (accepted s (inbound.Answer kind f) stamp).0.peers) x)
  pub request :
      (origin : ℕ → ℕ) (own foreign : ℕ) (s : NcpState) (r : Request) (peer : Host) (x : End) (known : List Life) →
      HasEnd origin own foreign (pair_with peer s.peers) x → Knows known x →
      Knows (all_known origin peer own foreign (served_notices s r) known) (after_request peer r x)
  -- commands where the pair isn't ready, an RRP and data change nothing of what is known, nor does what is notified of
  -- another peer
  pub idle :
      (origin : ℕ → ℕ) (own foreign : ℕ) (s : NcpState) (m : HostMessage) (stamp : ℕ) (known : List Life) →
      same_host s.own m.flow.destination ≡ true → (m.flow.link.0 == 0) ≡ true →
      is_ready (pair_with m.flow.source s.peers).phase ≡ false → AreJoint (orders_of m.text) →
      all_known origin m.flow.source own foreign (accepted s (inbound.Message m) stamp).1 known ≡ known
  pub reply :
      (origin : ℕ → ℕ) (own foreign : ℕ) (s : NcpState) (m : HostMessage) (stamp : ℕ) (known : List Life) →
      same_host s.own m.flow.destination ≡ true → (m.flow.link.0 == 0) ≡ true →
      orders_of m.text ≡ Legal command.Rrp ∷ [] →
      all_known origin m.flow.source own foreign (accepted s (inbound.Message m) stamp).1 known ≡ known
  pub «data» :
      (origin : ℕ → ℕ) (own foreign : ℕ) (s : NcpState) (m : HostMessage) (stamp : ℕ) (known : List Life) →
      same_host s.own m.flow.destination ≡ true → (m.flow.link.0 == 0) ≡ false →
      all_known origin m.flow.source own foreign (accepted s (inbound.Message m) stamp).1 known ≡ known
  pub others :
      (origin : ℕ → ℕ) (own foreign : ℕ) (peer other : Host) (notices : List Notice) (known : List Life) →
      AreAbout other notices → same_host peer other ≡ false → all_known origin peer own foreign notices known ≡ known

-- Where the users of two hosts both know of an open end on the same sockets, each end is the other's partner, if the
-- two ends of which they know are those of a run of the law.
pub record KnownPartners : Type 0 where
  -- as far as one pair of their sockets goes
  pub pair :
      (events : List pairing.Event) (known others : List Life) (x y : Life) → pairing.IsRun events →
      Knows known (both events).one.end → Knows others (both events).two.end → IsIn x known → IsIn y others →
      ArePartners x y
  -- and over all connections one way
  pub links :
      (steps : List Step) (s : Sockets) (known others : List Life) (x y : Life) → AreSteps steps →
      Knows known (receiver s steps).end → Knows others (sender s steps).end → IsIn x known → IsIn y others →
      ArePartners x y
