-- No end of a host has to close, at any moment: each that is drained has queued its CLS.
use Rattle.world_keeps_streams.proofs.Common.{◌≡◌, ℕ, ◌&&◌, not, Bool, true, false, if◌then◌else◌, cond, List, [], ◌∷◌, length, Option, Some, None, refl, sym, subst, Host, same_host, Flow, Answer, HostMessage, not_false, same_host-true, is_receive_socket, is_send_socket, is_ready, closed_end, commanded, contacted, interrupt_of, receiver_requested, requested, with_end, with_more_bits, desk_of, listens_on, free_link, is_busy, is_open, sending_end, PairState, answered_turn, message_taken, Entry, both, NcpState, opening_state, owner_of, pair_with, with_pair, AreInOrder, Peer, Request, next_pair, not_first, pair_changed, HaveAddresses, Asked, Crossed, Moment, places, program, crossings_of, coupled, owner_found, mail_below, Happened, MayHappen, Network}
use Rattle.host_pairs.specs.Parcels.{Parcel, pair_after, parcel_gone, link_of}
use Rattle.sockets.specs.Accepting.{after_turn, turn_of, accepted}
use Rattle.sockets.specs.Requests.{at_owner, closed_socket, on_open, refusal, send_fault, served}
use Rattle.sockets.specs.Sending.{next_in, offered_by, offered}
use Rattle.interface.specs.Mailboxes as mail
use Rattle.interface.specs.declared.crossing.Crossing.TheVariants as crossing
use Rattle.interface.specs.declared.crossing.Inbound.TheVariants as inbound
use Rattle.ncp_control.specs.declared.command.Command.TheVariants as command
use Rattle.host_pairs.specs.Commands.{granted}
use Rattle.sockets.specs.declared.request.Request.TheVariants as request
use Rattle.world_keeps_streams.proofs.Calls.Chain.{plain_at}
use Rattle.world_keeps_streams.proofs.Ours.{held}
use Rattle.world_keeps_streams.proofs.Tidy.Pairs.{IsTidyPair, asks_receive, asks_send, closes_end, gives, grants, turn_answer, turn_message, turn_parcel}

-- so it is of all pairs of a program
abbrev AreTidy : NcpState → Type 0
AreTidy s = (b : Host) → IsTidyPair (pair_with b s.peers)

-- ---- what a program does

module _ (s : NcpState) (tidy : AreTidy s) where
  -- the pair of one peer is changed
  one_changed : (g : Host) (q : PairState) → IsTidyPair q → (b : Host) → IsTidyPair (pair_with b (with_pair g q s.peers))
  one_changed g q h b = subst (λ (x : PairState). IsTidyPair x) (sym (pair_changed g b q s.peers)) (by (same_host b g)) where
    by : (c : Bool) → IsTidyPair (cond c q (pair_with b s.peers))
    by true = h
    by false = tidy b

  taken_tidy : (m : HostMessage) (stamp : ℕ) → AreTidy (accepted s (inbound.Message m) stamp).0
  unfolding accepted
  taken_tidy m stamp b = by (same_host s.own m.flow.destination) where
    by : (c : Bool) → IsTidyPair (pair_with b (if c then after_turn s m.flow.source (message_taken m.flow.source stamp m.flow.link.0 m.text (turn_of s m.flow.source)) else (s, [])).0.peers)
    by true =
        one_changed m.flow.source (message_taken m.flow.source stamp m.flow.link.0 m.text (turn_of s m.flow.source)).pair
        (turn_message m.flow.source stamp m.flow.link.0 m.text (turn_of s m.flow.source) (tidy m.flow.source)) b
    by false = tidy b

  answered_tidy : (kind : Answer) (f : Flow) (stamp : ℕ) → (is_ready (pair_with f.destination s.peers).phase ≡ false → (pair_with f.destination s.peers).entries ≡ []) → AreTidy (accepted s (inbound.Answer kind f) stamp).0
  unfolding accepted
  answered_tidy kind f stamp none b = by (same_host s.own f.source) (is_busy (pair_with f.destination s.peers).busy f.link.0) where
    by : (c d : Bool) → IsTidyPair (pair_with b (if c then (if d then after_turn s f.destination (answered_turn f.destination kind f.link.0 (turn_of s f.destination)) else (s, [])) else (s, [])).0.peers)
    by true true =
        one_changed f.destination (answered_turn f.destination kind f.link.0 (turn_of s f.destination)).pair (turn_answer f.destination stamp kind f.link.0 (turn_of s f.destination) none (tidy f.destination)) b
    by true false = tidy b
    by false d = tidy b

  offered_tidy : (stamp : ℕ) → AreInOrder s.peers → AreTidy (offered s stamp).0
  unfolding offered
  offered_tidy stamp order b = by (next_in s.peers) refl where
    by : (o : Option (Peer × Parcel)) → next_in s.peers ≡ o → IsTidyPair (pair_with b (offered_by s stamp o).0.peers)
    by None f = tidy b
    by (Some (g, x)) f =
        one_changed g.host (pair_after x g.pair (parcel_gone g.host stamp g.pair.busy x (desk_of g.pair s.listening)))
        (turn_parcel g.host stamp x g.pair s.listening (subst (λ (q : PairState). IsTidyPair q) (next_pair s.peers g x order f) (tidy g.host))) b

  -- ---- what a user asks for

  owner_tidy : (o : Option (Host × Entry)) (change : Entry → PairState → PairState) → ((g : Host) (e : Entry) → o ≡ Some (g, e) → IsTidyPair (change e (pair_with g s.peers))) → AreTidy (at_owner s o change)
  owner_tidy None change k b = tidy b
  owner_tidy (Some (g, e)) change k b = one_changed g (change e (pair_with g s.peers)) (k g e refl) b

  closed_tidy : (socket : ℕ) → AreTidy (closed_socket s socket)
  closed_tidy socket b = by (listens_on socket s.listening) refl where
    by : (c : Bool) → listens_on socket s.listening ≡ c → IsTidyPair (pair_with b (closed_socket s socket).peers)
    by true e = rw e (tidy b)
    by false e = rw e (owner_tidy (owner_of socket s.peers) (λ x. closed_end socket) (λ g x f. closes_end socket (pair_with g s.peers) (tidy g)) b)

  -- a user sends at an open end
  sends_open : (socket : ℕ) (bits : List Bool) (g : Host) (e : Entry) → owner_of socket s.peers ≡ Some (g, e) → refusal s (request.Send socket bits) ≡ None → is_open e ≡ true
  unfolding refusal
  sends_open socket bits g e f may =
      let found : on_open (send_fault (length bits)) (owner_of socket s.peers) ≡ None = (not_first (not (is_send_socket socket)) _ _ may).1 in
      let here : on_open (send_fault (length bits)) (Some (g, e)) ≡ None = subst (λ (o : Option (Host × Entry)). on_open (send_fault (length bits)) o ≡ None) f found in
      not_false (is_open e) (not_first (not (is_open e)) _ _ here).0

  served_tidy : (r : Request) → AreInOrder s.peers → refusal s r ≡ None → AreTidy (served s r)
  unfolding served refusal
  served_tidy (request.Contact peer) order may b = one_changed peer (contacted (pair_with peer s.peers)) tt b
  served_tidy (request.Listen socket size) order may b = tidy b
  served_tidy (request.OpenSend peer own foreign size) order may b =
      one_changed peer (requested (sending_end own foreign size) (command.Str own foreign size) (pair_with peer s.peers)) (asks_send own foreign size (command.Str own foreign size) (pair_with peer s.peers) (tidy peer)) b
  served_tidy (request.OpenReceive peer own foreign) order may b =
      let ends : (is_receive_socket own && is_send_socket foreign) ≡ true = not_false (is_receive_socket own && is_send_socket foreign) (not_first (not (is_receive_socket own && is_send_socket foreign)) _ _ (not_first (not (is_ready (pair_with peer s.peers).phase)) _ _ may).1).0 in
      one_changed peer (receiver_requested own foreign (free_link (pair_with peer s.peers).entries) (pair_with peer s.peers))
      (asks_receive own foreign (free_link (pair_with peer s.peers).entries) (pair_with peer s.peers) (both (is_receive_socket own) (is_send_socket foreign) ends).0 (tidy peer)) b
  served_tidy (request.Send socket bits) order may b =
      owner_tidy (owner_of socket s.peers) (λ e. with_end socket (with_more_bits bits))
      (λ g e f. gives socket bits e (pair_with g s.peers) (owner_found socket s.peers g e order f) (sends_open socket bits g e f may) (tidy g)) b
  served_tidy (request.Grant socket messages bits) order may b =
      owner_tidy (owner_of socket s.peers) (λ e q. commanded (command.All (link_of e.link) messages bits) (with_end socket (granted messages bits) q)) (λ g e f. grants socket messages bits (pair_with g s.peers) (tidy g)) b
  served_tidy (request.AskBack socket messages bits) order may b = owner_tidy (owner_of socket s.peers) (λ e. commanded (command.Gvb (link_of e.link) messages bits)) (λ g e f. tidy g) b
  served_tidy (request.Interrupt socket) order may b = owner_tidy (owner_of socket s.peers) (λ e. commanded (interrupt_of e)) (λ g e f. tidy g) b
  served_tidy (request.Close socket) order may b = closed_tidy socket b
  served_tidy (request.Echo peer octet) order may b = one_changed peer (commanded (command.Eco octet) (pair_with peer s.peers)) (tidy peer) b

-- ---- all moments

tidy_if : (c : Bool) (new old : NcpState) → (c ≡ true → AreTidy new) → AreTidy old → AreTidy (if c then new else old)
tidy_if true new old k h = k refl
tidy_if false new old k h = h

pub all_tidy : (hosts : Network) → HaveAddresses hosts.all → (moments : List Moment)
    → mail.IsRun hosts.all (crossings_of moments) → Happened hosts moments → (a : Host) → hosts.strange a ≡ false
    → AreTidy (program a moments)
all_tidy hosts addresses [] run time a plain b = tt
all_tidy hosts addresses (x ∷ moments) run time a plain b = by x time.0 (λ p. all_tidy hosts addresses moments (mail_below hosts.all x moments run) time.1 a plain p) b where
  below : mail.IsRun hosts.all (crossings_of moments)
  below = mail_below hosts.all x moments run

  order : AreInOrder (program a moments).peers
  order = (coupled hosts addresses moments below time.1).order a plain

  by : (y : Moment) → MayHappen hosts.strange hosts.all y moments → AreTidy (program a moments)
      → AreTidy (program a (y ∷ moments))
  by (Crossed (crossing.Out m)) happens old = tidy_if (same_host a m.flow.source) (offered (program a moments) (places moments)).0 (program a moments) (λ e. offered_tidy (program a moments) old (places moments) order) old
  by (Crossed (crossing.In m)) happens old = tidy_if (same_host a m.flow.destination) (accepted (program a moments) (inbound.Message m) (places moments)).0 (program a moments) (λ e. taken_tidy (program a moments) old m (places moments)) old
  by (Crossed (crossing.Answer kind f)) happens old =
      tidy_if (same_host a f.source) (accepted (program a moments) (inbound.Answer kind f) (places moments)).0 (program a moments)
      (λ e. answered_tidy (program a moments) old kind f (places moments) ((held a 0 hosts addresses plain moments below time.1).steady.idle f.destination)) old
  by (Crossed (crossing.Down h)) happens old = tidy_if (same_host a h) (opening_state a) (program a moments) (λ e b. tt) old
  by (Crossed (crossing.Up h)) happens old = tidy_if (same_host a h) (opening_state a) (program a moments) (λ e b. tt) old
  by (Asked h r) happens old =
      tidy_if (same_host a h) (served (program a moments) r) (program a moments)
      (λ e. served_tidy (program a moments) old r order (subst (λ (g : Host). refusal (program g moments) r ≡ None) (sym (same_host-true a h e)) (happens (plain_at hosts a h e plain)).2)) old
