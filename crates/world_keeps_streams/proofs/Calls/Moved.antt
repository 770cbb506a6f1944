-- Each call of a host's program, for one peer: the calls of streams that it is lead from the ends before it to those after it.
use Rattle.world_keeps_streams.proofs.Common.{◌≡◌, ℕ, Bool, true, false, not, if◌then◌else◌, cond, List, [], ◌∷◌, find, Option, Some, None, refl, ap, sym, subst, ◌∙◌, Host, same_host, Flow, Answer, HostMessage, not_false, same_host-true, closed_end, commanded, contacted, interrupt_of, receiver_requested, requested, with_end, with_more_bits, desk_of, listens_on, free_link, is_busy, is_mine_on, sending_end, PairState, is_ready, answered_turn, message_taken, Entry, what_goes, put, NcpState, owner_of, pair_with, with_pair, AreInOrder, Peer, Request, next_is, next_pair, not_first, pair_changed, IsApart, message_on, clash, owner_found}
use Rattle.host_pairs.specs.Parcels.{Parcel, pair_after, parcel_gone, link_of}
use Rattle.host_keeps_streams.specs.Histories.{AsksBack, Closes, Gives, Grants, OpensReceiver, OpensSender, ends_by, Call}
use Rattle.sockets.specs.Accepting.{turn_of, accepted}
use Rattle.sockets.specs.Requests.{at_owner, closed_socket, with_peer, refusal, served}
use Rattle.sockets.specs.Sending.{next_in, offered_by, offered}
use Rattle.world_keeps_streams.specs.Calls.{answer_calls, message_calls, next_calls, owner_calls, parcel_calls, request_calls, called}
use Rattle.interface.specs.declared.crossing.Inbound.TheVariants as inbound
use Rattle.ncp_control.specs.declared.command.Command.TheVariants as command
use Rattle.host_pairs.specs.Commands.{granted}
use Rattle.host_keeps_streams.specs.Histories as calls
use Rattle.sockets.specs.declared.request.Request.TheVariants as request
use Rattle.world_keeps_streams.proofs.Calls.Leads.{IsIdle, Turned, answer_turned, is_reset, message_turned, one_lead, parcel_turned, same_turned}

-- ---- a program

module _ (s : NcpState) (stamp : ℕ) where
  pub message_moved : (m : HostMessage) → same_host s.own m.flow.destination ≡ true → IsApart m.flow.link.0 m.text (message_on m.flow.link.0 m.text)
      → Turned m.flow.source (is_reset (message_on m.flow.link.0 m.text)) (pair_with m.flow.source s.peers) (pair_with m.flow.source (accepted s (inbound.Message m) stamp).0.peers) (message_calls m.flow.source stamp m.flow.link.0 m.text (turn_of s m.flow.source))
  unfolding accepted
  message_moved m own apart =
      rw own (subst (λ (q : PairState). Turned m.flow.source (is_reset (message_on m.flow.link.0 m.text)) (pair_with m.flow.source s.peers) q (message_calls m.flow.source stamp m.flow.link.0 m.text (turn_of s m.flow.source)))
      (sym (put m.flow.source (message_taken m.flow.source stamp m.flow.link.0 m.text (turn_of s m.flow.source)).pair s.peers))
      (message_turned m.flow.source stamp m.flow.link.0 m.text (turn_of s m.flow.source) apart))

  pub answer_moved : (kind : Answer) (f : Flow) → same_host s.own f.source ≡ true
      → Turned f.destination false (pair_with f.destination s.peers) (pair_with f.destination (accepted s (inbound.Answer kind f) stamp).0.peers) (answer_calls f.link.0 (pair_with f.destination s.peers) s.listening)
  unfolding accepted
  answer_moved kind f own = by (is_busy (pair_with f.destination s.peers).busy f.link.0) refl where
    by : (b : Bool) → is_busy (pair_with f.destination s.peers).busy f.link.0 ≡ b
        → Turned f.destination false (pair_with f.destination s.peers) (pair_with f.destination (accepted s (inbound.Answer kind f) stamp).0.peers) (answer_calls f.link.0 (pair_with f.destination s.peers) s.listening)
    by true e =
        rw (own, e) (subst (λ (q : PairState). Turned f.destination false (pair_with f.destination s.peers) q (called (calls.Answered f.link.0) (pair_with f.destination s.peers) s.listening ∷ []))
        (sym (put f.destination (answered_turn f.destination kind f.link.0 (turn_of s f.destination)).pair s.peers))
        (answer_turned f.destination f.link.0 (turn_of s f.destination) kind))
    by false e = rw (own, e) (same_turned f.destination (pair_with f.destination s.peers) (pair_with f.destination s.peers) refl (λ i. i))

  abbrev next_for : Peer → Parcel → Host → PairState
  next_for g x h = pair_after x g.pair (parcel_gone h stamp g.pair.busy x (desk_of g.pair s.listening))

  pub offered_moved : (b : Host) → AreInOrder s.peers → Turned b false (pair_with b s.peers) (pair_with b (offered s stamp).0.peers) (next_calls b stamp s.listening (next_in s.peers))
  unfolding offered
  offered_moved b order = by (next_in s.peers) refl where
    by : (o : Option (Peer × Parcel)) → next_in s.peers ≡ o → Turned b false (pair_with b s.peers) (pair_with b (offered_by s stamp o).0.peers) (next_calls b stamp s.listening o)
    by None f = same_turned b (pair_with b s.peers) (pair_with b s.peers) refl (λ i. i)
    by (Some (g, x)) f = at (same_host b g.host) refl where
      changed : pair_with b (with_pair g.host (next_for g x g.host) s.peers) ≡ cond (same_host b g.host) (next_for g x g.host) (pair_with b s.peers)
      changed = pair_changed g.host b (next_for g x g.host) s.peers

      at : (c : Bool) → same_host b g.host ≡ c → Turned b false (pair_with b s.peers) (pair_with b (offered_by s stamp (Some (g, x))).0.peers) (next_calls b stamp s.listening (Some (g, x)))
      at true e =
          let is : b ≡ g.host = same_host-true b g.host e in
          let old : pair_with b s.peers ≡ g.pair = ap (λ (h : Host). pair_with h s.peers) is ∙ next_pair s.peers g x order f in
          let now : pair_with b (with_pair g.host (next_for g x g.host) s.peers) ≡ next_for g x g.host = rw e at changed in
          let there : Turned g.host false g.pair (next_for g x g.host) (parcel_calls g.host stamp x g.pair s.listening) = parcel_turned g.host stamp g.pair x s.listening (what_goes g.pair x (next_is g x s.peers f)) in
          let here : Turned b false g.pair (next_for g x g.host) (parcel_calls b stamp x g.pair s.listening) =
          subst (λ (h : Host). Turned h false g.pair (next_for g x g.host) (parcel_calls h stamp x g.pair s.listening)) (sym is) there in
          rw e
          (subst (λ (q : PairState). Turned b false q (pair_with b (with_pair g.host (next_for g x g.host) s.peers)) (parcel_calls b stamp x g.pair s.listening)) (sym old)
          (subst (λ (q : PairState). Turned b false g.pair q (parcel_calls b stamp x g.pair s.listening)) (sym now) here))
      at false e =
          let now : pair_with b (offered_by s stamp (Some (g, x))).0.peers ≡ pair_with b s.peers = rw e at changed in
          rw e (same_turned b (pair_with b s.peers) _ (ap (λ (q : PairState). q.entries) (sym now)) (λ i. subst (λ (q : PairState). IsIdle q) (sym now) i))

-- ---- what a user asks for

pub found_some : (P : Type 0) (test : Entry → Bool) (es : List Entry) (e : Entry) → find test es ≡ Some e → es ≡ [] → P
found_some P test es e f none = absurd (let r : None ≡ Some e = rw none at f in cc)

receiver_phase : (own foreign : ℕ) (o : Option ℕ) (q : PairState) → (receiver_requested own foreign o q).phase ≡ q.phase
receiver_phase own foreign None q = refl
receiver_phase own foreign (Some link) q = refl

module _ (s : NcpState) (b : Host) where
  -- the pair of a peer is changed
  peer_moved : (g : Host) (change : PairState → PairState) (cs : Host → List calls.Moment) → Turned g false (pair_with g s.peers) (change (pair_with g s.peers)) (cs g)
      → Turned b false (pair_with b s.peers) (pair_with b (with_peer s g change).peers) (if same_host b g then cs b else [])
  peer_moved g change cs there = by (same_host b g) refl where
    changed : pair_with b (with_pair g (change (pair_with g s.peers)) s.peers) ≡ cond (same_host b g) (change (pair_with g s.peers)) (pair_with b s.peers)
    changed = pair_changed g b _ s.peers

    by : (c : Bool) → same_host b g ≡ c → Turned b false (pair_with b s.peers) (pair_with b (with_pair g (change (pair_with g s.peers)) s.peers)) (if c then cs b else [])
    by true e =
        let is : b ≡ g = same_host-true b g e in
        let now : pair_with b (with_pair g (change (pair_with g s.peers)) s.peers) ≡ change (pair_with g s.peers) = rw e at changed in
        subst (λ (q : PairState). Turned b false (pair_with b s.peers) q (cs b)) (sym (now ∙ ap (λ (h : Host). change (pair_with h s.peers)) (sym is)))
        (subst (λ (h : Host). Turned h false (pair_with h s.peers) (change (pair_with h s.peers)) (cs h)) (sym is) there)
    by false e =
        let now : pair_with b (with_pair g (change (pair_with g s.peers)) s.peers) ≡ pair_with b s.peers = rw e at changed in
        same_turned b _ _ (ap (λ (q : PairState). q.entries) (sym now)) (λ i. subst (λ (q : PairState). IsIdle q) (sym now) i)

  none_if : (c : Bool) → (if c then [] else []) ≡ (let none : List calls.Moment = [] in none)
  none_if true = refl
  none_if false = refl

  -- without a call
  peer_quiet : (g : Host) (change : PairState → PairState) → Turned g false (pair_with g s.peers) (change (pair_with g s.peers)) [] → Turned b false (pair_with b s.peers) (pair_with b (with_peer s g change).peers) []
  peer_quiet g change there =
      subst (λ (cs : List calls.Moment). Turned b false (pair_with b s.peers) (pair_with b (with_peer s g change).peers) cs) (none_if (same_host b g)) (peer_moved g change (λ h. []) there)

  -- a request that no pair which isn't ready serves
  ready_turned : (g : Host) (k : Call) (next : PairState) → is_ready (pair_with g s.peers).phase ≡ true → next.phase ≡ (pair_with g s.peers).phase → ends_by g k (pair_with g s.peers) s.listening ≡ next.entries
      → Turned g false (pair_with g s.peers) next (called k (pair_with g s.peers) s.listening ∷ [])
  ready_turned g k next ready phase is = record {
    leads = λ n r. one_lead g k (pair_with g s.peers) s.listening next.entries is;
    drops = λ f. clash _ true refl (sym f);
    idle = λ i j. clash _ (is_ready (pair_with g s.peers).phase) ready (ap is_ready (sym phase) ∙ j);
  }

  found_turned : (g : Host) (socket : ℕ) (e : Entry) (k : Call) (next : PairState) → find (is_mine_on socket) (pair_with g s.peers).entries ≡ Some e → next.phase ≡ (pair_with g s.peers).phase
      → ends_by g k (pair_with g s.peers) s.listening ≡ next.entries → Turned g false (pair_with g s.peers) next (called k (pair_with g s.peers) s.listening ∷ [])
  found_turned g socket e k next found phase is = record {
    leads = λ n r. one_lead g k (pair_with g s.peers) s.listening next.entries is;
    drops = λ f. clash _ true refl (sym f);
    idle = λ i j. found_some _ (is_mine_on socket) (pair_with g s.peers).entries e found (i (ap is_ready (sym phase) ∙ j)).0;
  }

  owner_moved : (socket : ℕ) (o : Option (Host × Entry)) (change : Entry → PairState → PairState) (k : Entry → Call) → AreInOrder s.peers → owner_of socket s.peers ≡ o
      → ((e : Entry) (q : PairState) → (change e q).phase ≡ q.phase) → ((g : Host) (e : Entry) (q : PairState) → ends_by g (k e) q s.listening ≡ (change e q).entries)
      → Turned b false (pair_with b s.peers) (pair_with b (at_owner s o change).peers) (owner_calls b k (pair_with b s.peers) s.listening o)
  owner_moved socket None change k order f phase is = same_turned b (pair_with b s.peers) (pair_with b s.peers) refl (λ i. i)
  owner_moved socket (Some (g, e)) change k order f phase is =
      peer_moved g (change e) (λ h. called (k e) (pair_with h s.peers) s.listening ∷ [])
      (found_turned g socket e (k e) (change e (pair_with g s.peers)) (owner_found socket s.peers g e order f) (phase e (pair_with g s.peers)) (is g e (pair_with g s.peers)))

  owner_quiet : (socket : ℕ) (o : Option (Host × Entry)) (change : Entry → PairState → PairState) → AreInOrder s.peers → owner_of socket s.peers ≡ o
      → ((e : Entry) (q : PairState) → (change e q).phase ≡ q.phase) → ((e : Entry) (q : PairState) → (change e q).entries ≡ q.entries)
      → Turned b false (pair_with b s.peers) (pair_with b (at_owner s o change).peers) []
  owner_quiet socket None change order f phase is = same_turned b (pair_with b s.peers) (pair_with b s.peers) refl (λ i. i)
  owner_quiet socket (Some (g, e)) change order f phase is =
      peer_quiet g (change e)
      (same_turned g (pair_with g s.peers) (change e (pair_with g s.peers)) (sym (is e (pair_with g s.peers)))
      (λ i j. found_some _ (is_mine_on socket) (pair_with g s.peers).entries e (owner_found socket s.peers g e order f) (i (ap is_ready (sym (phase e (pair_with g s.peers))) ∙ j)).0))

  closed_moved : (socket : ℕ) → AreInOrder s.peers → Turned b false (pair_with b s.peers) (pair_with b (closed_socket s socket).peers) (request_calls b s (request.Close socket))
  closed_moved socket order = by (listens_on socket s.listening) refl where
    by : (c : Bool) → listens_on socket s.listening ≡ c → Turned b false (pair_with b s.peers) (pair_with b (closed_socket s socket).peers) (request_calls b s (request.Close socket))
    by true e = rw e (same_turned b _ _ refl (λ i. i))
    by false e = rw e (owner_moved socket _ _ _ order refl (λ x q. refl) (λ g x q. refl))

  pub request_moved : (r : Request) → AreInOrder s.peers → refusal s r ≡ None → Turned b false (pair_with b s.peers) (pair_with b (served s r).peers) (request_calls b s r)
  unfolding served refusal
  request_moved (request.Contact peer) order may =
      peer_quiet peer contacted (record { leads = λ n r. clash _ true refl (sym r); drops = λ f. clash _ true refl (sym f); idle = λ i j. (refl, refl) })
  request_moved (request.Listen socket size) order may = same_turned b (pair_with b s.peers) (pair_with b s.peers) refl (λ i. i)
  request_moved (request.OpenSend peer own foreign size) order may =
      peer_moved peer (requested (sending_end own foreign size) (command.Str own foreign size)) (λ h. called (OpensSender own foreign size) (pair_with h s.peers) s.listening ∷ [])
      (ready_turned peer (OpensSender own foreign size) (requested (sending_end own foreign size) (command.Str own foreign size) (pair_with peer s.peers)) (not_false _ (not_first (not (is_ready (pair_with peer s.peers).phase)) _ _ may).0) refl refl)
  request_moved (request.OpenReceive peer own foreign) order may =
      peer_moved peer (receiver_requested own foreign (free_link (pair_with peer s.peers).entries)) (λ h. called (OpensReceiver own foreign) (pair_with h s.peers) s.listening ∷ [])
      (ready_turned peer (OpensReceiver own foreign) (receiver_requested own foreign (free_link (pair_with peer s.peers).entries) (pair_with peer s.peers)) (not_false _ (not_first (not (is_ready (pair_with peer s.peers).phase)) _ _ may).0)
      (receiver_phase own foreign (free_link (pair_with peer s.peers).entries) (pair_with peer s.peers)) refl)
  request_moved (request.Send socket bits) order may = owner_moved socket (owner_of socket s.peers) (λ e. with_end socket (with_more_bits bits)) (Gives socket bits) order refl (λ e q. refl) (λ g e q. refl)
  request_moved (request.Grant socket messages bits) order may =
      owner_moved socket (owner_of socket s.peers) (λ e q. commanded (command.All (link_of e.link) messages bits) (with_end socket (granted messages bits) q)) (Grants socket messages bits) order refl (λ e q. refl) (λ g e q. refl)
  request_moved (request.AskBack socket messages bits) order may =
      owner_moved socket (owner_of socket s.peers) (λ e. commanded (command.Gvb (link_of e.link) messages bits)) (AsksBack socket messages bits) order refl (λ e q. refl) (λ g e q. refl)
  request_moved (request.Interrupt socket) order may = owner_quiet socket (owner_of socket s.peers) (λ e. commanded (interrupt_of e)) order refl (λ e q. refl) (λ e q. refl)
  request_moved (request.Close socket) order may = closed_moved socket order
  request_moved (request.Echo peer octet) order may =
      peer_quiet peer (commanded (command.Eco octet))
      (same_turned peer (pair_with peer s.peers) _ refl (λ i j. clash _ (is_ready (pair_with peer s.peers).phase) (not_false _ (not_first (not (is_ready (pair_with peer s.peers).phase)) _ _ may).0) j))
