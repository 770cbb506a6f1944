-- What a host that doesn't stay, and says nothing, does by one moment: at most one call, of those that it makes by itself.
use Rattle.world_keeps_streams.proofs.Common.{◌≡◌, ℕ, ◌==◌, Bool, true, false, not, ◌||◌, if◌then◌else◌, cond, List, [], ◌∷◌, ◌++◌, Option, Some, None, refl, ap, sym, subst, ◌∙◌, Host, same_host, Flow, Answer, HostMessage, same_host-true, Command, closed_end, commanded, contacted, interrupt_of, receiver_requested, requested, with_end, with_more_bits, Order, Legal, orders_of, data_taken, desk_of, listens_on, free_link, is_busy, is_receiving, sending_end, PairState, is_ready, rfnm_phase, TurnState, answered_turn, failed_by, freed, is_gone, message_taken, orders_taken, settled_turn, with_desk, Entry, Listener, Phase, what_goes, put, NcpState, owner_of, pair_with, with_pair, AreInOrder, Peer, Request, next_is, next_pair, pair_changed, clash}
use Rattle.host_pairs.specs.Parcels.{Parcel, pair_after, parcel_gone, link_of}
use Rattle.host_keeps_streams.specs.Histories.{Answered, AsksBack, Closes, Gives, Grants, Hears, OpensReceiver, OpensSender, Takes, Call}
use Rattle.sockets.specs.Accepting.{turn_of, accepted}
use Rattle.sockets.specs.Requests.{at_owner, closed_socket, with_peer, served}
use Rattle.sockets.specs.Sending.{next_in, offered_by, offered}
use Rattle.pair_keeps_streams.proofs.lemmas.{IsAsking, queue_by}
use Rattle.world_keeps_streams.specs.Calls.{answer_calls, message_calls, next_calls, orders_heard, owner_calls, parcel_calls, request_calls, called}
use Rattle.interface.specs.declared.crossing.Answer.TheVariants as answer
use Rattle.interface.specs.declared.crossing.Inbound.TheVariants as inbound
use Rattle.ncp_control.specs.declared.command.Command.TheVariants as command
use Rattle.host_pairs.specs.Commands.{granted}
use Rattle.host_pairs.specs.Parcels as parcel
use Rattle.ncp_control.specs.declared.phase.Phase.TheVariants as phase
use Rattle.host_keeps_streams.specs.Histories as calls
use Rattle.sockets.specs.declared.request.Request.TheVariants as request
use Rattle.world_keeps_streams.proofs.Calls.May.{MayCall}
use Rattle.world_keeps_streams.proofs.Stays.Quiet.{IsMore, Quiet, Asks, Told, Replied, no_more, one_more}

-- what a user asks for at an end may be done on each link
ask_may : (k : Call) (q : PairState) → IsAsking k → MayCall k q → Quiet k q
ask_may (OpensReceiver own foreign) q is may = Asks is (λ link s. (may.0, may.2)) (may.0, may.1)
ask_may (OpensSender own foreign size) q is may = Asks is (λ link s. may.2) (may.0, may.1)
ask_may (Grants socket messages bits e) q is may = Asks is (λ link s. may) tt
ask_may (AsksBack socket messages bits e) q is may = Asks is (λ link s. (may.0, may.1)) may.2
ask_may (Gives socket bits e) q is may = Asks is (λ link s. may) tt
ask_may (Closes socket e) q is may = Asks is (λ link s. may) tt
ask_may k q is may = absurd is

-- nothing is done, or one such call is made
pub data Calm (peer : Host) (q next : PairState) (cs : List calls.Moment) : Type 0 where
  Still : (none : cs ≡ []) → (more : IsMore q.queue next.queue) → Calm peer q next cs
  One : (m : calls.Moment) → (one : cs ≡ m ∷ []) → (same : m.pair ≡ q) → (quiet : MayCall m.call m.pair → Quiet m.call m.pair) → (more : IsMore (queue_by peer m.call m.pair m.listening) next.queue) → Calm peer q next cs

-- where the pair is ready after it
abbrev pub Calms : Host → PairState → PairState → List calls.Moment → Type 0
Calms peer q next cs = is_ready next.phase ≡ true → Calm peer q next cs

pub still : (peer : Host) (q next : PairState) → next ≡ q → Calm peer q next []
still peer q next is = Still refl (subst (λ (x : PairState). IsMore q.queue x.queue) (sym is) (no_more q.queue))

same_queue : (peer : Host) (q next : PairState) → next.queue ≡ q.queue → Calm peer q next []
same_queue peer q next is = Still refl (subst (λ (x : List Command). IsMore q.queue x) (sym is) (no_more q.queue))

one_call : (peer : Host) (k : Call) (q : PairState) (listening : List Listener) (next : PairState) → (MayCall k q → Quiet k q) → next.queue ≡ queue_by peer k q listening → Calm peer q next (called k q listening ∷ [])
one_call peer k q listening next quiet is =
    One (called k q listening) refl refl quiet (subst (λ (x : List Command). IsMore (queue_by peer k q listening) x) (sym is) (no_more _))

-- ---- an answer

module _ (peer : Host) (link : ℕ) (t : TurnState) where
  abbrev cleared : TurnState
  cleared = record t { pair = freed link t.pair }

  abbrev Answers : TurnState → Type 0
  Answers u = Calms peer t.pair u.pair (called (Answered link) t.pair t.listening ∷ [])

  fails : (ph : Phase) → t.pair.phase ≡ ph → Answers (failed_by peer ph cleared)
  fails phase.Closed e = λ r. clash _ (is_ready t.pair.phase) r (ap is_ready e)
  fails phase.Want e = λ r. clash _ (is_ready t.pair.phase) r (ap is_ready e)
  fails ph e = λ r. clash _ true refl (sym r)

  settles : (ph : Phase) → Answers (settled_turn (record t { pair = record (freed link t.pair) { phase = ph } }))
  settles ph = λ r. one_call peer (Answered link) t.pair t.listening _ (λ m. Told link refl) refl

  lost : (b : Bool) → Answers (if b then failed_by peer t.pair.phase cleared else settled_turn cleared)
  lost true = fails t.pair.phase refl
  lost false = settles t.pair.phase

  answer_turn : (kind : Answer) → Answers (answered_turn peer kind link t)
  answer_turn answer.Rfnm = settles _
  answer_turn kind = lost _

module _ (s : NcpState) (stamp : ℕ) where
  pub answer_calm : (kind : Answer) (f : Flow) → same_host s.own f.source ≡ true
      → Calms f.destination (pair_with f.destination s.peers) (pair_with f.destination (accepted s (inbound.Answer kind f) stamp).0.peers) (answer_calls f.link.0 (pair_with f.destination s.peers) s.listening)
  unfolding accepted
  answer_calm kind f own = by (is_busy (pair_with f.destination s.peers).busy f.link.0) refl where
    by : (b : Bool) → is_busy (pair_with f.destination s.peers).busy f.link.0 ≡ b
        → Calms f.destination (pair_with f.destination s.peers) (pair_with f.destination (accepted s (inbound.Answer kind f) stamp).0.peers) (answer_calls f.link.0 (pair_with f.destination s.peers) s.listening)
    by true e =
        rw (own, e) (subst (λ (q : PairState). Calms f.destination (pair_with f.destination s.peers) q (called (Answered f.link.0) (pair_with f.destination s.peers) s.listening ∷ []))
        (sym (put f.destination (answered_turn f.destination kind f.link.0 (turn_of s f.destination)).pair s.peers))
        (answer_turn f.destination f.link.0 (turn_of s f.destination) kind))
    by false e = rw (own, e) (λ r. still f.destination (pair_with f.destination s.peers) (pair_with f.destination s.peers) refl)

  -- ---- an RRP that is taken, and an RST

  reply_turn : (peer : Host) (link : ℕ) (text : List Bool) (t : TurnState) → (link == 0) ≡ true → orders_of text ≡ Legal command.Rrp ∷ [] → Calm peer t.pair (message_taken peer stamp link text t).pair (message_calls peer stamp link text t)
  reply_turn peer link text t zero orders = by (link == 0) (orders_of text) (is_ready t.pair.phase) zero orders where
    by : (z : Bool) (os : List Order) (r : Bool) → z ≡ true → os ≡ Legal command.Rrp ∷ []
        → Calm peer t.pair (if z then orders_taken peer stamp os t else (if r then with_desk t (data_taken link text (desk_of t.pair t.listening)) else t)).pair
        (if r then (if z then orders_heard peer stamp os t [] else called (Takes link text) t.pair t.listening ∷ []) else [])
    by z os true e f = rw (e, f) (one_call peer (Hears stamp 0 command.Rrp) t.pair t.listening _ (λ m. Replied stamp refl) refl)
    by z os false e f = rw (e, f) (same_queue peer t.pair _ refl)

  pub reply_calm : (m : HostMessage) → same_host s.own m.flow.destination ≡ true → (m.flow.link.0 == 0) ≡ true → orders_of m.text ≡ Legal command.Rrp ∷ []
      → Calm m.flow.source (pair_with m.flow.source s.peers) (pair_with m.flow.source (accepted s (inbound.Message m) stamp).0.peers) (message_calls m.flow.source stamp m.flow.link.0 m.text (turn_of s m.flow.source))
  unfolding accepted
  reply_calm m own zero orders =
      rw own (subst (λ (q : PairState). Calm m.flow.source (pair_with m.flow.source s.peers) q (message_calls m.flow.source stamp m.flow.link.0 m.text (turn_of s m.flow.source)))
      (sym (put m.flow.source _ s.peers))
      (reply_turn m.flow.source m.flow.link.0 m.text _ zero orders))

  reset_turn : (peer : Host) (link : ℕ) (text : List Bool) (t : TurnState) → (link == 0) ≡ true → orders_of text ≡ Legal command.Rst ∷ [] → (message_taken peer stamp link text t).pair.queue ≡ []
  reset_turn peer link text t zero orders = rw (zero, orders) refl

  -- nothing waits to be said to a peer whose RST was taken
  pub reset_drops : (m : HostMessage) → same_host s.own m.flow.destination ≡ true → (m.flow.link.0 == 0) ≡ true → orders_of m.text ≡ Legal command.Rst ∷ []
      → (pair_with m.flow.source (accepted s (inbound.Message m) stamp).0.peers).queue ≡ []
  unfolding accepted
  reset_drops m own zero orders =
      rw own (ap (λ (q : PairState). q.queue) (put m.flow.source (message_taken m.flow.source stamp m.flow.link.0 m.text (turn_of s m.flow.source)).pair s.peers)
      ∙ reset_turn m.flow.source m.flow.link.0 m.text (turn_of s m.flow.source) zero orders)

  -- ---- what goes out to a peer that an RRP is owed

  abbrev next_for : Peer → Parcel → Host → PairState
  next_for g x h = pair_after x g.pair (parcel_gone h stamp g.pair.busy x (desk_of g.pair s.listening))

  owed_parcel : (h : Host) (g : Peer) (x : Parcel) → parcel.next_of g.pair ≡ Some x → is_ready g.pair.phase ≡ true → g.pair.owed ≡ true → Calm h g.pair (next_for g x g.host) (parcel_calls h stamp x g.pair s.listening)
  owed_parcel h g parcel.Reset n ready owed = absurd (let no : false ≡ true = sym (ap is_ready (what_goes g.pair parcel.Reset n).wanted) ∙ ready in cc)
  owed_parcel h g parcel.Reply n ready owed = same_queue h g.pair _ refl
  owed_parcel h g (parcel.Commands count) n ready owed = clash _ g.pair.owed owed (what_goes g.pair _ n).0.owes
  owed_parcel h g (parcel.Bytes e size count) n ready owed = clash _ g.pair.owed owed (what_goes g.pair _ n).0.owes

  -- `b` is another peer, or owed an RRP
  pub offer_calm : (b : Host) → AreInOrder s.peers → ((g : Peer) (x : Parcel) → next_in s.peers ≡ Some (g, x) → same_host b g.host ≡ true → (is_ready (pair_with b s.peers).phase ≡ true) × ((pair_with b s.peers).owed ≡ true))
      → Calm b (pair_with b s.peers) (pair_with b (offered s stamp).0.peers) (next_calls b stamp s.listening (next_in s.peers))
  unfolding offered
  offer_calm b order owes = by (next_in s.peers) refl where
    by : (o : Option (Peer × Parcel)) → next_in s.peers ≡ o → Calm b (pair_with b s.peers) (pair_with b (offered_by s stamp o).0.peers) (next_calls b stamp s.listening o)
    by None f = still b (pair_with b s.peers) (pair_with b s.peers) refl
    by (Some (g, x)) f = at (same_host b g.host) refl where
      changed : pair_with b (with_pair g.host (next_for g x g.host) s.peers) ≡ cond (same_host b g.host) (next_for g x g.host) (pair_with b s.peers)
      changed = pair_changed g.host b (next_for g x g.host) s.peers

      at : (c : Bool) → same_host b g.host ≡ c → Calm b (pair_with b s.peers) (pair_with b (offered_by s stamp (Some (g, x))).0.peers) (next_calls b stamp s.listening (Some (g, x)))
      at true e =
          let is : b ≡ g.host = same_host-true b g.host e in
          let old : pair_with b s.peers ≡ g.pair = ap (λ (h : Host). pair_with h s.peers) is ∙ next_pair s.peers g x order f in
          let now : pair_with b (with_pair g.host (next_for g x g.host) s.peers) ≡ next_for g x g.host = rw e at changed in
          let o : (is_ready (pair_with b s.peers).phase ≡ true) × ((pair_with b s.peers).owed ≡ true) = owes g x f e in
          let here : Calm b g.pair (next_for g x g.host) (parcel_calls b stamp x g.pair s.listening) =
          owed_parcel b g x (next_is g x s.peers f) (ap (λ (q : PairState). is_ready q.phase) (sym old) ∙ o.0) (ap (λ (q : PairState). q.owed) (sym old) ∙ o.1) in
          rw e
          (subst (λ (q : PairState). Calm b q (pair_with b (with_pair g.host (next_for g x g.host) s.peers)) (parcel_calls b stamp x g.pair s.listening)) (sym old)
          (subst (λ (q : PairState). Calm b g.pair q (parcel_calls b stamp x g.pair s.listening)) (sym now) here))
      at false e =
          let now : pair_with b (offered_by s stamp (Some (g, x))).0.peers ≡ pair_with b s.peers = rw e at changed in
          rw e (still b (pair_with b s.peers) _ now)

-- ---- what a user asks for

interrupts : (e : Entry) (cs : List Command) → IsMore cs (cs ++ interrupt_of e ∷ [])
interrupts e cs = by (is_receiving e) where
  by : (b : Bool) → IsMore cs (cs ++ (if b then command.Inr (link_of e.link) else command.Ins (link_of e.link)) ∷ [])
  by true = one_more cs (command.Inr (link_of e.link)) tt
  by false = one_more cs _ tt

module _ (s : NcpState) (b : Host) where
  -- the pair of a peer is changed
  peer_calm : (g : Host) (change : PairState → PairState) (cs : Host → List calls.Moment) → Calms g (pair_with g s.peers) (change (pair_with g s.peers)) (cs g)
      → Calms b (pair_with b s.peers) (pair_with b (with_peer s g change).peers) (if same_host b g then cs b else [])
  peer_calm g change cs there = by (same_host b g) refl where
    changed : pair_with b (with_pair g (change (pair_with g s.peers)) s.peers) ≡ cond (same_host b g) (change (pair_with g s.peers)) (pair_with b s.peers)
    changed = pair_changed g b _ s.peers

    by : (c : Bool) → same_host b g ≡ c → Calms b (pair_with b s.peers) (pair_with b (with_pair g (change (pair_with g s.peers)) s.peers)) (if c then cs b else [])
    by true e =
        let is : b ≡ g = same_host-true b g e in
        let now : pair_with b (with_pair g (change (pair_with g s.peers)) s.peers) ≡ change (pair_with g s.peers) = rw e at changed in
        subst (λ (q : PairState). Calms b (pair_with b s.peers) q (cs b)) (sym (now ∙ ap (λ (h : Host). change (pair_with h s.peers)) (sym is)))
        (subst (λ (h : Host). Calms h (pair_with h s.peers) (change (pair_with h s.peers)) (cs h)) (sym is) there)
    by false e =
        let now : pair_with b (with_pair g (change (pair_with g s.peers)) s.peers) ≡ pair_with b s.peers = rw e at changed in
        λ r. still b (pair_with b s.peers) _ now

  none_if : (c : Bool) → (if c then [] else []) ≡ (let none : List calls.Moment = [] in none)
  none_if true = refl
  none_if false = refl

  -- without a call
  peer_still : (g : Host) (change : PairState → PairState) → Calms g (pair_with g s.peers) (change (pair_with g s.peers)) [] → Calms b (pair_with b s.peers) (pair_with b (with_peer s g change).peers) []
  peer_still g change there = subst (λ (cs : List calls.Moment). Calms b (pair_with b s.peers) (pair_with b (with_peer s g change).peers) cs) (none_if (same_host b g)) (peer_calm g change (λ h. []) there)

  owner_calm : (o : Option (Host × Entry)) (change : Entry → PairState → PairState) (k : Entry → Call) → ((e : Entry) → IsAsking (k e)) → ((g : Host) (e : Entry) (q : PairState) → (change e q).queue ≡ queue_by g (k e) q s.listening)
      → Calms b (pair_with b s.peers) (pair_with b (at_owner s o change).peers) (owner_calls b k (pair_with b s.peers) s.listening o)
  owner_calm None change k asks is = λ r. still b (pair_with b s.peers) (pair_with b s.peers) refl
  owner_calm (Some (g, e)) change k asks is =
      peer_calm g (change e) (λ h. called (k e) (pair_with h s.peers) s.listening ∷ [])
      (λ r. one_call g (k e) (pair_with g s.peers) s.listening (change e (pair_with g s.peers)) (ask_may (k e) (pair_with g s.peers) (asks e)) (is g e (pair_with g s.peers)))

  owner_still : (o : Option (Host × Entry)) (change : Entry → PairState → PairState) → ((e : Entry) (q : PairState) → IsMore q.queue (change e q).queue)
      → Calms b (pair_with b s.peers) (pair_with b (at_owner s o change).peers) []
  owner_still None change more = λ r. still b (pair_with b s.peers) (pair_with b s.peers) refl
  owner_still (Some (g, e)) change more = peer_still g (change e) (λ r. Still refl (more e (pair_with g s.peers)))

  close_calm : (socket : ℕ) → Calms b (pair_with b s.peers) (pair_with b (closed_socket s socket).peers) (request_calls b s (request.Close socket))
  close_calm socket = by (listens_on socket s.listening) refl where
    by : (c : Bool) → listens_on socket s.listening ≡ c → Calms b (pair_with b s.peers) (pair_with b (closed_socket s socket).peers) (request_calls b s (request.Close socket))
    by true e = rw e (λ r. still b (pair_with b s.peers) (pair_with b s.peers) refl)
    by false e = rw e (owner_calm _ _ _ (λ x. tt) (λ g x q. refl))

  pub request_calm : (r : Request) → Calms b (pair_with b s.peers) (pair_with b (served s r).peers) (request_calls b s r)
  unfolding served
  request_calm (request.Contact peer) = peer_still peer contacted (λ r. clash _ true refl (sym r))
  request_calm (request.Listen socket size) = λ r. still b (pair_with b s.peers) (pair_with b s.peers) refl
  request_calm (request.OpenSend peer own foreign size) =
      peer_calm peer (requested (sending_end own foreign size) (command.Str own foreign size)) (λ h. called (OpensSender own foreign size) (pair_with h s.peers) s.listening ∷ [])
      (λ r. one_call peer (OpensSender own foreign size) (pair_with peer s.peers) s.listening _ (ask_may (OpensSender own foreign size) (pair_with peer s.peers) tt) refl)
  request_calm (request.OpenReceive peer own foreign) =
      peer_calm peer (receiver_requested own foreign (free_link (pair_with peer s.peers).entries)) (λ h. called (OpensReceiver own foreign) (pair_with h s.peers) s.listening ∷ [])
      (λ r. one_call peer (OpensReceiver own foreign) (pair_with peer s.peers) s.listening _ (ask_may (OpensReceiver own foreign) (pair_with peer s.peers) tt) refl)
  request_calm (request.Send socket bits) = owner_calm (owner_of socket s.peers) (λ e. with_end socket (with_more_bits bits)) (Gives socket bits) (λ e. tt) (λ g e q. refl)
  request_calm (request.Grant socket messages bits) =
      owner_calm (owner_of socket s.peers) (λ e q. commanded (command.All (link_of e.link) messages bits) (with_end socket (granted messages bits) q)) (Grants socket messages bits) (λ e. tt) (λ g e q. refl)
  request_calm (request.AskBack socket messages bits) =
      owner_calm (owner_of socket s.peers) (λ e. commanded (command.Gvb (link_of e.link) messages bits)) (AsksBack socket messages bits) (λ e. tt) (λ g e q. refl)
  request_calm (request.Interrupt socket) = owner_still (owner_of socket s.peers) (λ e. commanded (interrupt_of e)) (λ e q. interrupts e q.queue)
  request_calm (request.Close socket) = close_calm socket
  request_calm (request.Echo peer octet) = peer_still peer (commanded (command.Eco octet)) (λ r. Still refl (one_more (pair_with peer s.peers).queue (command.Eco octet) tt))
