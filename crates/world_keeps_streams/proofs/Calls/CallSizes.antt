-- Each call of a world's programs finds byte sizes that are octets and not zero.
use Rattle.world_keeps_streams.proofs.Common.{◌≡◌, ℕ, ◌==◌, ◌&&◌, IsTrue, not, Bool, true, false, if◌then◌else◌, List, [], ◌∷◌, ◌++◌, take, Option, Some, None, refl, ap, sym, subst, ◌∙◌, Host, same_host, not_false, same_host-true, is_byte_size, is_receive_socket, is_send_socket, Command, desk_taken, Legal, Order, Wrong, error, orders_of, desk_of, listens_on, command_queued, is_busy, PairState, Parcel, command_gone, with_connections, is_ready, TurnState, order_taken, with_desk, Entry, Listener, AreJoint, ready_when, turn_of, NcpState, owner_of, pair_with, next_in, Peer, Request, not_first, HaveAddresses, IsApart, message_on, Asked, Crossed, IsStory, Moment, event_in, events_of, places, program, crossings_of, keeps, AText, AnRrp, AnRst, Sort, mail_below, plain_joint, programs_ranged, sort_of, served_in, both, coupled, AreOurs, Network, Happened, MayHappen}
use Rattle.host_keeps_ranges.specs.Ranges.{AreOrders, AreSizes, IsRanged, IsAsked, IsPair}
use Rattle.host_keeps_ranges.proofs.lemmas.{pair_range, text_good, Ranged, ranged_error, ranged_taken}
use Rattle.host_keeps_streams.specs.Histories.{AsksBack, Closes, Gives, Grants, Hears, OpensReceiver, OpensSender, Says, Takes, Call}
use Rattle.sockets.specs.Requests.{is_taken, refusal}
use Rattle.world_keeps_streams.specs.Calls.{calls_by, commands_said, message_calls, next_calls, orders_heard, own_calls, owner_calls, parcel_calls, request_calls, called}
use Rattle.interface.specs.Mailboxes as mail
use Rattle.interface.specs.declared.crossing.Crossing.TheVariants as crossing
use Rattle.host_pairs.specs.Parcels as parcel
use Rattle.host_keeps_streams.specs.Histories as calls
use Rattle.sockets.specs.declared.request.Request.TheVariants as request
use Rattle.world_keeps_streams.proofs.Calls.Chain.{chain, plain_at}
use Rattle.world_keeps_streams.proofs.Calls.MayAsk.{AreSized}
use Rattle.world_keeps_streams.proofs.Calls.Sizes.{AllSizes, HasSize, history_sized, is_size, sizes_append}

-- ---- a message

abbrev DeskRanged : TurnState → Type 0
DeskRanged t = Ranged (desk_of t.pair t.listening)

module _ (peer : Host) (stamp : ℕ) where
  heard_sizes : (orders : List Order) (t : TurnState) (older : List calls.Moment) → AreJoint orders → AreOrders orders → is_ready t.pair.phase ≡ true → DeskRanged t → AllSizes older → AllSizes (orders_heard peer stamp orders t older)
  heard_sizes [] t older joint legal ready r h = h
  heard_sizes (Legal c ∷ orders) t older joint legal ready r h =
      let next : order_taken peer stamp (Legal c) t ≡ with_desk t (desk_taken peer t.pair.busy stamp c (desk_of t.pair t.listening)) = ready_when peer stamp (Legal c) t joint.0 ready in
      let now : Ranged (desk_taken peer t.pair.busy stamp c (desk_of t.pair t.listening)) = ranged_taken peer t.pair.busy stamp c (desk_of t.pair t.listening) legal.0 r in
      heard_sizes orders (order_taken peer stamp (Legal c) t) (called (Hears stamp 0 c) t.pair t.listening ∷ older) joint.1 legal.1 (ap (λ (u : TurnState). is_ready u.pair.phase) next ∙ ready)
      (subst (λ (u : TurnState). DeskRanged u) (sym next) (record { ends = now.ends; commands = now.commands; sizes = now.sizes })) ((legal.0, r.sizes), h)
  heard_sizes (Wrong code octets ∷ orders) t older joint legal ready r h =
      let next : order_taken peer stamp (Wrong code octets) t ≡ with_desk t (command_queued (error code octets) (desk_of t.pair t.listening)) = ready_when peer stamp (Wrong code octets) t joint.0 ready in
      let now : Ranged (command_queued (error code octets) (desk_of t.pair t.listening)) = ranged_error code octets (desk_of t.pair t.listening) legal.0.0 legal.0.1 r in
      heard_sizes orders (order_taken peer stamp (Wrong code octets) t) older joint.1 legal.1 (ap (λ (u : TurnState). is_ready u.pair.phase) next ∙ ready)
      (subst (λ (u : TurnState). DeskRanged u) (sym next) (record { ends = now.ends; commands = now.commands; sizes = now.sizes })) h

  message_sizes : (link : ℕ) (text : List Bool) (t : TurnState) → IsApart link text (message_on link text) → DeskRanged t → AllSizes (message_calls peer stamp link text t)
  message_sizes link text t apart r = by (is_ready t.pair.phase) (link == 0) refl refl where
    control : is_ready t.pair.phase ≡ true → (link == 0) ≡ true → Sort link text → AllSizes (orders_heard peer stamp (orders_of text) t [])
    control ready zero (AnRst z orders is) = subst (λ (os : List Order). AllSizes (orders_heard peer stamp os t [])) (sym orders) ((tt, r.sizes), tt)
    control ready zero (AnRrp z orders is) = subst (λ (os : List Order). AllSizes (orders_heard peer stamp os t [])) (sym orders) ((tt, r.sizes), tt)
    control ready zero (AText is) = heard_sizes (orders_of text) t [] (plain_joint (orders_of text) (subst (λ n. IsApart link text n) is apart zero)) (text_good text) ready r tt

    by : (b z : Bool) → is_ready t.pair.phase ≡ b → (link == 0) ≡ z → AllSizes (if b then (if z then orders_heard peer stamp (orders_of text) t [] else called (Takes link text) t.pair t.listening ∷ []) else [])
    by false z e f = tt
    by true false e f = ((tt, r.sizes), tt)
    by true true e f = control e f (sort_of link text)

  -- ---- what goes out

  said_sizes : (cs : List Command) (q : PairState) (listening : List Listener) (older : List calls.Moment) → AreSizes listening → AllSizes older → AllSizes (commands_said peer stamp cs q listening older)
  said_sizes [] q listening older sizes h = h
  said_sizes (c ∷ cs) q listening older sizes h =
      said_sizes cs (with_connections q (command_gone peer stamp c (desk_of q listening))) listening (called (Says stamp c) q listening ∷ older) sizes ((tt, sizes), h)

  parcel_sizes : (x : Parcel) (q : PairState) (listening : List Listener) → AreSizes listening → AllSizes (parcel_calls peer stamp x q listening)
  parcel_sizes parcel.Reset q listening sizes = tt
  parcel_sizes parcel.Reply q listening sizes = tt
  parcel_sizes (parcel.Commands count) q listening sizes = said_sizes (take count q.queue) q listening [] sizes tt
  parcel_sizes (parcel.Bytes e size count) q listening sizes = ((tt, sizes), tt)

  next_sizes : (listening : List Listener) (o : Option (Peer × Parcel)) → AreSizes listening → AllSizes (next_calls peer stamp listening o)
  next_sizes listening None sizes = tt
  next_sizes listening (Some (g, x)) sizes = by (same_host peer g.host) where
    by : (d : Bool) → AllSizes (if d then parcel_calls peer stamp x g.pair listening else [])
    by true = parcel_sizes x g.pair listening sizes
    by false = tt

-- ---- what a user asks for

module _ (s : NcpState) (b : Host) (sizes : AreSizes s.listening) where
  if_sizes : (k : Call) → HasSize k → (c : Bool) → AllSizes (if c then called k (pair_with b s.peers) s.listening ∷ [] else [])
  if_sizes k is true = ((is, sizes), tt)
  if_sizes k is false = tt

  owner_sizes : (k : Entry → Call) → ((e : Entry) → HasSize (k e)) → (o : Option (Host × Entry)) → AllSizes (owner_calls b k (pair_with b s.peers) s.listening o)
  owner_sizes k is None = tt
  owner_sizes k is (Some (g, e)) = if_sizes (k e) (is e) (same_host b g)

  request_sizes : (r : Request) → refusal s r ≡ None → IsAsked r → AllSizes (request_calls b s r)
  unfolding refusal
  request_sizes (request.OpenSend peer own foreign size) may is =
      let first : (not (is_ready (pair_with peer s.peers).phase) ≡ false) × _ = not_first (not (is_ready (pair_with peer s.peers).phase)) _ _ may in
      let second : (not (is_send_socket own && is_receive_socket foreign) ≡ false) × _ = not_first (not (is_send_socket own && is_receive_socket foreign)) _ _ first.1 in
      let sized : IsTrue (is_byte_size size) = not_false (is_byte_size size) (not_first (not (is_byte_size size)) _ _ (not_first (is_taken s peer own foreign) _ _ second.1).1).0 in
      if_sizes (OpensSender own foreign size) (is_size size is.2 sized) (same_host b peer)
  request_sizes (request.OpenReceive peer own foreign) may is = if_sizes (OpensReceiver own foreign) tt (same_host b peer)
  request_sizes (request.Send socket bits) may is = owner_sizes (Gives socket bits) (λ e. tt) (owner_of socket s.peers)
  request_sizes (request.Grant socket messages bits) may is = owner_sizes (Grants socket messages bits) (λ e. tt) (owner_of socket s.peers)
  request_sizes (request.AskBack socket messages bits) may is = owner_sizes (AsksBack socket messages bits) (λ e. tt) (owner_of socket s.peers)
  request_sizes (request.Close socket) may is = by (listens_on socket s.listening) where
    by : (c : Bool) → AllSizes (if c then [] else owner_calls b (Closes socket) (pair_with b s.peers) s.listening (owner_of socket s.peers))
    by true = tt
    by false = owner_sizes (Closes socket) (λ e. tt) (owner_of socket s.peers)
  request_sizes r may is = tt

-- ---- moments

module _ (hosts : Network) (a b : Host) (ours : AreOurs hosts a b) (moments : List Moment)
    (ranged : IsRanged (program a moments)) where
  desk_ranged : DeskRanged (turn_of (program a moments) b)
  desk_ranged =
      let p : IsPair (pair_with b (program a moments).peers) = pair_range b (program a moments).peers ranged.pairs in
      record { ends = p.ends; commands = p.commands; sizes = ranged.sizes }

  calls_sizes : (x : Moment) → IsStory hosts (x ∷ moments) → MayHappen hosts.strange hosts.all x moments
      → AllSizes (calls_by a b x moments)
  calls_sizes (Crossed (crossing.Out m)) story happens = by (same_host a m.flow.source) where
    by : (d : Bool) → AllSizes (if d then next_calls b (places moments) (program a moments).listening (next_in (program a moments).peers) else [])
    by true =
        next_sizes b (places moments) (program a moments).listening (next_in (program a moments).peers) ranged.sizes
    by false = tt
  calls_sizes (Crossed (crossing.In m)) story happens = by (same_host a m.flow.destination && same_host b m.flow.source) refl where
    our : (same_host a m.flow.destination && same_host b m.flow.source) ≡ true
        → AreOurs hosts m.flow.source m.flow.destination
    our e =
        let two : (same_host a m.flow.destination ≡ true) × (same_host b m.flow.source ≡ true) = both (same_host a m.flow.destination) (same_host b m.flow.source) e in
        (plain_at hosts b m.flow.source two.1 ours.1, plain_at hosts a m.flow.destination two.0 ours.0)

    by : (d : Bool) → (same_host a m.flow.destination && same_host b m.flow.source) ≡ d → AllSizes (if d then message_calls b (places moments) m.flow.link.0 m.text (turn_of (program a moments) b) else [])
    by true e = message_sizes b (places moments) m.flow.link.0 m.text (turn_of (program a moments) b) (story.0 (our e)) desk_ranged
    by false e = tt
  calls_sizes (Crossed (crossing.Answer kind f)) story happens = by (same_host a f.source && same_host b f.destination) (is_busy (pair_with b (program a moments).peers).busy f.link.0) where
    by : (d e : Bool) → AllSizes (if d then (if e then called (calls.Answered f.link.0) (pair_with b (program a moments).peers) (program a moments).listening ∷ [] else []) else [])
    by true true = ((tt, ranged.sizes), tt)
    by true false = tt
    by false e = tt
  calls_sizes (Crossed (crossing.Down h)) story happens = tt
  calls_sizes (Crossed (crossing.Up h)) story happens = tt
  calls_sizes (Asked h r) story happens = by (same_host a h) refl where
    by : (d : Bool) → same_host a h ≡ d → AllSizes (if d then request_calls b (program a moments) r else [])
    by true e = request_sizes (program a moments) b ranged.sizes r (subst (λ (g : Host). refusal (program g moments) r ≡ None) (sym (same_host-true a h e)) (happens (plain_at hosts a h e ours.0)).2) (happens (plain_at hosts a h e ours.0)).3
    by false e = tt

own_sizes : (hosts : Network) → HaveAddresses hosts.all → (moments : List Moment) → mail.IsRun hosts.all (crossings_of moments) → Happened hosts moments → (a b : Host) → AreOurs hosts a b → AllSizes (own_calls a b moments)
own_sizes hosts addresses [] run time a b ours = tt
own_sizes hosts addresses (x ∷ moments) run time a b ours = by (own_sizes hosts addresses moments (mail_below hosts.all x moments run) time.1 a b ours) (keeps a b (event_in x) (events_of moments)) where
  now : AllSizes (calls_by a b x moments)
  now = calls_sizes hosts a b ours moments (programs_ranged hosts moments (served_in hosts moments time.1) a ours.0) x (coupled hosts addresses (x ∷ moments) run time).story time.0

  by : AllSizes (own_calls a b moments) → (k : Bool) → AllSizes (if k then calls_by a b x moments ++ own_calls a b moments else [])
  by old true = sizes_append (calls_by a b x moments) (own_calls a b moments) now old
  by old false = tt

-- the ends of a host know their byte sizes so
pub all_sized : (hosts : Network) → HaveAddresses hosts.all → (moments : List Moment) → mail.IsRun hosts.all (crossings_of moments) → Happened hosts moments → (a b : Host) → AreOurs hosts a b → AreSized (pair_with b (program a moments).peers).entries
all_sized hosts addresses moments run time a b ours =
    subst (λ (es : List Entry). AreSized es) (chain hosts addresses moments run time a b ours).1 (history_sized b (own_calls a b moments) (chain hosts addresses moments run time a b ours).0 (own_sizes hosts addresses moments run time a b ours))
