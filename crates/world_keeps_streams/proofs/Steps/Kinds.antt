-- What the calls of one moment do to a receiving end: a user closes it, commands are heard, or neither.
use Rattle.world_keeps_streams.proofs.Common.{◌≡◌, ◌⊎◌, inl, inr, ℕ, ◌==◌, ◌&&◌, Bool, true, false, if◌then◌else◌, List, [], ◌∷◌, ◌++◌, take, find, Option, Some, None, refl, sym, subst, ◌∙◌, eq-eqb, eqb-true, Host, same_host, Crossing, same_host-refl, same_host-true, Command, Order, Legal, Wrong, orders_of, desk_of, listens_on, is_busy, is_mine_on, PairState, Parcel, command_gone, with_connections, TurnState, order_taken, Entry, Listener, both, is_ready, turn_of, NcpState, owner_of, pair_with, next_in, Peer, Request, lives_at, Asked, Crossed, Moment, places, program}
use Rattle.host_keeps_streams.specs.Histories.{AreAllowed, Closes, HasClosed, Hears, Says, gone_now, name_now, numbered, Call}
use Rattle.host_keeps_streams.proofs.lemmas.{find_passes, numbered_tells}
use Rattle.world_keeps_streams.specs.Calls.{answer_calls, calls_by, commands_said, message_calls, next_calls, orders_heard, own_calls, owner_calls, parcel_calls, request_calls, called}
use Rattle.interface.specs.declared.crossing.Crossing.TheVariants as crossing
use Rattle.host_pairs.specs.Parcels as parcel
use Rattle.host_keeps_streams.specs.Histories as calls
use Rattle.sockets.specs.declared.request.Request.TheVariants as request
use Rattle.promise.specs.declared.life.Life.{Life}
use Rattle.world_keeps_streams.proofs.Lives.Fates.{IsClose}
use Rattle.world_keeps_streams.proofs.Steps.Overs.{AllHearNone, HearsNone}
use Rattle.world_keeps_streams.proofs.Steps.Unsaid.{AllHear}

-- ---- calls of which none closes an end

abbrev pub NoClose : Call → Type 0
NoClose (Closes socket e) = ⊥
NoClose k = Unit {0}

abbrev pub NoneClose : List calls.Moment → Type 0
NoneClose [] = Unit {0}
NoneClose (m ∷ ms) = NoClose m.call × NoneClose ms

not_closing : (name : ℕ → ℕ → ℕ) (link c : ℕ) (k : Call) → NoClose k → calls.IsClosing name link c k → ⊥
not_closing name link c (Closes socket e) n i = n
not_closing name link c k n i = i

closed_before : (peer : Host) (link c : ℕ) (more own : List calls.Moment) → NoneClose more → HasClosed numbered peer link c (more ++ own) → HasClosed numbered peer link c own
closed_before peer link c [] own n h = h
closed_before peer link c (m ∷ more) own n (inl here) = absurd (not_closing _ link c m.call n.0 here)
closed_before peer link c (m ∷ more) own n (inr older) = closed_before peer link c more own n.1 older

none_orders : (peer : Host) (stamp : ℕ) (orders : List Order) (t : TurnState) (older : List calls.Moment) → NoneClose older → NoneClose (orders_heard peer stamp orders t older)
none_orders peer stamp [] t older n = n
none_orders peer stamp (Legal c ∷ orders) t older n = none_orders peer stamp orders (order_taken peer stamp (Legal c) t) (called (Hears stamp 0 c) t.pair t.listening ∷ older) (tt, n)
none_orders peer stamp (Wrong code octets ∷ orders) t older n = none_orders peer stamp orders (order_taken peer stamp (Wrong code octets) t) older n

none_said : (peer : Host) (stamp : ℕ) (cs : List Command) (q : PairState) (listening : List Listener) (older : List calls.Moment) → NoneClose older → NoneClose (commands_said peer stamp cs q listening older)
none_said peer stamp [] q listening older n = n
none_said peer stamp (c ∷ cs) q listening older n =
    none_said peer stamp cs (with_connections q (command_gone peer stamp c (desk_of q listening))) listening (called (Says stamp c) q listening ∷ older) (tt, n)

pub none_if : (v : Bool) (xs ys : List calls.Moment) → NoneClose xs → NoneClose ys → NoneClose (if v then xs else ys)
none_if true xs ys n m = n
none_if false xs ys n m = m

none_message : (peer : Host) (stamp link : ℕ) (text : List Bool) (t : TurnState) → NoneClose (message_calls peer stamp link text t)
none_message peer stamp link text t =
    none_if (is_ready t.pair.phase) (if link == 0 then orders_heard peer stamp (orders_of text) t [] else called (calls.Takes link text) t.pair t.listening ∷ []) []
    (none_if (link == 0) (orders_heard peer stamp (orders_of text) t []) (called (calls.Takes link text) t.pair t.listening ∷ []) (none_orders peer stamp (orders_of text) t [] tt) (tt, tt)) tt

none_parcel : (peer : Host) (stamp : ℕ) (x : Parcel) (q : PairState) (listening : List Listener) → NoneClose (parcel_calls peer stamp x q listening)
none_parcel peer stamp parcel.Reset q listening = tt
none_parcel peer stamp parcel.Reply q listening = tt
none_parcel peer stamp (parcel.Commands count) q listening = none_said peer stamp (take count q.queue) q listening [] tt
none_parcel peer stamp (parcel.Bytes e size count) q listening = (tt, tt)

none_next : (peer : Host) (stamp : ℕ) (listening : List Listener) (o : Option (Peer × Parcel)) → NoneClose (next_calls peer stamp listening o)
none_next peer stamp listening None = tt
none_next peer stamp listening (Some (p, x)) = none_if (same_host peer p.host) (parcel_calls peer stamp x p.pair listening) [] (none_parcel peer stamp x p.pair listening) tt

pub none_crossed : (a b : Host) (c : Crossing) (ms : List Moment) → NoneClose (calls_by a b (Crossed c) ms)
none_crossed a b (crossing.Out m) ms =
    none_if (same_host a m.flow.source) (next_calls b (places ms) (program a ms).listening (next_in (program a ms).peers)) [] (none_next b (places ms) (program a ms).listening (next_in (program a ms).peers)) tt
none_crossed a b (crossing.In m) ms =
    none_if (same_host a m.flow.destination && same_host b m.flow.source) (message_calls b (places ms) m.flow.link.0 m.text (turn_of (program a ms) b)) []
    (none_message b (places ms) m.flow.link.0 m.text (turn_of (program a ms) b)) tt
none_crossed a b (crossing.Answer kind f) ms =
    none_if (same_host a f.source && same_host b f.destination) (answer_calls f.link.0 (pair_with b (program a ms).peers) (program a ms).listening) []
    (none_if (is_busy (pair_with b (program a ms).peers).busy f.link.0) (called (calls.Answered f.link.0) (pair_with b (program a ms).peers) (program a ms).listening ∷ []) [] (tt, tt) tt) tt
none_crossed a b (crossing.Down h) ms = tt
none_crossed a b (crossing.Up h) ms = tt

pub none_owner : (peer : Host) (call : Entry → Call) (q : PairState) (listening : List Listener)
    (o : Option (Host × Entry)) → ((e : Entry) → NoClose (call e)) → NoneClose (owner_calls peer call q listening o)
none_owner peer call q listening None n = tt
none_owner peer call q listening (Some (h, e)) n = none_if (same_host peer h) (called (call e) q listening ∷ []) [] (n e, tt) tt

-- ---- calls of one moment either hear commands, or none does

orders_hear : (peer : Host) (stamp : ℕ) (orders : List Order) (t : TurnState) (older : List calls.Moment) → AllHear older → AllHear (orders_heard peer stamp orders t older)
orders_hear peer stamp [] t older n = n
orders_hear peer stamp (Legal c ∷ orders) t older n = orders_hear peer stamp orders (order_taken peer stamp (Legal c) t) (called (Hears stamp 0 c) t.pair t.listening ∷ older) (tt, n)
orders_hear peer stamp (Wrong code octets ∷ orders) t older n = orders_hear peer stamp orders (order_taken peer stamp (Wrong code octets) t) older n

said_hear : (peer : Host) (stamp : ℕ) (cs : List Command) (q : PairState) (listening : List Listener) (older : List calls.Moment) → AllHearNone older → AllHearNone (commands_said peer stamp cs q listening older)
said_hear peer stamp [] q listening older n = n
said_hear peer stamp (c ∷ cs) q listening older n =
    said_hear peer stamp cs (with_connections q (command_gone peer stamp c (desk_of q listening))) listening (called (Says stamp c) q listening ∷ older) (tt, n)

hear_if : (v : Bool) (xs : List calls.Moment) → AllHearNone xs → AllHearNone (if v then xs else [])
hear_if true xs n = n
hear_if false xs n = tt

parcel_hears : (peer : Host) (stamp : ℕ) (x : Parcel) (q : PairState) (listening : List Listener) → AllHearNone (parcel_calls peer stamp x q listening)
parcel_hears peer stamp parcel.Reset q listening = tt
parcel_hears peer stamp parcel.Reply q listening = tt
parcel_hears peer stamp (parcel.Commands count) q listening = said_hear peer stamp (take count q.queue) q listening [] tt
parcel_hears peer stamp (parcel.Bytes e size count) q listening = (tt, tt)

next_hears : (peer : Host) (stamp : ℕ) (listening : List Listener) (o : Option (Peer × Parcel)) → AllHearNone (next_calls peer stamp listening o)
next_hears peer stamp listening None = tt
next_hears peer stamp listening (Some (p, x)) = hear_if _ _ (parcel_hears peer stamp x p.pair listening)

owner_hears : (peer : Host) (call : Entry → Call) (q : PairState) (listening : List Listener) (o : Option (Host × Entry)) → ((e : Entry) → HearsNone (call e)) → AllHearNone (owner_calls peer call q listening o)
owner_hears peer call q listening None n = tt
owner_hears peer call q listening (Some (h, e)) n = hear_if (same_host peer h) (called (call e) q listening ∷ []) (n e, tt)

request_hears : (b : Host) (s : NcpState) (q : Request) → AllHearNone (request_calls b s q)
request_hears b s (request.OpenSend host k foreign size) = hear_if (same_host b host) (called (calls.OpensSender k foreign size) (pair_with b s.peers) s.listening ∷ []) (tt, tt)
request_hears b s (request.OpenReceive host k foreign) = hear_if (same_host b host) (called (calls.OpensReceiver k foreign) (pair_with b s.peers) s.listening ∷ []) (tt, tt)
request_hears b s (request.Send socket bits) = owner_hears b (calls.Gives socket bits) (pair_with b s.peers) s.listening (owner_of socket s.peers) (λ e. tt)
request_hears b s (request.Grant socket m n) = owner_hears b (calls.Grants socket m n) (pair_with b s.peers) s.listening (owner_of socket s.peers) (λ e. tt)
request_hears b s (request.AskBack socket m n) = owner_hears b (calls.AsksBack socket m n) (pair_with b s.peers) s.listening (owner_of socket s.peers) (λ e. tt)
request_hears b s (request.Close socket) = by (listens_on socket s.listening) where
  by : (v : Bool) → AllHearNone (if v then [] else owner_calls b (Closes socket) (pair_with b s.peers) s.listening (owner_of socket s.peers))
  by true = tt
  by false = owner_hears b (Closes socket) (pair_with b s.peers) s.listening (owner_of socket s.peers) (λ e. tt)
request_hears b s q = tt

pub kinds : (a b : Host) (y : Moment) (ms : List Moment) → AllHearNone (calls_by a b y ms) ⊎ AllHear (calls_by a b y ms)
kinds a b (Crossed (crossing.Out m)) ms =
    inl (hear_if (same_host a m.flow.source) (next_calls b (places ms) (program a ms).listening (next_in (program a ms).peers)) (next_hears b (places ms) (program a ms).listening (next_in (program a ms).peers)))
kinds a b (Crossed (crossing.In m)) ms = at (same_host a m.flow.destination && same_host b m.flow.source) where
  on : (v : Bool) → AllHearNone (if v then orders_heard b (places ms) (orders_of m.text) (turn_of (program a ms) b) [] else called (calls.Takes m.flow.link.0 m.text) (pair_with b (program a ms).peers) (program a ms).listening ∷ [])
      ⊎ AllHear (if v then orders_heard b (places ms) (orders_of m.text) (turn_of (program a ms) b) [] else called (calls.Takes m.flow.link.0 m.text) (pair_with b (program a ms).peers) (program a ms).listening ∷ [])
  on true = inr (orders_hear b (places ms) (orders_of m.text) (turn_of (program a ms) b) [] tt)
  on false = inl (tt, tt)

  ready : (v : Bool)
      → AllHearNone (if v then (if m.flow.link.0 == 0 then orders_heard b (places ms) (orders_of m.text) (turn_of (program a ms) b) [] else called (calls.Takes m.flow.link.0 m.text) (pair_with b (program a ms).peers) (program a ms).listening ∷ []) else [])
      ⊎ AllHear (if v then (if m.flow.link.0 == 0 then orders_heard b (places ms) (orders_of m.text) (turn_of (program a ms) b) [] else called (calls.Takes m.flow.link.0 m.text) (pair_with b (program a ms).peers) (program a ms).listening ∷ []) else [])
  ready true = on (m.flow.link.0 == 0)
  ready false = inl tt

  at : (v : Bool) → AllHearNone (if v then message_calls b (places ms) m.flow.link.0 m.text (turn_of (program a ms) b) else []) ⊎ AllHear (if v then message_calls b (places ms) m.flow.link.0 m.text (turn_of (program a ms) b) else [])
  at true = ready (is_ready (pair_with b (program a ms).peers).phase)
  at false = inl tt
kinds a b (Crossed (crossing.Answer kind f)) ms =
    inl
    (hear_if (same_host a f.source && same_host b f.destination) (answer_calls f.link.0 (pair_with b (program a ms).peers) (program a ms).listening)
    (hear_if (is_busy (pair_with b (program a ms).peers).busy f.link.0) (called (calls.Answered f.link.0) (pair_with b (program a ms).peers) (program a ms).listening ∷ []) (tt, tt)))
kinds a b (Crossed (crossing.Down h)) ms = inl tt
kinds a b (Crossed (crossing.Up h)) ms = inl tt
kinds a b (Asked h q) ms = inl (hear_if (same_host a h) (request_calls b (program a ms) q) (request_hears b (program a ms) q))

-- ---- a user who closes the end of a life

module _ (a b : Host) (ms : List Moment) (x : Life) (host : x.host ≡ a) (goes : x.ended ≡ false) (g link : ℕ) where
  abbrev c : ℕ
  c = numbered x.socket x.foreign g

  abbrev own : List calls.Moment
  own = own_calls a b ms

  -- that of its socket
  closes_it : (h : Host) (socket : ℕ) (e : Entry) → same_host a h ≡ true → find (is_mine_on socket) (pair_with b (program a ms).peers).entries ≡ Some e
      → calls.IsClosing (name_now numbered b (own_calls a b ms)) link (numbered x.socket x.foreign g) (Closes socket e) → lives_at h socket x ≡ true
  closes_it h socket e same found i =
      let mine : (e.mine && e.own == socket) ≡ true = find_passes (is_mine_on socket) e (pair_with b (program a ms).peers).entries found in
      let at : e.own ≡ socket = eqb-true e.own socket (both e.mine (e.own == socket) mine).1 in
      let is : e.own ≡ x.socket = numbered_tells.own e.own e.foreign (gone_now b (own_calls a b ms) e.own e.foreign) x.socket x.foreign g i.1 in
      let here : same_host h x.host ≡ true = subst (λ (v : Host). same_host h v ≡ true) (sym (host ∙ same_host-true a h same)) (same_host-refl h) in
      let socket_is : (x.socket == socket) ≡ true = eq-eqb x.socket socket (sym is ∙ at) in
      rw (here, socket_is, goes) refl

  pub closed_by : (y : Moment) → AreAllowed numbered b link (calls_by a b y ms ++ own_calls a b ms) → (IsClose y x → ⊥) → HasClosed numbered b link (numbered x.socket x.foreign g) (calls_by a b y ms ++ own_calls a b ms)
      → HasClosed numbered b link (numbered x.socket x.foreign g) (own_calls a b ms)
  closed_by (Crossed k) allowed none h = closed_before b link (numbered x.socket x.foreign g) (calls_by a b (Crossed k) ms) (own_calls a b ms) (none_crossed a b k ms) h
  closed_by (Asked h r) allowed none i = by (same_host a h) refl allowed i where
    Closed : List calls.Moment → Type 0
    Closed more = HasClosed numbered b link (numbered x.socket x.foreign g) (more ++ own_calls a b ms)

    plain : (more : List calls.Moment) → NoneClose more → Closed more → HasClosed numbered b link (numbered x.socket x.foreign g) (own_calls a b ms)
    plain more n j = closed_before b link (numbered x.socket x.foreign g) more (own_calls a b ms) n j

    close_one : (socket : ℕ) (v : Bool) (e : Entry) → same_host a h ≡ true → ((lives_at h socket x ≡ true) → ⊥)
        → AreAllowed numbered b link ((if v then called (Closes socket e) (pair_with b (program a ms).peers) (program a ms).listening ∷ [] else []) ++ own_calls a b ms)
        → Closed (if v then called (Closes socket e) (pair_with b (program a ms).peers) (program a ms).listening ∷ [] else []) → HasClosed numbered b link (numbered x.socket x.foreign g) (own_calls a b ms)
    close_one socket true e same none may (inl here) = absurd (none (closes_it h socket e same may.0.0 here))
    close_one socket true e same none may (inr older) = older
    close_one socket false e same none may j = j

    close_owner : (socket : ℕ) (o : Option (Host × Entry)) → same_host a h ≡ true → ((lives_at h socket x ≡ true) → ⊥)
        → AreAllowed numbered b link (owner_calls b (Closes socket) (pair_with b (program a ms).peers) (program a ms).listening o ++ own_calls a b ms)
        → Closed (owner_calls b (Closes socket) (pair_with b (program a ms).peers) (program a ms).listening o) → HasClosed numbered b link (numbered x.socket x.foreign g) (own_calls a b ms)
    close_owner socket None same none may j = j
    close_owner socket (Some (k, e)) same none may j = close_one socket (same_host b k) e same none may j

    close_listens : (socket : ℕ) (v : Bool) → same_host a h ≡ true → ((lives_at h socket x ≡ true) → ⊥)
        → AreAllowed numbered b link ((if v then [] else owner_calls b (Closes socket) (pair_with b (program a ms).peers) (program a ms).listening (owner_of socket (program a ms).peers)) ++ own_calls a b ms)
        → Closed (if v then [] else owner_calls b (Closes socket) (pair_with b (program a ms).peers) (program a ms).listening (owner_of socket (program a ms).peers)) → HasClosed numbered b link (numbered x.socket x.foreign g) (own_calls a b ms)
    close_listens socket true same none may j = j
    close_listens socket false same none may j = close_owner socket (owner_of socket (program a ms).peers) same none may j

    of_request : (q : Request) → same_host a h ≡ true → (IsClose (Asked h q) x → ⊥) → AreAllowed numbered b link (request_calls b (program a ms) q ++ own_calls a b ms) → Closed (request_calls b (program a ms) q)
        → HasClosed numbered b link (numbered x.socket x.foreign g) (own_calls a b ms)
    of_request (request.Close socket) same none may j = close_listens socket (listens_on socket (program a ms).listening) same none may j
    of_request (request.OpenSend host k foreign size) same none may j =
        plain (request_calls b (program a ms) (request.OpenSend host k foreign size))
        (none_if (same_host b host) (called (calls.OpensSender k foreign size) (pair_with b (program a ms).peers) (program a ms).listening ∷ []) [] (tt, tt) tt) j
    of_request (request.OpenReceive host k foreign) same none may j =
        plain (request_calls b (program a ms) (request.OpenReceive host k foreign))
        (none_if (same_host b host) (called (calls.OpensReceiver k foreign) (pair_with b (program a ms).peers) (program a ms).listening ∷ []) [] (tt, tt) tt) j
    of_request (request.Send socket bits) same none may j =
        plain (request_calls b (program a ms) (request.Send socket bits)) (none_owner b (calls.Gives socket bits) (pair_with b (program a ms).peers) (program a ms).listening (owner_of socket (program a ms).peers) (λ e. tt)) j
    of_request (request.Grant socket m n) same none may j =
        plain (request_calls b (program a ms) (request.Grant socket m n)) (none_owner b (calls.Grants socket m n) (pair_with b (program a ms).peers) (program a ms).listening (owner_of socket (program a ms).peers) (λ e. tt)) j
    of_request (request.AskBack socket m n) same none may j =
        plain (request_calls b (program a ms) (request.AskBack socket m n)) (none_owner b (calls.AsksBack socket m n) (pair_with b (program a ms).peers) (program a ms).listening (owner_of socket (program a ms).peers) (λ e. tt)) j
    of_request q same none may j = j

    by : (v : Bool) → same_host a h ≡ v → AreAllowed numbered b link ((if v then request_calls b (program a ms) r else []) ++ own_calls a b ms) → Closed (if v then request_calls b (program a ms) r else [])
        → HasClosed numbered b link (numbered x.socket x.foreign g) (own_calls a b ms)
    by true e may j = of_request r e none may j
    by false e may j = j
