-- An RTS that waits to go out names the link of its end, whatever the peer says.
use Rattle.mixed_worlds.proofs.Common.{◌≡◌, ℕ, ◌*◌, ◌==◌, ◌&&◌, Bool, true, false, not, if◌then◌else◌, List, [], ◌∷◌, ◌++◌, map, take, drop, Option, Some, None, is_some, refl, ap, sym, subst, ◌∙◌, eq-eqb, Host, same_host, Flow, Answer, same_host-true, or_false, is_receive_socket, is_send_socket, is_ready, Command, DeskState, desk_of, listens_on, PairState, Entry, Peer, Request, HasSome, Ask, Mark, Listener, mark_of, marks, accepted, AreInOrder}
use Rattle.host_pairs.specs.Entries.{is_mine_on, changed_first, entry_at, free_link, is_at, is_receiving, receiving_end, sending_end, called_off}
use Rattle.host_pairs.specs.Parcels.{Parcel, asked_at, bits_gone, cls_sent, command_gone, commands_gone, may_send_on, pair_after, parcel_gone, link_of}
use Rattle.sockets.specs.Pairs.{NcpState, pair_with, with_pair, owner_of}
use Rattle.sockets.specs.Sending.{next_in, offered_by, offered}
use Rattle.std.proofs.lemmas.List.Elements.{All-append, All-cons, All-filter, All-head, All-map, All-nil, All-tail, All-weaker, All-drop}
use Rattle.host_pairs.specs.Commands.{changed, granted}
use Rattle.sockets.proofs.lemmas.{answer_leaves, next_pair, not_first, others_stay}
use Rattle.std.specs.Prelude.{All}
use Rattle.interface.specs.declared.crossing.Inbound.TheVariants as inbound
use Rattle.ncp_control.specs.declared.command.Command.TheVariants as command
use Rattle.host_pairs.specs.Asked.{closed_end, commanded, contacted, interrupt_of, receiver_requested, requested, with_end, with_more_bits}
use Rattle.host_pairs.specs.Parcels as parcel
use Rattle.host_keeps_pairing.proofs.lemmas.{peer_here}
use Rattle.sockets.specs.Requests.{at_owner, closed_socket, is_taken, is_used, refusal, served}
use Rattle.sockets.specs.declared.request.Request.TheVariants as request
use Rattle.mixed_worlds.proofs.Steps.{AreMute, IsMute, IsSame, Steps, answer_step, no_words, settles, sweeps}

-- ---- what waits of an end

-- an RTS of an end names its link
abbrev pub Fits : Entry → Command → Type 0
Fits e c = (link : ℕ) → c ≡ command.Rts e.own e.foreign link → is_receive_socket e.own ≡ true → e.link ≡ Some link

-- each that waits does
abbrev pub AreFitting : List Command → List Entry → Type 0
AreFitting queue es = All (λ e. All (Fits e) queue) es

-- an end that keeps its sockets, and its link if it receives
pub record Keeps (e f : Entry) : Type 0 where
  pub own : f.own ≡ e.own
  pub foreign : f.foreign ≡ e.foreign
  pub link : is_receive_socket e.own ≡ true → f.link ≡ e.link

pub keeps_fit : (e f : Entry) (queue : List Command) → Keeps e f → All (Fits e) queue → All (Fits f) queue
keeps_fit e f queue k all = All-weaker (Fits e) (Fits f) one queue all where
  one : (c : Command) → Fits e c → Fits f c
  one c fits link is even =
      let kind : is_receive_socket e.own ≡ true = ap is_receive_socket (sym k.own) ∙ even in
      let same : c ≡ command.Rts e.own e.foreign link = is ∙ ap (λ (n : ℕ). command.Rts n f.foreign link) k.own
      ∙ ap (λ (n : ℕ). command.Rts e.own n link) k.foreign in
      k.link kind ∙ fits link same kind

pub all_changed : {A : Type 0} (P : A → Type 0) (test : A → Bool) (change : A → A) (xs : List A)
    → ((x : A) → test x ≡ true → P x → P (change x)) → All P xs → All P (changed_first test change xs)
all_changed P test change [] k h = All-nil P
all_changed P test change (x ∷ xs) k h = by (test x) refl (all_changed P test change xs k (All-tail P x xs h)) where
  by : (b : Bool) → test x ≡ b → All P (changed_first test change xs)
      → All P (if b then change x ∷ xs else x ∷ changed_first test change xs)
  by true t rest = All-cons P (change x) xs (k x t (All-head P x xs h)) (All-tail P x xs h)
  by false t rest = All-cons P x (changed_first test change xs) (All-head P x xs h) rest

one_keeps : (queue : List Command) (test : Entry → Bool) (change : Entry → Entry) (es : List Entry)
    → ((e : Entry) → test e ≡ true → Keeps e (change e)) → AreFitting queue es
    → AreFitting queue (changed_first test change es)
one_keeps queue test change es k h = all_changed (λ e. All (Fits e) queue) test change es
    (λ e t fit. keeps_fit e (change e) queue (k e t) fit) h

all_keep : (queue : List Command) (change : Entry → Entry) (es : List Entry) → ((e : Entry) → Keeps e (change e))
    → AreFitting queue es → AreFitting queue (map change es)
all_keep queue change es k h = All-map (λ e. All (Fits e) queue) change es
    (All-weaker (λ e. All (Fits e) queue) (λ e. All (Fits (change e)) queue)
    (λ e fit. keeps_fit e (change e) queue (k e) fit) es h)

-- ---- what is queued

mute_fits : (e : Entry) (cs : List Command) → AreMute cs → All (Fits e) cs
mute_fits e [] m = All-nil (Fits e)
mute_fits e (c ∷ cs) m = All-cons (Fits e) c cs (λ link is even. absurd (subst IsMute is m.0)) (mute_fits e cs m.1)

more_mute : (queue cs : List Command) (es : List Entry) → AreMute cs → AreFitting queue es
    → AreFitting (queue ++ cs) es
more_mute queue cs es m h = All-weaker (λ e. All (Fits e) queue) (λ e. All (Fits e) (queue ++ cs))
    (λ e fit. All-append (Fits e) queue cs fit (mute_fits e cs m)) es h

-- where nothing waits for two sockets
none_first : (ms ns : List Mark) → ms ++ ns ≡ [] → (ms ≡ []) × (ns ≡ [])
none_first [] ns e = (refl, e)
none_first (m ∷ ms) ns e = absurd (let clash : m ∷ ms ++ ns ≡ [] = e in cc)

silent_fits : (e : Entry) (queue : List Command) → marks 0 e.own e.foreign queue ≡ [] → All (Fits e) queue
silent_fits e [] none = All-nil (Fits e)
silent_fits e (c ∷ cs) none =
    let parts : (mark_of 0 e.own e.foreign c ≡ []) × (marks 0 e.own e.foreign cs ≡ []) = none_first
    (mark_of 0 e.own e.foreign c) (marks 0 e.own e.foreign cs) none in
    All-cons (Fits e) c cs
    (λ link is even. absurd (spoken link (ap (mark_of 0 e.own e.foreign) (sym is) ∙ parts.0)))
    (silent_fits e cs parts.1) where
      spoken : (link : ℕ) → mark_of 0 e.own e.foreign (command.Rts e.own e.foreign link) ≡ [] → ⊥
      spoken link none =
          let here : (e.own == e.own && e.foreign == e.foreign) ≡ true = rw
          (eq-eqb e.own e.own refl, eq-eqb e.foreign e.foreign refl) refl in
          let clash : Ask 0 ∷ [] ≡ [] = sym (ap (λ (b : Bool). if b then Ask 0 ∷ [] else []) here) ∙ none in cc

joined_fits : (e : Entry) (queue : List Command) (es : List Entry) → marks 0 e.own e.foreign queue ≡ []
    → AreFitting queue es → AreFitting queue (es ++ e ∷ [])
joined_fits e queue es none h = All-append (λ x. All (Fits x) queue) es (e ∷ []) h
    (All-cons (λ x. All (Fits x) queue) e [] (silent_fits e queue none) (All-nil (λ x. All (Fits x) queue)))

-- a new end's own request
same_parts : (a b l c d k : ℕ) → command.Rts a b l ≡ command.Rts c d k → (a ≡ c) × (b ≡ d) × (l ≡ k)
same_parts a b l c d k e = (cc, cc, cc)

apart : (e : Entry) (link : ℕ) (es : List Entry) → entry_at e.own e.foreign es ≡ None
    → All (λ x. Fits x (command.Rts e.own e.foreign link)) es
apart e link [] none = All-nil (λ x. Fits x (command.Rts e.own e.foreign link))
apart e link (x ∷ es) none = by (is_at e.own e.foreign x) refl none (apart e link es) where
  by : (b : Bool) → is_at e.own e.foreign x ≡ b
      → (if b then Some x else entry_at e.own e.foreign es) ≡ None
      → (entry_at e.own e.foreign es ≡ None → All (λ y. Fits y (command.Rts e.own e.foreign link)) es)
      → All (λ y. Fits y (command.Rts e.own e.foreign link)) (x ∷ es)
  by true t n rest = absurd (let clash : Some x ≡ None = n in cc)
  by false t n rest = All-cons (λ y. Fits y (command.Rts e.own e.foreign link)) x es
      (λ l is even.
      (let p : (e.own ≡ x.own) × (e.foreign ≡ x.foreign) × (link ≡ l) = same_parts e.own e.foreign link x.own
      x.foreign l is in
      let here : is_at e.own e.foreign x ≡ true = rw
      (eq-eqb x.own e.own (sym p.0), eq-eqb x.foreign e.foreign (sym p.1)) refl in
      let clash : true ≡ false = sym here ∙ t in absurd (cc)))
      (rest n)

requested_fits : (e : Entry) (link : ℕ) (queue : List Command) (es : List Entry) → e.link ≡ Some link
    → entry_at e.own e.foreign es ≡ None → marks 0 e.own e.foreign queue ≡ [] → AreFitting queue es
    → AreFitting (queue ++ command.Rts e.own e.foreign link ∷ []) (es ++ e ∷ [])
requested_fits e link queue es linked none silent h =
    All-append (λ x. All (Fits x) (queue ++ command.Rts e.own e.foreign link ∷ [])) es (e ∷ []) (old es none h)
    (All-cons (λ x. All (Fits x) (queue ++ command.Rts e.own e.foreign link ∷ [])) e []
    (All-append (Fits e) queue (command.Rts e.own e.foreign link ∷ []) (silent_fits e queue silent)
    (All-cons (Fits e) (command.Rts e.own e.foreign link) [] own (All-nil (Fits e))))
    (All-nil (λ x. All (Fits x) (queue ++ command.Rts e.own e.foreign link ∷ [])))) where
      own : Fits e (command.Rts e.own e.foreign link)
      own l is even = linked ∙ ap (λ (n : ℕ). Some n)
          (same_parts e.own e.foreign link e.own e.foreign l is).2

      one : (x : Entry) → Fits x (command.Rts e.own e.foreign link) → All (Fits x) queue
          → All (Fits x) (queue ++ command.Rts e.own e.foreign link ∷ [])
      one x fits all = All-append (Fits x) queue (command.Rts e.own e.foreign link ∷ []) all
          (All-cons (Fits x) (command.Rts e.own e.foreign link) [] fits (All-nil (Fits x)))

      old : (es : List Entry) → entry_at e.own e.foreign es ≡ None → AreFitting queue es
          → AreFitting (queue ++ command.Rts e.own e.foreign link ∷ []) es
      old es none h = both_so es (apart e link es none) h where
        both_so : (xs : List Entry) → All (λ x. Fits x (command.Rts e.own e.foreign link)) xs → AreFitting queue xs
            → AreFitting (queue ++ command.Rts e.own e.foreign link ∷ []) xs
        both_so [] a b = All-nil (λ x. All (Fits x) (queue ++ command.Rts e.own e.foreign link ∷ []))
        both_so (x ∷ xs) a b = All-cons (λ y. All (Fits y) (queue ++ command.Rts e.own e.foreign link ∷ [])) x xs
            (one x (All-head (λ y. Fits y (command.Rts e.own e.foreign link)) x xs a)
            (All-head (λ y. All (Fits y) queue) x xs b))
            (both_so xs (All-tail (λ y. Fits y (command.Rts e.own e.foreign link)) x xs a)
            (All-tail (λ y. All (Fits y) queue) x xs b))

-- ---- what comes in

abbrev pub DeskFits : DeskState → Type 0
DeskFits d = AreFitting d.queue d.entries

same_keeps : (e f : Entry) → IsSame e f → Keeps e f
same_keeps e f s = record { own = s.own; foreign = s.foreign; link = λ even. s.link }

pub steps : (peer : Host) (stamp : ℕ) → Steps peer stamp DeskFits
steps peer stamp = record {
  queued = λ cs d mute h. more_mute d.queue cs d.entries mute h;
  told = λ ns d none h. h;
  kept = λ keep d h. All-filter keep (λ e. All (Fits e) d.queue) d.entries h;
  one = λ test change d same h. one_keeps d.queue test change d.entries
      (λ e t. same_keeps e (change e) (same e)) h;
  all = λ change d same h. all_keep d.queue change d.entries (λ e. same_keeps e (change e) (same e)) h;
  refuses = λ e d other none v h. joined_fits e d.queue d.entries v.silent h;
  joins = λ e l d begun listens v h. joined_fits e d.queue d.entries v.silent h;
  requests = λ e link l d begun linked listens v h.
      requested_fits e link d.queue d.entries linked v.none v.silent h;
  matches = λ own foreign e change d found none s is h.
      one_keeps d.queue (is_at own foreign) change d.entries
      (λ x here. record { own = (is x here).own; foreign = (is x here).foreign; link = (is x here).link }) h;
  clears = λ d h. All-nil (λ e. All (Fits e) []);
}

-- a pair's
abbrev pub PairFits : PairState → Type 0
PairFits q = AreFitting q.queue q.entries

-- ---- what a user asks for

kept_pair : (g h : Host) (q : PairState) (peers : List Peer) → PairFits (pair_with h peers)
    → (PairFits (pair_with g peers) → PairFits q) → PairFits (pair_with h (with_pair g q peers))
kept_pair g h q peers p work = by (same_host h g) refl where
  by : (b : Bool) → same_host h g ≡ b → PairFits (pair_with h (with_pair g q peers))
  by true e = peer_here PairFits g h q peers e
      (work (subst (λ (x : Host). PairFits (pair_with x peers)) (same_host-true h g e) p))
  by false e = subst PairFits (sym (others_stay g h q peers e)) p

commanded_fits : (c : Command) (q : PairState) → IsMute c → PairFits q → PairFits (commanded c q)
commanded_fits c q mute h = more_mute q.queue (c ∷ []) q.entries (mute, tt) h

end_fits : (socket : ℕ) (change : Entry → Entry) (q : PairState) → ((e : Entry) → Keeps e (change e)) → PairFits q
    → PairFits (with_end socket change q)
end_fits socket change q k h = one_keeps q.queue (is_mine_on socket) change q.entries (λ e t. k e) h

owner_fits : (s : NcpState) (o : Option (Host × Entry)) (change : Entry → PairState → PairState) (h : Host)
    → ((e : Entry) (q : PairState) → PairFits q → PairFits (change e q)) → PairFits (pair_with h s.peers)
    → PairFits (pair_with h (at_owner s o change).peers)
owner_fits s None change h work k = k
owner_fits s (Some (g, e)) change h work k = kept_pair g h (change e (pair_with g s.peers)) s.peers k
    (work e (pair_with g s.peers))

closed_fits : (socket : ℕ) (q : PairState) → PairFits q → PairFits (closed_end socket q)
closed_fits socket q h =
    settles (record { imp = 0; host = 0 }) 0 DeskFits (steps (record { imp = 0; host = 0 }) 0) q.busy
    (desk_of (with_end socket called_off q) [])
    (end_fits socket called_off q (λ e. record { own = refl; foreign = refl; link = λ even. refl }) h)

close_fits : (s : NcpState) (socket : ℕ) (h : Host) → PairFits (pair_with h s.peers) → (b : Bool)
    → listens_on socket s.listening ≡ b → PairFits (pair_with h (closed_socket s socket).peers)
close_fits s socket h k true e = rw e k
close_fits s socket h k false e = rw e
    (owner_fits s (owner_of socket s.peers) (λ y. closed_end socket) h (λ y q. closed_fits socket q) k)

untaken : (s : NcpState) (peer : Host) (a b : ℕ) → is_taken s peer a b ≡ false
    → entry_at a b (pair_with peer s.peers).entries ≡ None
untaken s peer a b e = none (entry_at a b (pair_with peer s.peers).entries)
    (or_false (is_used s a) (is_some (entry_at a b (pair_with peer s.peers).entries)) e).1 where
      none : (o : Option Entry) → is_some o ≡ false → o ≡ None
      none None f = refl
      none (Some x) f = absurd (let clash : true ≡ false = f in cc)

mute_interrupt : (e : Entry) → IsMute (interrupt_of e)
mute_interrupt e = by (is_receiving e) where
  by : (b : Bool) → IsMute (if b then command.Inr (link_of e.link) else command.Ins (link_of e.link))
  by true = tt
  by false = tt

-- in a host each two sockets have some end with each peer
abbrev pub AreSound : NcpState → Type 0
AreSound s = (own foreign : ℕ) (p : Host) → HasSome (λ n. n) own foreign (pair_with p s.peers)

silent_for : (s : NcpState) (p : Host) (own foreign : ℕ) → AreSound s
    → entry_at own foreign (pair_with p s.peers).entries ≡ None
    → marks 0 own foreign (pair_with p s.peers).queue ≡ []
silent_for s p own foreign sound none =
    let h : HasSome (λ n. n) own foreign (pair_with p s.peers) = sound own foreign p in
    (no_words own foreign (desk_of (pair_with p s.peers) []) none (record { x = h.x; on = h.has.ends })).silent

sender_fits : (own foreign size : ℕ) (q : PairState) → marks 0 own foreign q.queue ≡ [] → PairFits q
    → PairFits (requested (sending_end own foreign size) (command.Str own foreign size) q)
sender_fits own foreign size q silent h =
    more_mute q.queue (command.Str own foreign size ∷ []) (q.entries ++ sending_end own foreign size ∷ []) (tt, tt)
    (joined_fits (sending_end own foreign size) q.queue q.entries silent h)

receiver_fits : (own foreign : ℕ) (o : Option ℕ) (q : PairState) → entry_at own foreign q.entries ≡ None
    → marks 0 own foreign q.queue ≡ [] → PairFits q → PairFits (receiver_requested own foreign o q)
receiver_fits own foreign None q none silent h = h
receiver_fits own foreign (Some link) q none silent h = requested_fits (receiving_end own foreign link) link q.queue
    q.entries refl none silent h

pub request_fits : (s : NcpState) (r : Request) (h : Host) → refusal s r ≡ None → AreSound s
    → PairFits (pair_with h s.peers) → PairFits (pair_with h (served s r).peers)
unfolding served refusal
request_fits s (request.Contact peer) h ok sound k = kept_pair peer h (contacted (pair_with peer s.peers)) s.peers k
    (λ q. All-nil (λ e. All (Fits e) []))
request_fits s (request.Listen socket size) h ok sound k = k
request_fits s (request.OpenSend peer mine yours size) h ok sound k =
    let none : entry_at mine yours (pair_with peer s.peers).entries ≡ None = untaken s peer mine yours
    (not_first (is_taken s peer mine yours) _ _
    (not_first (not (is_send_socket mine && is_receive_socket yours)) _ _
    (not_first (not (is_ready (pair_with peer s.peers).phase)) _ _ ok).1).1).0 in
    kept_pair peer h (requested (sending_end mine yours size) (command.Str mine yours size) (pair_with peer s.peers))
    s.peers k (sender_fits mine yours size (pair_with peer s.peers) (silent_for s peer mine yours sound none))
request_fits s (request.OpenReceive peer mine yours) h ok sound k =
    let none : entry_at mine yours (pair_with peer s.peers).entries ≡ None = untaken s peer mine yours
    (not_first (is_taken s peer mine yours) _ _
    (not_first (not (is_receive_socket mine && is_send_socket yours)) _ _
    (not_first (not (is_ready (pair_with peer s.peers).phase)) _ _ ok).1).1).0 in
    kept_pair peer h
    (receiver_requested mine yours (free_link (pair_with peer s.peers).entries) (pair_with peer s.peers)) s.peers k
    (receiver_fits mine yours (free_link (pair_with peer s.peers).entries) (pair_with peer s.peers) none
    (silent_for s peer mine yours sound none))
request_fits s (request.Send socket bits) h ok sound k = owner_fits s (owner_of socket s.peers)
    (λ e. with_end socket (with_more_bits bits)) h
    (λ e q. end_fits socket (with_more_bits bits) q
    (λ y. record { own = refl; foreign = refl; link = λ even. refl })) k
request_fits s (request.Grant socket messages bits) h ok sound k = owner_fits s (owner_of socket s.peers)
    (λ e q. commanded (command.All (link_of e.link) messages bits) (with_end socket (granted messages bits) q)) h
    (λ e q j. commanded_fits (command.All (link_of e.link) messages bits) (with_end socket (granted messages bits) q) tt
    (end_fits socket (granted messages bits) q (λ y. record { own = refl; foreign = refl; link = λ even. refl }) j)) k
request_fits s (request.AskBack socket messages bits) h ok sound k = owner_fits s (owner_of socket s.peers)
    (λ e. commanded (command.Gvb (link_of e.link) messages bits)) h
    (λ e q. commanded_fits (command.Gvb (link_of e.link) messages bits) q tt) k
request_fits s (request.Interrupt socket) h ok sound k = owner_fits s (owner_of socket s.peers)
    (λ e. commanded (interrupt_of e)) h (λ e q. commanded_fits (interrupt_of e) q (mute_interrupt e)) k
request_fits s (request.Close socket) h ok sound k = close_fits s socket h k (listens_on socket s.listening) refl
request_fits s (request.Echo peer octet) h ok sound k =
    kept_pair peer h (commanded (command.Eco octet) (pair_with peer s.peers)) s.peers k
    (commanded_fits (command.Eco octet) (pair_with peer s.peers) tt)

-- ---- what is answered

pub answer_fits : (s : NcpState) (kind : Answer) (f : Flow) (stamp : ℕ) (h : Host) → PairFits (pair_with h s.peers)
    → PairFits (pair_with h (accepted s (inbound.Answer kind f) stamp).0.peers)
answer_fits s kind f stamp h k = by (same_host h f.destination) refl where
  by : (b : Bool) → same_host h f.destination ≡ b
      → PairFits (pair_with h (accepted s (inbound.Answer kind f) stamp).0.peers)
  by true e =
      let same : h ≡ f.destination = same_host-true h f.destination e in
      subst (λ (g : Host). PairFits (pair_with g (accepted s (inbound.Answer kind f) stamp).0.peers)) (sym same)
      (answer_step s kind f stamp DeskFits (steps f.destination stamp)
      (subst (λ (g : Host). PairFits (pair_with g s.peers)) same k))
  by false e = subst PairFits (sym (answer_leaves s kind f stamp h e)) k

-- ---- what goes out

module _ (peer : Host) (stamp : ℕ) where
  gone_fits : (c : Command) (d : DeskState) → DeskFits d → DeskFits (command_gone peer stamp c d)
  gone_fits (command.Rts receive send link) d h = one_keeps d.queue (is_at receive send) (asked_at stamp) d.entries
      (λ e t. record { own = refl; foreign = refl; link = λ even. refl }) h
  gone_fits (command.Str send receive size) d h = one_keeps d.queue (is_at send receive) (asked_at stamp) d.entries
      (λ e t. record { own = refl; foreign = refl; link = λ even. refl }) h
  gone_fits (command.Cls own foreign) d h = sweeps peer stamp DeskFits (steps peer stamp)
      (changed (is_at own foreign) cls_sent d)
      (one_keeps d.queue (is_at own foreign) cls_sent d.entries
      (λ e t. record { own = refl; foreign = refl; link = λ even. refl }) h)
  gone_fits c d h = h

  all_gone_fit : (cs : List Command) (d : DeskState) → DeskFits d → DeskFits (commands_gone peer stamp cs d)
  all_gone_fit [] d h = h
  all_gone_fit (c ∷ cs) d h = all_gone_fit cs (command_gone peer stamp c d) (gone_fits c d h)

  parcel_fits : (x : Parcel) (q : PairState) (listening : List Listener) → PairFits q
      → PairFits (pair_after x q (parcel_gone peer stamp q.busy x (desk_of q listening)))
  parcel_fits parcel.Reset q listening h = h
  parcel_fits parcel.Reply q listening h = h
  parcel_fits (parcel.Commands count) q listening h =
      let d : DeskState = commands_gone peer stamp (take count q.queue) (desk_of q listening) in
      All-weaker (λ e. All (Fits e) d.queue) (λ e. All (Fits e) (drop count d.queue))
      (λ e fit. All-drop (Fits e) count d.queue fit) d.entries
      (all_gone_fit (take count q.queue) (desk_of q listening) h)
  parcel_fits (parcel.Bytes e size count) q listening h = one_keeps q.queue (may_send_on q.busy (link_of e.link))
      (bits_gone (size * count)) q.entries (λ x t. record { own = refl; foreign = refl; link = λ even. refl }) h

pub offer_fits : (s : NcpState) (stamp : ℕ) (g : Peer) (x : Parcel) (h : Host) → AreInOrder s.peers
    → next_in s.peers ≡ Some (g, x) → PairFits (pair_with h s.peers)
    → PairFits (pair_with h (offered s stamp).0.peers)
unfolding offered
offer_fits s stamp g x h order next k =
    subst (λ (o : Option (Peer × Parcel)). PairFits (pair_with h (offered_by s stamp o).0.peers)) (sym next)
    (kept_pair g.host h
    (pair_after x g.pair (parcel_gone g.host stamp g.pair.busy x (desk_of g.pair s.listening))) s.peers k
    (λ q. parcel_fits g.host stamp x g.pair s.listening
    (subst (λ (p : PairState). PairFits p) (next_pair s.peers g x order next) q)))
