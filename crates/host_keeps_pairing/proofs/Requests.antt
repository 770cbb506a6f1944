-- What a user asks for, at one pair of sockets.
use Rattle.host_keeps_pairing.proofs.Common.{◌≡◌, ◌⊎◌, inl, inr, ℕ, Bool, true, false, not, ◌&&◌, if◌then◌else◌, cond, List, [], ◌∷◌, Option, Some, None, is_some, refl, sym, subst, Host, same_host, same_host-true, Command, End, nothing, Mark, changed_first, close_due, entry_at, is_at, PairState, NcpState, pair_with, with_pair, desk_of, is_ready, link_of, Closing, Entry, Peer, Request, pair_changed, mark_of, marks, Standing, at, HasEnd, Stand, after_request}
use Rattle.interface.proofs.lemmas.{or_false}
use Rattle.ncp_control.specs.Numbers.{is_receive_socket, is_send_socket}
use Rattle.ncp_control.specs.declared.command.Command.TheVariants as command
use Rattle.host_pairs.specs.Commands.{granted}
use Rattle.host_pairs.specs.Entries.{called_off, is_receiving, free_link, sending_end}
use Rattle.host_pairs.specs.Desk.{listens_on}
use Rattle.sockets.specs.Requests.{at_owner, closed_socket, is_taken, is_used, open_receive_refusal, open_send_refusal, refusal, served}
use Rattle.host_pairs.specs.Asked.{closed_end, commanded, contacted, interrupt_of, receiver_requested, requested, with_end, with_more_bits}
use Rattle.host_pairs.specs.declared.entry.Closing.TheVariants as closing
use Rattle.sockets.specs.declared.request.Request.TheVariants as request
use Rattle.sockets.proofs.lemmas.{not_first, others_stay}
use Rattle.host_keeps_pairing.proofs.Lists.{IsQuiet, at_quiet}
use Rattle.host_keeps_pairing.proofs.Desks.{on_joined, on_queued, on_settled, stand_same}

-- ---- one peer and the others

pub peer_here : (P : PairState → Type 0) (g h : Host) (q : PairState) (peers : List Peer) → same_host h g ≡ true → P q → P (pair_with h (with_pair g q peers))
peer_here P g h q peers e p =
    let put : pair_with h (with_pair g q peers) ≡ q = (let r : pair_with h (with_pair g q peers) ≡ cond (same_host h g) q (pair_with h peers) = pair_changed g h q peers in rw e at r) in
    subst P (sym put) p

kept_by : (P : PairState → Type 0) (g h : Host) (q : PairState) (peers : List Peer) → P (pair_with h peers) → (P (pair_with g peers) → P q) → (b : Bool) → same_host h g ≡ b → P (pair_with h (with_pair g q peers))
kept_by P g h q peers p work true e = peer_here P g h q peers e (work (subst (λ (x : Host). P (pair_with x peers)) (same_host-true h g e) p))
kept_by P g h q peers p work false e = subst P (sym (others_stay g h q peers e)) p

kept : (P : PairState → Type 0) (g h : Host) (q : PairState) (peers : List Peer) → P (pair_with h peers) → (P (pair_with g peers) → P q) → P (pair_with h (with_pair g q peers))
kept P g h q peers p work = kept_by P g h q peers p work _ refl

-- ---- no refusal

pub none_is : {A : Type 0} (o : Option A) → is_some o ≡ false → o ≡ None
none_is None e = refl
none_is (Some x) e = absurd (cc)

-- ---- an end that is called off

called : Standing → Standing
called s = record s { closing = close_due s.closing }

module _ (origin : ℕ → ℕ) (own foreign place : ℕ) where
  stand_called : (m : Bool) (a p : Option ℕ) (c : Closing) (b : Bool) (words : List Mark) (x : End)
      → Stand true origin place (record { mine = m; asked = a; partner = p; closing = c; partner_closed = b } ∷ []) words x
      → Stand true origin place (called (record { mine = m; asked = a; partner = p; closing = c; partner_closed = b }) ∷ []) words x
  unfolding called
  stand_called m a p closing.No b words x h = (record { live = λ e. refl; refused = λ e. ((h.0.refused e).0, absurd (let r : false ≡ true = (h.0.refused e).1 in cc)); asked = λ e. absurd (cc); own = h.0.own }, h.1, h.2)
  stand_called m a p c b words x h = h

  -- at most one of some ends is called off
  abbrev Touched : List Standing → List Standing → Type 0
  Touched [] ts = ts ≡ []
  Touched (s ∷ ss) [] = ⊥
  Touched (s ∷ ss) (t ∷ ts) = ((t ≡ s) ⊎ (t ≡ called s)) × Touched ss ts

  untouched : (ss : List Standing) → Touched ss ss
  untouched [] = refl
  untouched (s ∷ ss) = (inl refl, untouched ss)

  touch_step : (test : Entry → Bool) (e : Entry) (es : List Entry) → Touched (at own foreign es) (at own foreign (changed_first test called_off es)) → (b c : Bool) → test e ≡ b → is_at own foreign e ≡ c
      → Touched (at own foreign (e ∷ es)) (at own foreign (changed_first test called_off (e ∷ es)))
  unfolding called
  touch_step test e es rest true true f g = rw (f, g) (inr refl, untouched _)
  touch_step test e es rest true false f g = rw (f, g) (untouched _)
  touch_step test e es rest false true f g = rw (f, g) (inl refl, rest)
  touch_step test e es rest false false f g = rw (f, g) rest

  touched : (test : Entry → Bool) (es : List Entry) → Touched (at own foreign es) (at own foreign (changed_first test called_off es))
  touched test [] = refl
  touched test (e ∷ es) = touch_step test e es (touched test es) _ _ refl refl

  one_touched : (s t : Standing) (words : List Mark) (x : End) → (t ≡ s) ⊎ (t ≡ called s) → Stand true origin place (s ∷ []) words x → Stand true origin place (t ∷ []) words x
  one_touched s t words x (inl same) h = subst (λ (u : Standing). Stand true origin place (u ∷ []) words x) (sym same) h
  one_touched s t words x (inr same) h = subst (λ (u : Standing). Stand true origin place (u ∷ []) words x) (sym same) (stand_called s.mine _ _ _ _ words x h)

  stand_touched : (ss ts : List Standing) (words : List Mark) (x : End) → Touched ss ts → Stand true origin place ss words x → Stand true origin place ts words x
  stand_touched [] ts words x t h = subst (λ (us : List Standing). Stand true origin place us words x) (sym t) h
  stand_touched (s ∷ []) [] words x t h = absurd t
  stand_touched (s ∷ []) (r ∷ ts) words x t h = subst (λ (us : List Standing). Stand true origin place (r ∷ us) words x) (sym t.1) (one_touched s r words x t.0 h)
  stand_touched (s ∷ u ∷ ss) ts words x t h = absurd h

  -- what a user asks of an end
  pub end_quiet : (socket : ℕ) (change : Entry → Entry) (q : PairState) (x : End) → IsQuiet change → Stand true origin place (at own foreign q.entries) (marks place own foreign q.queue) x
      → Stand true origin place (at own foreign (with_end socket change q).entries) (marks place own foreign (with_end socket change q).queue) x
  end_quiet socket change q x quiet h =
      stand_same origin own foreign place true _ _ _ _ x
      (at_quiet own foreign _ change _ quiet) refl h

  pub end_closed : (socket : ℕ) (q : PairState) (x : End) → Stand true origin place (at own foreign q.entries) (marks place own foreign q.queue) x
      → Stand true origin place (at own foreign (closed_end socket q).entries) (marks place own foreign (closed_end socket q).queue) x
  end_closed socket q x h =
      on_settled origin own foreign place true q.busy (desk_of (with_end socket called_off q) []) x
      (stand_touched _ _ _ x (touched _ _) h)

  commanded_quiet : (c : Command) (q : PairState) (x : End) → mark_of place own foreign c ≡ [] → Stand true origin place (at own foreign q.entries) (marks place own foreign q.queue) x
      → Stand true origin place (at own foreign (commanded c q).entries) (marks place own foreign (commanded c q).queue) x
  commanded_quiet c q x none h = on_queued origin own foreign place true c (desk_of q []) x none h

  sender_new : (a b size : ℕ) (q : PairState) (x : End) → entry_at a b q.entries ≡ None → Stand true origin place (at own foreign q.entries) (marks place own foreign q.queue) x
      → Stand true origin place (at own foreign (requested (sending_end a b size) (command.Str a b size) q).entries) (marks place own foreign (requested (sending_end a b size) (command.Str a b size) q).queue) x
  sender_new a b size q x none h =
      on_joined origin own foreign place a b _ (command.Str a b size) (desk_of q []) x x refl refl (record { live = λ e. refl; refused = λ m. absurd (cc); asked = λ e. absurd (cc); own = λ e. absurd (cc) }) none (λ t is. is) (λ t. refl) h

  receiver_new : (a b : ℕ) (link : Option ℕ) (q : PairState) (x : End) → entry_at a b q.entries ≡ None → Stand true origin place (at own foreign q.entries) (marks place own foreign q.queue) x
      → Stand true origin place (at own foreign (receiver_requested a b link q).entries) (marks place own foreign (receiver_requested a b link q).queue) x
  receiver_new a b None q x none h = h
  receiver_new a b (Some link) q x none h =
      on_joined origin own foreign place a b _ (command.Rts a b link) (desk_of q []) x x refl refl (record { live = λ e. refl; refused = λ m. absurd (cc); asked = λ e. absurd (cc); own = λ e. absurd (cc) }) none (λ t is. is) (λ t. refl) h

  interrupt_quiet : (b : Bool) (link : ℕ) → mark_of place own foreign (if b then command.Inr link else command.Ins link) ≡ []
  interrupt_quiet true link = refl
  interrupt_quiet false link = refl

-- ---- a pair

module _ (origin : ℕ → ℕ) (own foreign : ℕ) where
  pair_closed : (socket : ℕ) (q : PairState) (x : End) → HasEnd origin own foreign q x → HasEnd origin own foreign (closed_end socket q) x
  pair_closed socket q x h = record { ends = λ place. end_closed origin own foreign place socket q x (h.ends place); idle = h.idle }

  pair_quiet : (socket : ℕ) (change : Entry → Entry) (q : PairState) (x : End) → IsQuiet change → HasEnd origin own foreign q x → HasEnd origin own foreign (with_end socket change q) x
  pair_quiet socket change q x quiet h = record { ends = λ place. end_quiet origin own foreign place socket change q x quiet (h.ends place); idle = h.idle }

  pair_commanded : (c : Command) (q : PairState) (x : End) → ((place : ℕ) → mark_of place own foreign c ≡ []) → HasEnd origin own foreign q x → HasEnd origin own foreign (commanded c q) x
  pair_commanded c q x none h = record { ends = λ place. commanded_quiet origin own foreign place c q x (none place) (h.ends place); idle = h.idle }

  pair_sender : (a b size : ℕ) (q : PairState) (x : End) → entry_at a b q.entries ≡ None → HasEnd origin own foreign q x → HasEnd origin own foreign (requested (sending_end a b size) (command.Str a b size) q) x
  pair_sender a b size q x none h = record { ends = λ place. sender_new origin own foreign place a b size q x none (h.ends place); idle = h.idle }

  pair_receiver : (a b : ℕ) (link : Option ℕ) (q : PairState) (x : End) → entry_at a b q.entries ≡ None → HasEnd origin own foreign q x → HasEnd origin own foreign (receiver_requested a b link q) x
  pair_receiver a b link q x none h = record { ends = λ place. receiver_new origin own foreign place a b link q x none (h.ends place); idle = same_idle link h.idle } where
    same_idle : (l : Option ℕ) → (is_ready q.phase ≡ false → x ≡ nothing) → is_ready (receiver_requested a b l q).phase ≡ false → x ≡ nothing
    same_idle None k = k
    same_idle (Some l) k = k

  -- ---- the host

  owner_keeps : (s : NcpState) (o : Option (Host × Entry)) (change : Entry → PairState → PairState) (h : Host) (x : End) → ((e : Entry) (q : PairState) → HasEnd origin own foreign q x → HasEnd origin own foreign (change e q) x)
      → HasEnd origin own foreign (pair_with h s.peers) x → HasEnd origin own foreign (pair_with h (at_owner s o change).peers) x
  owner_keeps s None change h x work a = a
  owner_keeps s (Some (g, e)) change h x work a = kept (λ (q : PairState). HasEnd origin own foreign q x) g h (change e (pair_with g s.peers)) s.peers a (work e (pair_with g s.peers))

  close_keeps : (s : NcpState) (socket : ℕ) (h : Host) (x : End) → HasEnd origin own foreign (pair_with h s.peers) x → (b : Bool) → listens_on socket s.listening ≡ b → HasEnd origin own foreign (pair_with h (closed_socket s socket).peers) x
  close_keeps s socket h x a true e = rw e a
  close_keeps s socket h x a false e = rw e (owner_keeps s _ _ h x (λ y q. pair_closed socket q x) a)

  contact_drops : (s : NcpState) (peer h : Host) (x : End) → HasEnd origin own foreign (pair_with h s.peers) x → (b : Bool) → same_host h peer ≡ b
      → HasEnd origin own foreign (pair_with h (with_pair peer (contacted (pair_with peer s.peers)) s.peers)) (if b then nothing else x)
  contact_drops s peer h x a true e =
      peer_here (λ (q : PairState). HasEnd origin own foreign q nothing) peer h (contacted (pair_with peer s.peers)) s.peers e (record { ends = λ place. (refl, refl); idle = λ i. refl })
  contact_drops s peer h x a false e = subst (λ (q : PairState). HasEnd origin own foreign q x) (sym (others_stay peer h (contacted (pair_with peer s.peers)) _ e)) a

  untaken : (s : NcpState) (peer : Host) (a b : ℕ) → is_taken s peer a b ≡ false → entry_at a b (pair_with peer s.peers).entries ≡ None
  untaken s peer a b e = none_is _ (or_false (is_used s a) _ e).1

  send_untaken : (s : NcpState) (peer : Host) (a b size : ℕ) → open_send_refusal s peer a b size ≡ None → entry_at a b (pair_with peer s.peers).entries ≡ None
  send_untaken s peer a b size e = untaken s peer a b (not_first (is_taken s peer a b) _ _ (not_first (not (is_send_socket a && is_receive_socket b)) _ _ (not_first (not (is_ready (pair_with peer s.peers).phase)) _ _ e).1).1).0

  receive_untaken : (s : NcpState) (peer : Host) (a b : ℕ) → open_receive_refusal s peer a b ≡ None → entry_at a b (pair_with peer s.peers).entries ≡ None
  receive_untaken s peer a b e = untaken s peer a b (not_first (is_taken s peer a b) _ _ (not_first (not (is_receive_socket a && is_send_socket b)) _ _ (not_first (not (is_ready (pair_with peer s.peers).phase)) _ _ e).1).1).0

  pub request_keeps : (s : NcpState) (r : Request) (h : Host) (x : End) → refusal s r ≡ None → HasEnd origin own foreign (pair_with h s.peers) x → HasEnd origin own foreign (pair_with h (served s r).peers) (after_request h r x)
  unfolding served refusal
  request_keeps s (request.Contact peer) h x ok a = contact_drops s peer h x a _ refl
  request_keeps s (request.Listen socket size) h x ok a = a
  request_keeps s (request.OpenSend peer mine yours size) h x ok a =
      kept (λ (q : PairState). HasEnd origin own foreign q x) peer h (requested (sending_end mine yours size) (command.Str mine yours size) (pair_with peer s.peers)) s.peers a
      (pair_sender mine yours size (pair_with peer s.peers) x (send_untaken s peer mine yours size ok))
  request_keeps s (request.OpenReceive peer mine yours) h x ok a =
      kept (λ (q : PairState). HasEnd origin own foreign q x) peer h (receiver_requested mine yours (free_link (pair_with peer s.peers).entries) (pair_with peer s.peers)) s.peers a
      (pair_receiver mine yours (free_link (pair_with peer s.peers).entries) (pair_with peer s.peers) x (receive_untaken s peer mine yours ok))
  request_keeps s (request.Send socket bits) h x ok a =
      owner_keeps s _ _ h x (λ e q. pair_quiet socket (with_more_bits bits) q x (λ y. (refl, refl, refl))) a
  request_keeps s (request.Grant socket messages bits) h x ok a =
      owner_keeps s _ _ h x
      (λ e q b. pair_commanded (command.All (link_of e.link) messages bits) (with_end socket (granted messages bits) q) x (λ place. refl) (pair_quiet socket _ q x (λ y. (refl, refl, refl)) b)) a
  request_keeps s (request.AskBack socket messages bits) h x ok a =
      owner_keeps s _ _ h x (λ e q. pair_commanded (command.Gvb (link_of e.link) messages bits) q x (λ place. refl)) a
  request_keeps s (request.Interrupt socket) h x ok a =
      owner_keeps s _ _ h x (λ e q. pair_commanded (interrupt_of e) q x (λ place. interrupt_quiet origin own foreign place (is_receiving e) (link_of e.link))) a
  request_keeps s (request.Close socket) h x ok a = close_keeps s socket h x a _ refl
  request_keeps s (request.Echo peer octet) h x ok a =
      kept (λ (q : PairState). HasEnd origin own foreign q x) peer h (commanded (command.Eco octet) (pair_with peer s.peers)) s.peers a (pair_commanded (command.Eco octet) (pair_with peer s.peers) x (λ place. refl))
