-- The walk of Leaves.antt over each call of a host's program.
use Rattle.world_keeps_lives.proofs.Common.{◌≡◌, ℕ, ◌==◌, Bool, true, false, if◌then◌else◌, List, [], ◌∷◌, find, Option, Some, None, refl, sym, subst, Host, same_host, Flow, Answer, HostMessage, same_host-refl, same_host-true, data_bits, header_of, DataHeader, orders_of, data_of, data_taken, desk_of, listens_on, PairState, is_ready, Entry, Notice, AreCommands, text_good, AreInOrder, Peer, Request, both, eqb-true}
use Rattle.host_pairs.specs.Asked.{closed_end, commanded, contacted, interrupt_of, receiver_requested, requested, with_end, with_more_bits}
use Rattle.host_pairs.specs.Entries.{free_link, is_busy, is_open, receives_on, sending_end}
use Rattle.host_pairs.specs.Parcels.{Parcel, pair_after, parcel_gone, link_of}
use Rattle.host_pairs.specs.Turn.{TurnState, answered_turn, message_taken}
use Rattle.sockets.specs.Accepting.{after_turn, turn_of, accepted, accepted_answer, accepted_message}
use Rattle.sockets.specs.Pairs.{NcpState, owner_of, pair_with, with_pair}
use Rattle.sockets.specs.Requests.{at_owner, closed_socket, served, served_notices}
use Rattle.sockets.specs.Sending.{next_in, offered_by, offered}
use Rattle.sockets.proofs.lemmas.{next_pair, others_stay}
use Rattle.interface.specs.declared.crossing.Inbound.TheVariants as inbound
use Rattle.ncp_control.specs.declared.command.Command.TheVariants as command
use Rattle.host_pairs.specs.Commands.{granted}
use Rattle.host_pairs.specs.declared.notice.Notice.TheVariants as notice
use Rattle.host_keeps_pairing.proofs.lemmas.{peer_here}
use Rattle.sockets.specs.declared.request.Request.TheVariants as request
use Rattle.world_keeps_lives.proofs.Walk.Rules.{Each}
use Rattle.world_keeps_lives.proofs.Walk.Leaves.{GoodTurn, HearsAll, Leaves, MaySay, Starts, no_more, asked_by, asked_closed, asked_new, asked_receiver, good_data, good_parcel, plain_bits, turn_all, turn_answered, turn_ready}

-- the ends with a peer
abbrev pub Ends : (Entry → Type 0) → Host → NcpState → Type 0
Ends P p s = Each P (pair_with p s.peers).entries

kept : (P : PairState → Type 0) (g h : Host) (q : PairState) (peers : List Peer) → P (pair_with h peers) → (P (pair_with g peers) → P q) → P (pair_with h (with_pair g q peers))
kept P g h q peers p work = by (same_host h g) refl where
  by : (b : Bool) → same_host h g ≡ b → P (pair_with h (with_pair g q peers))
  by true e = peer_here P g h q peers e (work (subst (λ (x : Host). P (pair_with x peers)) (same_host-true h g e) p))
  by false e = subst P (sym (others_stay g h q peers e)) p

-- what a user's grant changes is an end on the socket
abbrev pub MayGrant : (Entry → Type 0) → Request → Type 0
MayGrant P (request.Grant socket messages bits) = (e : Entry) → e.own ≡ socket → P e → P (granted messages bits e)
MayGrant P r = Unit {0}

module _ (P : Entry → Type 0) (N : Notice → Type 0) (p : Host) (leaves : Leaves P N p) where
  abbrev Of : PairState → Type 0
  Of q = Each P q.entries

  -- ---- what its user asks for

  owner_keeps : (s : NcpState) (o : Option (Host × Entry)) (change : Entry → PairState → PairState) → ((e : Entry) (q : PairState) → Of q → Of (change e q)) → Ends P p s → Ends P p (at_owner s o change)
  owner_keeps s None change work h = h
  owner_keeps s (Some (g, e)) change work h = kept (λ (q : PairState). Each P q.entries) g p (change e (pair_with g s.peers)) s.peers h (work e (pair_with g s.peers))

  close_keeps : (s : NcpState) (socket : ℕ) → Ends P p s → (b : Bool) → listens_on socket s.listening ≡ b → Ends P p (closed_socket s socket)
  close_keeps s socket h true e = rw e h
  close_keeps s socket h false e = rw e (owner_keeps s (owner_of socket s.peers) (λ y. closed_end socket) (λ y q. asked_closed P N p leaves socket q) h)

  pub request_passes : Starts P → (s : NcpState) (r : Request) → MayGrant P r → Ends P p s → Ends P p (served s r)
  unfolding served
  request_passes begins s (request.Contact peer) may h = kept (λ (q : PairState). Each P q.entries) peer p (contacted (pair_with peer s.peers)) s.peers h (λ k. tt)
  request_passes begins s (request.Listen socket size) may h = h
  request_passes begins s (request.OpenSend peer own foreign size) may h =
      kept (λ (q : PairState). Each P q.entries) peer p (requested (sending_end own foreign size) (command.Str own foreign size) (pair_with peer s.peers)) s.peers h
      (λ k. asked_new P N p leaves begins (sending_end own foreign size) (command.Str own foreign size) (pair_with peer s.peers) refl refl refl refl refl k)
  request_passes begins s (request.OpenReceive peer own foreign) may h =
      kept (λ (q : PairState). Each P q.entries) peer p (receiver_requested own foreign (free_link (pair_with peer s.peers).entries) (pair_with peer s.peers)) s.peers h
      (λ k. asked_receiver P N p leaves begins own foreign (free_link (pair_with peer s.peers).entries) (pair_with peer s.peers) k)
  request_passes begins s (request.Send socket bits) may h =
      owner_keeps s (owner_of socket s.peers) (λ e. with_end socket (with_more_bits bits)) (λ e q. asked_by P N p leaves socket (with_more_bits bits) q (λ y t i. leaves.plain y (with_more_bits bits y) (plain_bits y _ _ (no_more y.allocation)) i)) h
  request_passes begins s (request.Grant socket messages bits) may h =
      owner_keeps s (owner_of socket s.peers) (λ e q. commanded (command.All (link_of e.link) messages bits) (with_end socket (granted messages bits) q))
      (λ e q. asked_by P N p leaves socket (granted messages bits) q (λ y t i. may y (eqb-true y.own socket (both y.mine (y.own == socket) t).1) i)) h
  request_passes begins s (request.AskBack socket messages bits) may h = owner_keeps s (owner_of socket s.peers) (λ e. commanded (command.Gvb (link_of e.link) messages bits)) (λ e q k. k) h
  request_passes begins s (request.Interrupt socket) may h = owner_keeps s (owner_of socket s.peers) (λ e. commanded (interrupt_of e)) (λ e q k. k) h
  request_passes begins s (request.Close socket) may h = close_keeps s socket h _ refl
  request_passes begins s (request.Echo peer octet) may h = kept (λ (q : PairState). Each P q.entries) peer p (commanded (command.Eco octet) (pair_with peer s.peers)) s.peers h (λ k. k)

  pub request_reports : (s : NcpState) (r : Request) → Each N (served_notices s r)
  unfolding served_notices
  request_reports s (request.Contact peer) = by (is_ready (pair_with peer s.peers).phase) where
    by : (b : Bool) → Each N (if b then notice.PairReset peer ∷ [] else [])
    by true = (leaves.others (notice.PairReset peer) tt tt, tt)
    by false = tt
  request_reports s r = tt

  -- ---- what comes in

  -- what becomes of a call: the ends with the peer, and what is reported
  pub record Passed (turn : NcpState × List Notice) : Type 0 where
    pub ends : Ends P p turn.0
    pub told : Each N turn.1

  own_turn : (s : NcpState) → Ends P p s → GoodTurn P N p leaves (turn_of s p)
  own_turn s h = record { ends = h; told = tt }

  here : (q : PairState) (peers : List Peer) → Of q → Of (pair_with p (with_pair p q peers))
  here q peers h = peer_here (λ (x : PairState). Each P x.entries) p p q peers (same_host-refl p) h

  -- whatever it says, where it is a control message by the rules and data are reported by them
  abbrev pub MayHear : NcpState → HostMessage → ℕ → Type 0
  MayHear s m stamp =
      ((m.flow.link.0 == 0) ≡ true → HearsAll P stamp (orders_of m.text))
      × ((m.flow.link.0 == 0) ≡ false → (e : Entry) (k : DataHeader) → find (receives_on m.flow.link.0) (pair_with p s.peers).entries ≡ Some e → is_open e ≡ true → header_of m.text ≡ Some k → N (notice.Arrived e.own (data_of (data_bits k) m.text)))

  taken : (s : NcpState) (m : HostMessage) (stamp : ℕ) → MayHear s m stamp → Ends P p s → GoodTurn P N p leaves (message_taken p stamp m.flow.link.0 m.text (turn_of s p))
  taken s m stamp may h = by (m.flow.link.0 == 0) refl where
    by : (b : Bool) → (m.flow.link.0 == 0) ≡ b → GoodTurn P N p leaves (message_taken p stamp m.flow.link.0 m.text (turn_of s p))
    by true e = rw e (turn_all P N p leaves stamp (orders_of m.text) (may.0 e) _ (text_good m.text) (own_turn s h))
    by false e =
        rw e (turn_ready P N p leaves (data_taken m.flow.link.0 m.text) _
        (λ k. good_data P N p leaves m.flow.link.0 m.text (desk_of (pair_with p s.peers) s.listening) (may.1 e) k) (own_turn s h))

  -- what was taken of a message is what becomes of the call
  pub turn_passes : (s : NcpState) (m : HostMessage) (stamp : ℕ) → m.flow.source ≡ p → Ends P p s
      → GoodTurn P N p leaves (message_taken p stamp m.flow.link.0 m.text (turn_of s p))
      → Passed (accepted s (inbound.Message m) stamp)
  unfolding accepted
  turn_passes s m stamp from h k = by (same_host s.own m.flow.destination) refl where
    t : TurnState
    t = message_taken p stamp m.flow.link.0 m.text (turn_of s p)

    done : Passed (after_turn s p t)
    done = record { ends = here t.pair s.peers k.ends; told = k.told }

    by : (b : Bool) → same_host s.own m.flow.destination ≡ b → Passed (accepted_message s m stamp)
    by true e = rw e (subst (λ (g : Host). Passed (after_turn s g (message_taken g stamp m.flow.link.0 m.text (turn_of s g)))) (sym from) done)
    by false e = rw e (record { ends = h; told = tt })

  pub message_passes : (s : NcpState) (m : HostMessage) (stamp : ℕ) → m.flow.source ≡ p → MayHear s m stamp → Ends P p s → Passed (accepted s (inbound.Message m) stamp)
  message_passes s m stamp from may h = turn_passes s m stamp from h (taken s m stamp may h)

  pub answer_passes : (s : NcpState) (kind : Answer) (f : Flow) (stamp : ℕ) → f.destination ≡ p → Ends P p s → Passed (accepted s (inbound.Answer kind f) stamp)
  unfolding accepted
  answer_passes s kind f stamp to h = by (same_host s.own f.source) (is_busy (pair_with f.destination s.peers).busy f.link.0) refl refl where
    t : TurnState
    t = answered_turn p kind f.link.0 (turn_of s p)

    done : Passed (after_turn s p t)
    done = let k : GoodTurn P N p leaves (answered_turn p kind f.link.0 (turn_of s p)) = turn_answered P N p leaves kind f.link.0 _ (own_turn s h) in record { ends = here t.pair s.peers k.ends; told = k.told }

    by : (b c : Bool) → same_host s.own f.source ≡ b → is_busy (pair_with f.destination s.peers).busy f.link.0 ≡ c → Passed (accepted_answer s kind f)
    by true true e g = rw (e, g) (subst (λ (x : Host). Passed (after_turn s x (answered_turn x kind f.link.0 (turn_of s x)))) (sym to) done)
    by true false e g = rw (e, g) (record { ends = h; told = tt })
    by false c e g = rw e (record { ends = h; told = tt })

  -- ---- what goes out

  pub offer_passes : (s : NcpState) (stamp : ℕ) (g : Peer) (x : Parcel) → AreInOrder s.peers → next_in s.peers ≡ Some (g, x) → g.host ≡ p → AreCommands (pair_with p s.peers).queue → MaySay P N p leaves stamp x (pair_with p s.peers) → Ends P p s → Passed (offered s stamp)
  unfolding offered
  offer_passes s stamp g x order next to ok may h =
      let same : pair_with p s.peers ≡ g.pair = subst (λ (y : Host). pair_with y s.peers ≡ g.pair) to (next_pair s.peers g x order next) in
      let k : Each P (pair_after x g.pair (parcel_gone p stamp g.pair.busy x (desk_of g.pair s.listening))).entries × Each N (parcel_gone p stamp g.pair.busy x (desk_of g.pair s.listening)).notices =
      good_parcel P N p leaves stamp x g.pair s.listening (subst (λ (q : PairState). MaySay P N p leaves stamp x q) same may) (subst (λ (q : PairState). AreCommands q.queue) same ok) (subst (λ (q : PairState). Each P q.entries) same h) in
      subst (λ (o : Option (Peer × Parcel)). Passed (offered_by s stamp o)) (sym next)
      (subst (λ (y : Host). Passed (record s { peers = with_pair y (pair_after x g.pair (parcel_gone y stamp g.pair.busy x (desk_of g.pair s.listening))) s.peers }, (parcel_gone y stamp g.pair.busy x (desk_of g.pair s.listening)).notices)) (sym to)
      (record { ends = here (pair_after x g.pair (parcel_gone p stamp g.pair.busy x (desk_of g.pair s.listening))) s.peers k.0; told = k.1 }))
