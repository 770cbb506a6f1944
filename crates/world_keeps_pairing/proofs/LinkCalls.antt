-- What users ask for and what is answered, and links.
use Rattle.world_keeps_pairing.proofs.Common.{◌≡◌, ℕ, Bool, true, false, not, ◌&&◌, ◌||◌, if◌then◌else◌, List, [], ◌∷◌, ◌++◌, Option, Some, None, is_some, refl, sym, subst, ◌∙◌, Host, same_host, Flow, Answer, is_receive_socket, is_send_socket, Command, PairState, Entry, Phase, Peer, Request}
use Rattle.interface.proofs.lemmas.{same_host-true, or_false, not_false}
use Rattle.host_pairs.specs.Desk.{desk_of, listens_on}
use Rattle.host_pairs.specs.Entries.{entry_at, free_link, is_receiving, receiving_end, sending_end, called_off, is_busy, is_mine_on}
use Rattle.host_pairs.specs.Parcels.{link_of}
use Rattle.host_pairs.specs.Turn.{TurnState, answered_turn, failed, failed_by, freed, is_gone, settled_turn}
use Rattle.sockets.specs.Accepting.{turn_of, accepted, accepted_answer}
use Rattle.sockets.specs.Pairs.{NcpState, pair_with, owner_of, with_pair}
use Rattle.interface.specs.declared.crossing.Answer.TheVariants as answer
use Rattle.interface.specs.declared.crossing.Inbound.TheVariants as inbound
use Rattle.ncp_control.specs.declared.command.Command.TheVariants as command
use Rattle.host_pairs.specs.Asked.{closed_end, commanded, contacted, interrupt_of, receiver_requested, requested, with_end, with_more_bits}
use Rattle.host_pairs.specs.Commands.{granted}
use Rattle.ncp_control.specs.declared.phase.Phase.TheVariants as phase
use Rattle.host_pairs.proofs.lemmas.{both}
use Rattle.sockets.specs.Requests.{at_owner, closed_socket, first_if, is_taken, is_used, refusal, served}
use Rattle.sockets.specs.declared.request.Request.TheVariants as request
use Rattle.sockets.proofs.lemmas.{not_first, others_stay}
use Rattle.host_keeps_pairing.proofs.lemmas.{peer_here, none_is}
use Rattle.world_keeps_pairing.proofs.Claims.{Claim}
use Rattle.world_keeps_pairing.proofs.LinkDesks.{linked_settled, receiver_joined, and_never}
use Rattle.world_keeps_pairing.proofs.LinkTurns.{send_odd}
use Rattle.world_keeps_pairing.proofs.Local.{IsQuiet, Links, all_claims, claim_of, claims_join, links_changed, links_joined}

-- a pair's ends have the links that were said and heard
abbrev pub LinksOf : List Claim → List Claim → PairState → Type 0
LinksOf said taken q = Links (all_claims q.queue said) taken q.entries

-- ---- which pair is changed

kept : (P : PairState → Type 0) (g h : Host) (q : PairState) (peers : List Peer) → P (pair_with h peers) → (P (pair_with g peers) → P q) → P (pair_with h (with_pair g q peers))
kept P g h q peers p work = by (same_host h g) refl where
  by : (b : Bool) → same_host h g ≡ b → P (pair_with h (with_pair g q peers))
  by true e = peer_here P g h q peers e (work (subst (λ (x : Host). P (pair_with x peers)) (same_host-true h g e) p))
  by false e = subst P (sym (others_stay g h q peers e)) p

module _ (said taken : List Claim) where
  -- a command that is no RTS is queued
  queued_links : (c : Command) (q : PairState) → ((claims : List Claim) → claim_of c claims ≡ claims) → LinksOf said taken q → LinksOf said taken (commanded c q)
  queued_links c q mute h = subst (λ (claims : List Claim). Links claims taken q.entries) (sym (claims_join q.queue (c ∷ []) said ∙ mute (all_claims q.queue said))) h

  end_links : (socket : ℕ) (change : Entry → Entry) (q : PairState) → ((e : Entry) → IsQuiet e (change e)) → LinksOf said taken q → LinksOf said taken (with_end socket change q)
  end_links socket change q quiet h = links_changed (all_claims q.queue said) taken _ change _ quiet h

  closed_links : (socket : ℕ) (q : PairState) → LinksOf said taken q → LinksOf said taken (closed_end socket q)
  closed_links socket q h =
      linked_settled said taken q.busy (desk_of (with_end socket called_off q) []) (end_links socket called_off q (λ e. record { own = refl; foreign = refl; link = refl; mine = refl; partner = λ k. k; asked = λ k. k }) h)

  sender_links : (a b size : ℕ) (q : PairState) → is_send_socket a ≡ true → LinksOf said taken q → LinksOf said taken (requested (sending_end a b size) (command.Str a b size) q)
  sender_links a b size q odd h =
      subst (λ (claims : List Claim). Links claims taken (q.entries ++ sending_end a b size ∷ [])) (sym (claims_join q.queue _ said))
      (links_joined (all_claims q.queue said) taken _ _ (λ l on. absurd (and_never _ on)) (λ even mine. absurd (let no : true ≡ false = sym even ∙ send_odd a odd in cc)) (λ asked. refl)
      (λ l on. absurd (and_never _ on)) h)

  receiver_links : (a b : ℕ) (l : Option ℕ) (q : PairState) → is_receive_socket a ≡ true → is_send_socket b ≡ true → free_link q.entries ≡ l → entry_at a b q.entries ≡ None → LinksOf said taken q → LinksOf said taken (receiver_requested a b l q)
  receiver_links a b None q even odd free none h = h
  receiver_links a b (Some link) q even odd free none h = receiver_joined said taken a b link _ q.queue _ even odd refl refl refl refl free none h

  owner_links : (s : NcpState) (o : Option (Host × Entry)) (change : Entry → PairState → PairState) (h : Host) → ((e : Entry) (q : PairState) → LinksOf said taken q → LinksOf said taken (change e q))
      → LinksOf said taken (pair_with h s.peers) → LinksOf said taken (pair_with h (at_owner s o change).peers)
  owner_links s None change h work k = k
  owner_links s (Some (g, e)) change h work k = kept (LinksOf said taken) g h (change e (pair_with g s.peers)) s.peers k (work e (pair_with g s.peers))

  close_links : (s : NcpState) (socket : ℕ) (h : Host) → LinksOf said taken (pair_with h s.peers) → (b : Bool) → listens_on socket s.listening ≡ b → LinksOf said taken (pair_with h (closed_socket s socket).peers)
  close_links s socket h k true e = rw e k
  close_links s socket h k false e = rw e (owner_links s (owner_of socket s.peers) _ h (λ y q. closed_links socket q) k)

  untaken : (s : NcpState) (peer : Host) (a b : ℕ) → is_taken s peer a b ≡ false → entry_at a b (pair_with peer s.peers).entries ≡ None
  untaken s peer a b e = none_is _ (or_false (is_used s a) _ e).1

  mute_interrupt : (e : Entry) (claims : List Claim) → claim_of (interrupt_of e) claims ≡ claims
  mute_interrupt e claims = by (is_receiving e) where
    by : (b : Bool) → claim_of (if b then command.Inr (link_of e.link) else command.Ins (link_of e.link)) claims ≡ claims
    by true = refl
    by false = refl

  pub request_links : (s : NcpState) (r : Request) (h : Host) → refusal s r ≡ None → LinksOf said taken (pair_with h s.peers) → LinksOf said taken (pair_with h (served s r).peers)
  unfolding served refusal
  request_links s (request.Contact peer) h ok k = kept (LinksOf said taken) peer h (contacted (pair_with peer s.peers)) s.peers k (λ j. record { sends = tt; names = tt; own = tt; single = λ l. tt })
  request_links s (request.Listen socket size) h ok k = k
  request_links s (request.OpenSend peer mine yours size) h ok k =
      let parts : (not (is_send_socket mine && is_receive_socket yours) ≡ false) × (first_if (is_taken s peer mine yours) _ _ ≡ None) = not_first _ _ _ (not_first _ _ _ ok).1 in
      kept (LinksOf said taken) peer h (requested (sending_end mine yours size) (command.Str mine yours size) (pair_with peer s.peers)) s.peers k
      (sender_links mine yours size (pair_with peer s.peers) (both (is_send_socket mine) (is_receive_socket yours) (not_false _ parts.0)).0)
  request_links s (request.OpenReceive peer mine yours) h ok k =
      let parts : (not (is_receive_socket mine && is_send_socket yours) ≡ false) × (first_if (is_taken s peer mine yours) _ _ ≡ None) = not_first _ _ _ (not_first _ _ _ ok).1 in
      let sockets : (is_receive_socket mine ≡ true) × (is_send_socket yours ≡ true) = both (is_receive_socket mine) (is_send_socket yours) (not_false _ parts.0) in
      kept (LinksOf said taken) peer h (receiver_requested mine yours (free_link (pair_with peer s.peers).entries) (pair_with peer s.peers)) s.peers k
      (receiver_links mine yours _ (pair_with peer s.peers) sockets.0 sockets.1 refl (untaken s peer mine yours (not_first _ _ _ parts.1).0))
  request_links s (request.Send socket bits) h ok k =
      owner_links s (owner_of socket s.peers) (λ e. with_end socket (with_more_bits bits)) h (λ e q. end_links socket (with_more_bits bits) q (λ y. record { own = refl; foreign = refl; link = refl; mine = refl; partner = λ k. k; asked = λ k. k })) k
  request_links s (request.Grant socket messages bits) h ok k =
      owner_links s (owner_of socket s.peers) (λ e q. commanded (command.All (link_of e.link) messages bits) (with_end socket (granted messages bits) q)) h
      (λ e q j. queued_links (command.All (link_of e.link) messages bits) (with_end socket (granted messages bits) q) (λ claims. refl)
      (end_links socket _ q (λ y. record { own = refl; foreign = refl; link = refl; mine = refl; partner = λ k. k; asked = λ k. k }) j)) k
  request_links s (request.AskBack socket messages bits) h ok k =
      owner_links s (owner_of socket s.peers) (λ e. commanded (command.Gvb (link_of e.link) messages bits)) h (λ e q. queued_links (command.Gvb (link_of e.link) messages bits) q (λ claims. refl)) k
  request_links s (request.Interrupt socket) h ok k = owner_links s (owner_of socket s.peers) (λ e. commanded (interrupt_of e)) h (λ e q. queued_links (interrupt_of e) q (mute_interrupt e)) k
  request_links s (request.Close socket) h ok k = close_links s socket h k _ refl
  request_links s (request.Echo peer octet) h ok k =
      kept (LinksOf said taken) peer h (commanded (command.Eco octet) (pair_with peer s.peers)) s.peers k (queued_links (command.Eco octet) (pair_with peer s.peers) (λ claims. refl))

  -- ---- answers

  settled_links : (t : TurnState) → LinksOf said taken t.pair → LinksOf said taken (settled_turn t).pair
  settled_links t h = linked_settled said taken _ (desk_of t.pair t.listening) h

  fails : (peer : Host) (ph : Phase) (t : TurnState) → LinksOf said taken t.pair → LinksOf said taken (failed_by peer ph t).pair
  fails peer phase.Closed t h = h
  fails peer phase.Want t h = h
  fails peer ph t h = record { sends = tt; names = tt; own = tt; single = λ l. tt }

  failed_links : (peer : Host) (t : TurnState) → LinksOf said taken t.pair → LinksOf said taken (failed peer t).pair
  failed_links peer t h = by (is_gone t.pair.phase || not t.pair.owed) where
    by : (b : Bool) → LinksOf said taken (if b then failed_by peer t.pair.phase t else settled_turn t).pair
    by true = fails peer t.pair.phase t h
    by false = settled_links t h

  answered_links : (peer : Host) (kind : Answer) (link : ℕ) (t : TurnState) → LinksOf said taken t.pair → LinksOf said taken (answered_turn peer kind link t).pair
  answered_links peer answer.Rfnm link t h = linked_settled said taken _ (desk_of (freed link t.pair) t.listening) h
  answered_links peer kind link t h = failed_links peer _ h

  answer_by : (s : NcpState) (kind : Answer) (f : Flow) (h : Host) → LinksOf said taken (pair_with h s.peers) → (b c : Bool) → same_host s.own f.source ≡ b → is_busy (pair_with f.destination s.peers).busy f.link.0 ≡ c
      → LinksOf said taken (pair_with h (accepted_answer s kind f).0.peers)
  answer_by s kind f h k true true e g =
      rw (e, g) (kept (LinksOf said taken) f.destination h (answered_turn f.destination kind f.link.0 (turn_of s f.destination)).pair s.peers k (answered_links f.destination kind f.link.0 (turn_of s f.destination)))
  answer_by s kind f h k true false e g = rw (e, g) k
  answer_by s kind f h k false c e g = rw e k

  pub answer_links : (s : NcpState) (kind : Answer) (f : Flow) (stamp : ℕ) (h : Host) → LinksOf said taken (pair_with h s.peers) → LinksOf said taken (pair_with h (accepted s (inbound.Answer kind f) stamp).0.peers)
  unfolding accepted
  answer_links s kind f stamp h k = answer_by s kind f h k _ _ refl refl
