-- What a user asks for keeps two streams of a link beside the program.
use Rattle.world_keeps_streams.proofs.Common.{◌≡◌, ℕ, Bool, true, false, cond, List, [], ◌∷◌, ◌++◌, Option, Some, None, refl, ap, sym, subst, ◌∙◌, if◌then◌else◌, Host, same_host, same_host-true, Command, Stream, closed_end, commanded, contacted, interrupt_of, receiver_requested, requested, with_end, with_more_bits, listens_on, free_link, is_busy, is_receiving, sending_end, PairState, Entry, NcpState, owner_of, pair_with, Request, pair_changed}
use Rattle.host_keeps_streams.specs.Histories.{Hears, Takes, Says, Sends, Answered, OpensReceiver, OpensSender, Grants, AsksBack, Gives, Closes, IsAllowed, IsTelling, ends_by, is_out, Call}
use Rattle.pair_keeps_streams.proofs.lemmas.{Free, IsAsking, IsPairedCall, IsWordless, Party, Post, Steps, queue_by}
use Rattle.sockets.specs.Requests.{at_owner, closed_socket, with_peer, served}
use Rattle.world_keeps_streams.specs.Calls.{owner_calls, request_calls, called}
use Rattle.ncp_control.specs.declared.command.Command.TheVariants as command
use Rattle.stream_law.specs.Senders.{Sender}
use Rattle.host_pairs.specs.Commands.{granted}
use Rattle.host_pairs.specs.Parcels.{link_of}
use Rattle.host_keeps_streams.specs.Histories as calls
use Rattle.sockets.specs.declared.request.Request.TheVariants as request
use Rattle.world_keeps_streams.proofs.Steps.Going.{Goes, Here, asks_here, stays_as, wordless_here}
use Rattle.world_keeps_streams.proofs.Calls.MayCalls.{MayCalls}

-- the pair of a peer that is changed, and of another
peer_changed : (s : NcpState) (g p : Host) (change : PairState → PairState) (b : Bool) → same_host p g ≡ b → pair_with p (with_peer s g change).peers ≡ (if b then change (pair_with p s.peers) else pair_with p s.peers)
peer_changed s g p change true e =
    let is : p ≡ g = same_host-true p g e in
    let now : pair_with p (with_peer s g change).peers ≡ cond (same_host p g) (change (pair_with g s.peers)) (pair_with p s.peers) = pair_changed g p _ s.peers in
    now ∙ ap (λ (t : Bool). cond t (change (pair_with g s.peers)) (pair_with p s.peers)) e ∙ ap (λ (y : Host). change (pair_with y s.peers)) (sym is)
peer_changed s g p change false e =
    pair_changed g p _ s.peers ∙ ap (λ (t : Bool). cond t (change (pair_with g s.peers)) (pair_with p s.peers)) e

busy_as : (link : ℕ) (k : Call) (q : PairState) → IsAsking k → is_out link k q ≡ is_busy q.busy link
busy_as link (Hears stamp said c) q is = absurd is
busy_as link (Takes l text) q is = absurd is
busy_as link (Says stamp c) q is = absurd is
busy_as link (Sends stamp e size count) q is = absurd is
busy_as link (Answered l) q is = absurd is
busy_as link k q is = refl

interrupts : (e : Entry) → IsWordless (interrupt_of e)
interrupts e = by (is_receiving e) where
  by : (b : Bool) → IsWordless (if b then command.Inr (link_of e.link) else command.Ins (link_of e.link))
  by true = tt
  by false = tt

module _ (number other : ℕ → ℕ → ℕ → ℕ) (tells : IsTelling number) (others : IsTelling other) (link : ℕ) (steps : Steps number other tells others link) (p : Host) (own : List calls.Moment) (s : NcpState) (front : List Command) (post : Post) (b : Party) (x y : Stream)
    (room : is_busy (pair_with p s.peers).busy link ≡ false → post ≡ Free) (h : Here number other tells others link p own (pair_with p s.peers) front post b x y) where
  abbrev q : PairState
  q = pair_with p s.peers

  abbrev Went : List calls.Moment → PairState → Type 0
  Went cs next = Goes number other tells others link p (cs ++ own) next front post b x y

  abbrev MayAsk : Call → Type 0
  MayAsk k = ((l : ℕ) (u : Sender) → IsAllowed l k (pair_with p s.peers) u) × IsPairedCall k

  one : (k : Call) → IsAsking k → MayAsk k → (next : PairState) → ends_by p k q s.listening ≡ next.entries → queue_by p k q s.listening ≡ next.queue → Went (called k q s.listening ∷ []) next
  one k is may next same waits =
      asks_here number other tells others link p own q front post b x y h steps s.listening k is may.0 may.1 (λ e. room (sym (busy_as link k q is) ∙ e)) next same waits

  none : (next : PairState) → next ≡ q → Went [] next
  none next is = subst (λ (n : PairState). Went [] n) (sym is) (stays_as number other tells others link p own q front post b x y h)

  -- of one peer
  peer_goes : (g : Host) (k : Call) (change : PairState → PairState) → IsAsking k → ends_by p k q s.listening ≡ (change q).entries → queue_by p k q s.listening ≡ (change q).queue
      → (t : Bool) → same_host p g ≡ t → (t ≡ true → MayAsk k) → Went (if t then called k q s.listening ∷ [] else []) (pair_with p (with_peer s g change).peers)
  peer_goes g k change is ends queue true e may = subst (λ (n : PairState). Went (called k q s.listening ∷ []) n) (sym (peer_changed s g p change true e)) (one k is (may refl) (change q) ends queue)
  peer_goes g k change is ends queue false e may = none (pair_with p (with_peer s g change).peers) (peer_changed s g p change false e)

  -- of an own end
  owner_goes : (call : Entry → Call) (change : Entry → PairState → PairState) → ((e : Entry) → IsAsking (call e)) → ((e : Entry) → ends_by p (call e) q s.listening ≡ (change e q).entries) → ((e : Entry) → queue_by p (call e) q s.listening ≡ (change e q).queue)
      → ((k : Call) → MayCalls (called k q s.listening ∷ []) → IsAsking k → MayAsk k)
      → (o : Option (Host × Entry)) → MayCalls (owner_calls p call q s.listening o) → Went (owner_calls p call q s.listening o) (pair_with p (at_owner s o change).peers)
  owner_goes call change is ends queue asks None may = none q refl
  owner_goes call change is ends queue asks (Some (g, e)) may =
      by (same_host p g) refl may where
        by : (t : Bool) → same_host p g ≡ t → MayCalls (if t then called (call e) q s.listening ∷ [] else []) → Went (if t then called (call e) q s.listening ∷ [] else []) (pair_with p (with_peer s g (change e)).peers)
        by t f m = peer_goes g (call e) (change e) (is e) (ends e) (queue e) t f (λ on. asks (call e) (subst (λ (v : Bool). MayCalls (if v then called (call e) q s.listening ∷ [] else [])) on m) (is e))

  asks_may : (k : Call) → MayCalls (called k q s.listening ∷ []) → IsAsking k → MayAsk k
  asks_may (OpensReceiver own' foreign) m is = m.0
  asks_may (OpensSender own' foreign size) m is = m.0
  asks_may (Grants socket messages bits e) m is = m.0
  asks_may (AsksBack socket messages bits e) m is = m.0
  asks_may (Gives socket bits e) m is = m.0
  asks_may (Closes socket e) m is = m.0
  asks_may k m is = absurd is

  opens_goes : (g : Host) (k : Call) (change : PairState → PairState) → IsAsking k → ends_by p k q s.listening ≡ (change q).entries → queue_by p k q s.listening ≡ (change q).queue
      → (t : Bool) → same_host p g ≡ t → MayCalls (if t then called k q s.listening ∷ [] else []) → Went (if t then called k q s.listening ∷ [] else []) (pair_with p (with_peer s g change).peers)
  opens_goes g k change is ends queue t e may = peer_goes g k change is ends queue t e (λ on. asks_may k (subst (λ (v : Bool). MayCalls (if v then called k q s.listening ∷ [] else [])) on may) is)

  -- a command that is no word
  said_goes : (g : Host) (c : Command) → IsWordless c → (t : Bool) → same_host p g ≡ t → Went [] (pair_with p (with_peer s g (commanded c)).peers)
  said_goes g c is true e =
      subst (λ (n : PairState). Went [] n) (sym (peer_changed s g p (commanded c) true e))
      (stays_as number other tells others link p own (commanded c q) front post b x y (wordless_here number other tells others link p own q front post b x y h steps s.listening c is (commanded c q) refl refl))
  said_goes g c is false e = none (pair_with p (with_peer s g (commanded c)).peers) (peer_changed s g p (commanded c) false e)

  interrupt_goes : (o : Option (Host × Entry)) → Went [] (pair_with p (at_owner s o (λ e. commanded (interrupt_of e))).peers)
  interrupt_goes None = none q refl
  interrupt_goes (Some (g, e)) = said_goes g _ (interrupts e) _ refl

  close_goes : (socket : ℕ) (t : Bool) → listens_on socket s.listening ≡ t → MayCalls (if t then [] else owner_calls p (Closes socket) q s.listening (owner_of socket s.peers))
      → Went (if t then [] else owner_calls p (Closes socket) q s.listening (owner_of socket s.peers)) (pair_with p (closed_socket s socket).peers)
  close_goes socket true e may = none (pair_with p (closed_socket s socket).peers) (rw e refl)
  close_goes socket false e may =
      rw e (owner_goes (Closes socket) (λ e. closed_end socket) (λ e. tt) (λ e. refl) (λ e. refl) asks_may (owner_of socket s.peers) may)

  -- a contact with this peer ends the stay
  pub request_goes : (r : Request) → ((g : Host) → r ≡ request.Contact g → same_host p g ≡ false) → MayCalls (request_calls p s r) → Went (request_calls p s r) (pair_with p (served s r).peers)
  unfolding served
  request_goes (request.Contact g) off may = none (pair_with p (with_peer s g contacted).peers) (peer_changed s g p contacted false (off g refl))
  request_goes (request.Listen socket size) off may = none q refl
  request_goes (request.OpenSend g own' foreign size) off may =
      opens_goes g (OpensSender own' foreign size) (requested (sending_end own' foreign size) (command.Str own' foreign size)) tt refl refl (same_host p g) refl may
  request_goes (request.OpenReceive g own' foreign) off may = by (same_host p g) refl may where
    by : (t : Bool) → same_host p g ≡ t → MayCalls (if t then called (OpensReceiver own' foreign) q s.listening ∷ [] else [])
        → Went (if t then called (OpensReceiver own' foreign) q s.listening ∷ [] else []) (pair_with p (with_peer s g (receiver_requested own' foreign (free_link (pair_with g s.peers).entries))).peers)
    by true e m =
        let is : g ≡ p = sym (same_host-true p g e) in
        subst (λ (i : Host). Went (called (OpensReceiver own' foreign) q s.listening ∷ []) (pair_with p (with_peer s g (receiver_requested own' foreign (free_link (pair_with i s.peers).entries))).peers)) (sym is)
        (opens_goes g (OpensReceiver own' foreign) (receiver_requested own' foreign (free_link q.entries)) tt refl refl true e m)
    by false e m = none (pair_with p (with_peer s g (receiver_requested own' foreign (free_link (pair_with g s.peers).entries))).peers) (peer_changed s g p (receiver_requested own' foreign (free_link (pair_with g s.peers).entries)) false e)
  request_goes (request.Send socket bits) off may = owner_goes (Gives socket bits) (λ e. with_end socket (with_more_bits bits)) (λ e. tt) (λ e. refl) (λ e. refl) asks_may (owner_of socket s.peers) may
  request_goes (request.Grant socket messages bits) off may =
      owner_goes (Grants socket messages bits) (λ e n. commanded (command.All (link_of e.link) messages bits) (with_end socket (granted messages bits) n)) (λ e. tt) (λ e. refl) (λ e. refl) asks_may (owner_of socket s.peers) may
  request_goes (request.AskBack socket messages bits) off may =
      owner_goes (AsksBack socket messages bits) (λ e. commanded (command.Gvb (link_of e.link) messages bits)) (λ e. tt) (λ e. refl) (λ e. refl) asks_may (owner_of socket s.peers) may
  request_goes (request.Interrupt socket) off may = interrupt_goes (owner_of socket s.peers)
  request_goes (request.Close socket) off may = close_goes socket (listens_on socket s.listening) refl may
  request_goes (request.Echo g octet) off may = said_goes g (command.Eco octet) tt (same_host p g) refl
