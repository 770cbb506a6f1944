-- What comes in to a host and what goes out of it, at one of its sockets.
use Rattle.world_keeps_lives.proofs.Common.{take-append-drop, Host, same_host, Flow, Answer, HostMessage, same_host-refl, same_host-true, Command, End, Mark, MayGo, DeskState, desk_of, listens_on, PairState, is_ready, Entry, Listener, what_goes, AreCommands, NcpState, pair_with, AreInOrder, Peer, next_is, next_pair, pair_changed, Kept, all_told, AreRefusing, EachIn, IsFreeSocket, IsLifeOf, IsOwned, IsSteady, mine_on}
use Rattle.std.proofs.Common.{◌≡◌, ◌⊎◌, inl, inr, ℕ, ◌*◌, Bool, true, false, if◌then◌else◌, List, [], ◌∷◌, take, drop, Option, Some, None, refl, ap, sym, subst, ◌∙◌, cond}
use Rattle.host_pairs.specs.Entries.{is_busy}
use Rattle.host_pairs.specs.Parcels.{Parcel, command_gone, commands_gone, next_of, pair_after, parcel_gone, link_of, unqueued}
use Rattle.host_pairs.specs.Turn.{TurnState, answered_turn, message_taken}
use Rattle.host_keeps_pairing.specs.Ends.{Stand, at, HasEnd}
use Rattle.host_keeps_pairing.specs.Words.{marks}
use Rattle.sockets.specs.Accepting.{turn_of, after_turn, accepted, with_turn}
use Rattle.sockets.specs.Sending.{next_in, offered_by, offered}
use Rattle.interface.specs.declared.crossing.Inbound.TheVariants as inbound
use Rattle.ncp_control.specs.declared.command.Command.TheVariants as command
use Rattle.host_pairs.specs.Parcels as parcel
use Rattle.host_keeps_pairing.proofs.lemmas.{marks_append}
use Rattle.host_keeps_streams.proofs.lemmas.Senders as senders
use Rattle.world_keeps_pairing.proofs.lemmas.{some_commands}
use Rattle.world_keeps_lives.proofs.Desks.{At, Elsewhere, Near, Place, clash}
use Rattle.world_keeps_lives.proofs.Takes.{G}
use Rattle.world_keeps_lives.proofs.Goes.{IsOfTwo, Waits, all_go, good_bytes}
use Rattle.world_keeps_lives.proofs.Turns.{GoodTurn, good_answer, good_message}

-- ---- one peer's pair is another

pub record IsPut (s new : NcpState) (p : Host) (q : PairState) : Type 0 where
  pub pairs : (h : Host) → pair_with h new.peers ≡ cond (same_host h p) q (pair_with h s.peers)

pub put_here : (s new : NcpState) (p : Host) (q : PairState) → IsPut s new p q → (h : Host) → same_host h p ≡ true
    → pair_with h new.peers ≡ q
put_here s new p q put h e = let r : pair_with h new.peers ≡ cond (same_host h p) q (pair_with h s.peers) = put.pairs h in rw e at r

put_away : (s new : NcpState) (p : Host) (q : PairState) → IsPut s new p q → (h : Host) → same_host h p ≡ false
    → pair_with h new.peers ≡ pair_with h s.peers
put_away s new p q put h e = let r : pair_with h new.peers ≡ cond (same_host h p) q (pair_with h s.peers) = put.pairs h in rw e at r

pub same_turned : (g h : Host) → same_host g h ≡ false → same_host h g ≡ false
same_turned g h off = by (same_host h g) refl where
  by : (b : Bool) → same_host h g ≡ b → b ≡ false
  by true e = clash (true ≡ false) (same_host g h) (subst (λ (x : Host). same_host x h ≡ true) (same_host-true h g e) (same_host-refl h)) off
  by false e = refl

-- at every place
put_all : (P : PairState → Type 0) (s new : NcpState) (p : Host) (q : PairState) → IsPut s new p q → P q
    → ((h : Host) → P (pair_with h s.peers)) → (h : Host) → P (pair_with h new.peers)
put_all P s new p q put now old h = by (same_host h p) refl where
  by : (b : Bool) → same_host h p ≡ b → P (pair_with h new.peers)
  by true e = subst P (sym (put_here s new p q put h e)) now
  by false e = subst P (sym (put_away s new p q put h e)) (old h)

module _ (a : Host) (k : ℕ) where
  -- one socket of the host, over all its peers
  pub record Holds (s : NcpState) (κ : Kept) : Type 0 where
    pub steady : IsSteady s
    pub socket : IsFreeSocket a k s κ ⊎ IsOwned a k s κ

  -- what becomes of a pair, at the socket
  pub record Done (m : Place) (p : Host) (q : PairState) (l : Bool) (κ : Kept) : Type 0 where
    pub refusing : AreRefusing q.entries
    pub idle : is_ready q.phase ≡ false → q.entries ≡ []
    pub on : At a k m p (mine_on k q.entries) l κ

  abbrev pub Does : NcpState → NcpState → Host → PairState → Kept → Kept → Type 0
  Does s new p q κ next = (m : Place) → Done m p (pair_with p s.peers) (listens_on k s.listening) κ → Done m p q (listens_on k new.listening) next

  module _ (s new : NcpState) (p : Host) (q : PairState) (κ next : Kept) (put : IsPut s new p q) where
    -- the end is this pair's, or none
    pub near : ((h : Host) → same_host h p ≡ false → mine_on k (pair_with h s.peers).entries ≡ [])
        → (ms : List Entry) (l : Bool) → mine_on k q.entries ≡ ms → listens_on k new.listening ≡ l
        → At a k Near p ms l next → IsFreeSocket a k new next ⊎ IsOwned a k new next
    near others [] l e f h = inl (record { none = put_none; lives = h }) where
      put_none : (g : Host) → mine_on k (pair_with g new.peers).entries ≡ []
      put_none g = by (same_host g p) refl where
        by : (b : Bool) → same_host g p ≡ b → mine_on k (pair_with g new.peers).entries ≡ []
        by true is = ap (λ (x : PairState). mine_on k x.entries) (put_here s new p q put g is) ∙ e
        by false is = ap (λ (x : PairState). mine_on k x.entries) (put_away s new p q put g is) ∙ others g is
    near others (x ∷ []) false e f h = inr (record {
      peer = p;
      end = x;
      one = ap (λ (y : PairState). mine_on k y.entries) (put_here s new p q put p (same_host-refl p)) ∙ e;
      others = λ g is. ap (λ (y : PairState). mine_on k y.entries) (put_away s new p q put g is) ∙ others g is;
      silent = f;
      fresh = h.0;
      lives = h.1;
    })
    near others (x ∷ []) true e f h = absurd h
    near others (x ∷ y ∷ ms) l e f h = absurd h

    -- it is another pair's
    far : (o : IsOwned a k s κ) → same_host o.peer p ≡ false → (ms : List Entry) (l : Bool) → mine_on k q.entries ≡ ms
        → listens_on k new.listening ≡ l → At a k (Elsewhere o.peer o.end) p ms l next
        → IsFreeSocket a k new next ⊎ IsOwned a k new next
    far o off [] false e f h = inr (record {
      peer = o.peer;
      end = o.end;
      one = ap (λ (y : PairState). mine_on k y.entries) (put_away s new p q put o.peer off) ∙ o.one;
      others = λ g is. away g is;
      silent = f;
      fresh = o.fresh;
      lives = h;
    }) where
      away : (g : Host) → same_host g o.peer ≡ false → mine_on k (pair_with g new.peers).entries ≡ []
      away g is = by (same_host g p) refl where
        by : (b : Bool) → same_host g p ≡ b → mine_on k (pair_with g new.peers).entries ≡ []
        by true t = ap (λ (x : PairState). mine_on k x.entries) (put_here s new p q put g t) ∙ e
        by false t = ap (λ (x : PairState). mine_on k x.entries) (put_away s new p q put g t) ∙ o.others g is
    far o off [] true e f h = absurd h
    far o off (x ∷ ms) l e f h = absurd h

    pub lifted : (m : Place) → Done m p q (listens_on k new.listening) next → IsSteady s → IsSteady new
    lifted m d t = record {
      refusing = put_all (λ (x : PairState). AreRefusing x.entries) s new p q put d.refusing t.refusing;
      idle = put_all (λ (x : PairState). is_ready x.phase ≡ false → x.entries ≡ []) s new p q put d.idle t.idle;
    }

    pub old : (m : Place) → IsSteady s
        → At a k m p (mine_on k (pair_with p s.peers).entries) (listens_on k s.listening) κ
        → Done m p (pair_with p s.peers) (listens_on k s.listening) κ
    old m t h = record { refusing = t.refusing p; idle = t.idle p; on = h }

    owned_here : (o : IsOwned a k s κ) → p ≡ o.peer
        → At a k Near p (mine_on k (pair_with p s.peers).entries) (listens_on k s.listening) κ
    owned_here o e =
        let one : mine_on k (pair_with p s.peers).entries ≡ o.end ∷ [] = subst (λ (g : Host). mine_on k (pair_with g s.peers).entries ≡ o.end ∷ []) (sym e) o.one in
        subst (λ (ms : List Entry). At a k Near p ms (listens_on k s.listening) κ) (sym one)
        (subst (λ (l : Bool). At a k Near p (o.end ∷ []) l κ) (sym o.silent) (o.fresh, subst (λ (g : Host). EachIn a k (IsLifeOf g o.end) κ) (sym e) o.lives))

    pub lift : Does s new p q κ next → Holds s κ → Holds new next
    lift does h = elim h.socket [
      | inl f ↦
          (let on : At a k Near p (mine_on k (pair_with p s.peers).entries) (listens_on k s.listening) κ = subst (λ (ms : List Entry). At a k Near p ms (listens_on k s.listening) κ) (sym (f.none p)) f.lives in
          let d : Done Near p q (listens_on k new.listening) next = does Near (old Near h.steady on) in
          record { steady = lifted Near d h.steady; socket = near (λ g is. f.none g) _ _ refl refl d.on })
      | inr o ↦ owned_by o _ refl
    ] where
      owned_by : (o : IsOwned a k s κ) → (b : Bool) → same_host p o.peer ≡ b → Holds new next
      owned_by o true e =
          let same : p ≡ o.peer = same_host-true p o.peer e in
          let d : Done Near p q (listens_on k new.listening) next = does Near (old Near h.steady (owned_here o same)) in
          record {
            steady = lifted Near d h.steady;
            socket = near (λ g is. o.others g (subst (λ (x : Host). same_host g x ≡ false) same is)) _ _ refl refl d.on;
          }
      owned_by o false e =
          let on : At a k (Elsewhere o.peer o.end) p (mine_on k (pair_with p s.peers).entries) (listens_on k s.listening) κ =
          subst (λ (ms : List Entry). At a k (Elsewhere o.peer o.end) p ms (listens_on k s.listening) κ) (sym (o.others p e))
          (subst (λ (l : Bool). At a k (Elsewhere o.peer o.end) p [] l κ) (sym o.silent) o.lives) in
          let d : Done (Elsewhere o.peer o.end) p q (listens_on k new.listening) next = does _ (old (Elsewhere o.peer o.end) h.steady on) in
          record { steady = lifted _ d h.steady; socket = far o (same_turned p o.peer e) _ _ refl refl d.on }

  -- ---- what comes in

  turn_holds : (s : NcpState) (p : Host) (t : TurnState) (κ : Kept)
      → ((m : Place) → GoodTurn a k m p κ (turn_of s p) → GoodTurn a k m p κ t) → Holds s κ
      → Holds (with_turn s p t) (all_told a t.notices κ)
  turn_holds s p t κ does h =
      lift s (with_turn s p t) p t.pair κ (all_told a t.notices κ) (record { pairs = λ h. pair_changed p h t.pair s.peers })
      (λ m d. let g : GoodTurn a k m p κ t = does m (record { refusing = d.refusing; idle = d.idle; on = d.on }) in record { refusing = g.refusing; idle = g.idle; on = g.on }) h

  pub message_holds : (s : NcpState) (m : HostMessage) (stamp : ℕ) (κ : Kept) → Holds s κ
      → Holds (accepted s (inbound.Message m) stamp).0 (all_told a (accepted s (inbound.Message m) stamp).1 κ)
  unfolding accepted
  message_holds s m stamp κ h = by (same_host s.own m.flow.destination) where
    t : TurnState
    t = message_taken m.flow.source stamp m.flow.link.0 m.text (turn_of s m.flow.source)

    by : (b : Bool)
        → Holds (if b then after_turn s m.flow.source (message_taken m.flow.source stamp m.flow.link.0 m.text (turn_of s m.flow.source)) else (s, [])).0 (all_told a (if b then after_turn s m.flow.source (message_taken m.flow.source stamp m.flow.link.0 m.text (turn_of s m.flow.source)) else (s, [])).1 κ)
    by true = turn_holds s m.flow.source (message_taken m.flow.source stamp m.flow.link.0 m.text (turn_of s m.flow.source)) κ (λ n g. good_message a k n m.flow.source κ stamp m.flow.link.0 m.text (turn_of s m.flow.source) g) h
    by false = h

  pub answer_holds : (s : NcpState) (kind : Answer) (f : Flow) (stamp : ℕ) (κ : Kept) → Holds s κ
      → Holds (accepted s (inbound.Answer kind f) stamp).0 (all_told a (accepted s (inbound.Answer kind f) stamp).1 κ)
  unfolding accepted
  answer_holds s kind f stamp κ h = by (same_host s.own f.source) where
    by : (b : Bool)
        → Holds (if b then (if is_busy (pair_with f.destination s.peers).busy f.link.0 then after_turn s f.destination (answered_turn f.destination kind f.link.0 (turn_of s f.destination)) else (s, [])) else (s, [])).0 (all_told a (if b then (if is_busy (pair_with f.destination s.peers).busy f.link.0 then after_turn s f.destination (answered_turn f.destination kind f.link.0 (turn_of s f.destination)) else (s, [])) else (s, [])).1 κ)
    by true = busy_by (is_busy (pair_with f.destination s.peers).busy f.link.0) where
      busy_by : (b : Bool)
          → Holds (if b then after_turn s f.destination (answered_turn f.destination kind f.link.0 (turn_of s f.destination)) else (s, [])).0 (all_told a (if b then after_turn s f.destination (answered_turn f.destination kind f.link.0 (turn_of s f.destination)) else (s, [])).1 κ)
      busy_by true = turn_holds s f.destination (answered_turn f.destination kind f.link.0 (turn_of s f.destination)) κ (λ n g. good_answer a k n f.destination κ kind f.link.0 (turn_of s f.destination) g) h
      busy_by false = h
    by false = h

-- ---- what goes out

gone_listening : (p : Host) (stamp : ℕ) (c : Command) (d : DeskState)
    → (command_gone p stamp c d).listening ≡ d.listening
gone_listening p stamp command.Nop d = refl
gone_listening p stamp c d = refl

all_listening : (p : Host) (stamp : ℕ) (cs : List Command) (d : DeskState)
    → (commands_gone p stamp cs d).listening ≡ d.listening
all_listening p stamp [] d = refl
all_listening p stamp (c ∷ cs) d = all_listening p stamp cs (command_gone p stamp c d) ∙ gone_listening p stamp c d

-- each end of any two sockets still has to say what waits
abbrev pub HasEnds : (ℕ → ℕ) → PairState → Type 0
HasEnds origin q = (own foreign : ℕ) → IsOfTwo own foreign → (x : End) × HasEnd origin own foreign q x

pub waits : (origin : ℕ → ℕ) (q : PairState) (n : ℕ) → HasEnds origin q
    → Waits origin q.entries (take n q.queue) (drop n q.queue)
waits origin q n has own foreign two =
    let h : (x : End) × HasEnd origin own foreign q x = has own foreign two in (
      h.0,
      subst (λ (l : List Mark). Stand true origin 0 (at own foreign q.entries) l h.0)
          (ap (λ (cs : List Command). marks 0 own foreign cs) (sym (take-append-drop n q.queue)) ∙ marks_append 0 own foreign (take n q.queue) (drop n q.queue)) (h.1.ends 0),
    )

module _ (a : Host) (k : ℕ) (s : NcpState) (stamp : ℕ) (κ : Kept) (g : Peer) where
  abbrev Goes : Parcel → Place → Type 0
  Goes x m = Done a k m g.host (pair_after x g.pair (parcel_gone g.host stamp g.pair.busy x (desk_of g.pair s.listening))) (listens_on k s.listening) (all_told a (parcel_gone g.host stamp g.pair.busy x (desk_of g.pair s.listening)).notices κ)

  goes : (origin : ℕ → ℕ) (x : Parcel) (m : Place) → MayGo g.pair x → next_of g.pair ≡ Some x → AreCommands g.pair.queue
      → HasEnds origin g.pair → Done a k m g.host g.pair (listens_on k s.listening) κ → Goes x m
  goes origin parcel.Reset m may next is has d = record { refusing = d.refusing; idle = λ i. d.idle (ap is_ready may.wanted); on = d.on }
  goes origin parcel.Reply m may next is has d = record { refusing = d.refusing; idle = d.idle; on = d.on }
  goes origin (parcel.Commands count) m may next is has d =
      let done : G a k m g.host κ (commands_gone g.host stamp (take count g.pair.queue) (desk_of g.pair s.listening)) =
      all_go a k m g.host κ origin stamp _ (drop count g.pair.queue) _ (some_commands count g.pair.queue is) (waits origin g.pair count has) (record { refusing = d.refusing; on = d.on }) in
      let still : (commands_gone g.host stamp (take count g.pair.queue) (desk_of g.pair s.listening)).listening ≡ s.listening = all_listening g.host stamp (take count g.pair.queue) (desk_of g.pair s.listening) in
      record {
        refusing = done.refusing;
        idle = λ i. clash _ (is_ready g.pair.phase) (ap is_ready may.0.ready) i;
        on = subst (λ (ls : List Listener). At a k m g.host (mine_on k (commands_gone g.host stamp (take count g.pair.queue) (desk_of g.pair s.listening)).entries) (listens_on k ls) (all_told a (commands_gone g.host stamp (take count g.pair.queue) (desk_of g.pair s.listening)).notices κ)) still done.on;
      }
  goes origin (parcel.Bytes e size count) m may next is has d =
      let done : G a k m g.host κ (parcel_gone g.host stamp g.pair.busy (parcel.Bytes e size count) (desk_of g.pair s.listening)) =
      good_bytes a k m g.host κ g.pair.busy _ _ e (desk_of g.pair s.listening) (senders.next_is g.pair e size count next) may.1.is_opened may.1.sends (record { refusing = d.refusing; on = d.on }) in
      record { refusing = done.refusing; idle = λ i. clash _ (is_ready g.pair.phase) (ap is_ready may.0.ready) i; on = done.on }

pub offer_holds : (a : Host) (k : ℕ) (s : NcpState) (stamp : ℕ) (κ : Kept) → AreInOrder s.peers
    → ((p : Host) → AreCommands (pair_with p s.peers).queue)
    → ((p : Host) → (origin : ℕ → ℕ) × HasEnds origin (pair_with p s.peers))
    → Holds a k s κ → Holds a k (offered s stamp).0 (all_told a (offered s stamp).1 κ)
unfolding offered
offer_holds a k s stamp κ order ranged has h = by (next_in s.peers) refl where
  by : (o : Option (Peer × Parcel)) → next_in s.peers ≡ o
      → Holds a k (offered_by s stamp o).0 (all_told a (offered_by s stamp o).1 κ)
  by None f = h
  by (Some (g, x)) f =
      let pair : pair_with g.host s.peers ≡ g.pair = next_pair s.peers g x order f in
      let next : next_of g.pair ≡ Some x = next_is g x s.peers f in
      let d : DeskState = parcel_gone g.host stamp g.pair.busy x (desk_of g.pair s.listening) in
      let q : PairState = pair_after x g.pair d in
      lift a k s (offered_by s stamp (Some (g, x))).0 g.host q κ (all_told a d.notices κ) (record { pairs = λ h. pair_changed g.host h q s.peers })
      (λ m e. goes a k s stamp κ g (has g.host).0 x m (what_goes g.pair x next) next (subst (λ (y : PairState). AreCommands y.queue) pair (ranged g.host)) (subst (λ (y : PairState). HasEnds (has g.host).0 y) pair (has g.host).1)
      (subst (λ (y : PairState). Done a k m g.host y (listens_on k s.listening) κ) pair e)) h
