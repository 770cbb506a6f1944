-- What a host does with one peer leaves its lives with another as they were.
use Rattle.world_keeps_streams.proofs.Common.{◌≡◌, ℕ, ◌==◌, ◌&&◌, ◌||◌, Bool, true, false, not, nat_le, if◌then◌else◌, List, [], ◌∷◌, ◌++◌, find, Option, Some, None, is_some, refl, ap, sym, subst, ◌∙◌, eq-eqb, list_any, Host, same_host, Answer, same_host-refl, data_bits, header_of, Command, DataHeader, Legal, Order, Wrong, error, orders_of, data_of, data_taken, is_acceptable, DeskState, desk_of, listens_on, command_queued, PairState, is_ready, Entry, Notice, Phase, Kept, all_told, both, not_is}
use Rattle.host_pairs.specs.Commands.{asked_on_link, asked_with_size, found_in, desk_taken}
use Rattle.host_pairs.specs.Entries.{changed_at, entry_at, is_ending, is_mine_on, is_open, receives_on, sends_on}
use Rattle.host_pairs.specs.Turn.{TurnState, answered_turn, command_taken, failed, failed_by, freed, if_ready, is_gone, message_taken, order_taken, orders_taken, reply_notices, reset_notices, settled_turn, with_desk, reply_taken, reset_taken}
use Rattle.host_keeps_pairing.proofs.lemmas.{reply_idle}
use Rattle.host_keeps_streams.specs.Histories.{Hears, Takes, Call}
use Rattle.world_keeps_lives.specs.Lives.{AreRefusing, IsLifeOf, at_socket, mine_on}
use Rattle.world_keeps_lives.proofs.lemmas.{At, Elsewhere, GoodTurn, Near, Place, all_told_append, clash, good_queued, good_ready, good_taken, open_mine, refusing_found, AreAside, at_aside, good_data, good_reset}
use Rattle.interface.specs.declared.crossing.Answer.TheVariants as answer
use Rattle.ncp_control.specs.declared.command.Command.TheVariants as command
use Rattle.host_pairs.specs.declared.notice.Notice.TheVariants as notice
use Rattle.ncp_control.specs.declared.phase.Phase.TheVariants as phase
use Rattle.promise.specs.declared.life.Life.{Life}
use Rattle.world_keeps_streams.proofs.Deeds.Effects as deeds
use Rattle.world_keeps_streams.proofs.Deeds.Effects.{Among, Deed, all_lives, among_kept, found_among}
use Rattle.world_keeps_streams.proofs.Deeds.Kinds.{arrives, arrives_if, closings, deed_of, hears, matches, opens, opens_by, returns}
use Rattle.world_keeps_streams.proofs.Deeds.Told.{IsTold, call_told, notices_of}
use Rattle.world_keeps_streams.proofs.Deeds.Ends.{IsAt, found_cases}
use Rattle.world_keeps_streams.proofs.Carried.Owned.{IsAway, among_each, told_lives}
use Rattle.world_keeps_streams.proofs.Moments.OtherAlike.{AreAlike, AreNamed, IsClear, IsClearOf, alike_same, alike_then, deed_alike, named_alike}

-- ---- at which ends a call is a deed

abbrev Hits : Deed → List Entry → Type 0
Hits (deeds.Arrives e bits) es = IsAt e es
Hits (deeds.Leaves e bits) es = IsAt e es
Hits (deeds.Grants e messages bits) es = IsAt e es
Hits (deeds.Returns e messages bits) es = IsAt e es
Hits d es = Unit {0}

hits_if : (v : Bool) (d e : Deed) (es : List Entry) → Hits d es → Hits e es → Hits (if v then d else e) es
hits_if true d e es h k = h
hits_if false d e es h k = k

hits_opens : (o : Option Entry) (es : List Entry) → Hits (opens o) es
hits_opens None es = tt
hits_opens (Some e) es = by e.asked e.partner where
  by : (u v : Option ℕ) → Hits (opens_by e u v) es
  by None v = tt
  by (Some u) None = tt
  by (Some u) (Some v) = hits_if (is_ending e) deeds.Nothing (deeds.Opens e u v) es tt tt

hits_matches : (x y : ℕ) (change : Entry → Entry) (es : List Entry) (o : Option Entry) → Hits (matches x y change es o) es
hits_matches x y change es None = tt
hits_matches x y change es (Some e) = hits_if (is_some e.partner) deeds.Nothing (opens (entry_at x y (changed_at x y change es))) es tt (hits_opens (entry_at x y (changed_at x y change es)) es)

module _ (q : PairState) (refusing : AreRefusing q.entries) where
  pub at_found : (test : Entry → Bool) (e : Entry) → find test q.entries ≡ Some e → is_open e ≡ true → IsAt e q.entries
  at_found test e f o = record { there = (found_among test q.entries e f).0; mine = open_mine e (refusing_found test q.entries e refusing f) o; opened = o }

  hits_hears : (stamp : ℕ) (c : Command) → Hits (hears stamp c q) q.entries
  hits_hears stamp (command.Rts receive send link) =
      hits_if (list_any (sends_on link) q.entries) deeds.Nothing (matches send receive (asked_on_link stamp link) q.entries (entry_at send receive q.entries)) q.entries tt
      (hits_matches send receive (asked_on_link stamp link) q.entries (entry_at send receive q.entries))
  hits_hears stamp (command.Str send receive size) = hits_matches receive send (asked_with_size stamp size) q.entries (entry_at receive send q.entries)
  hits_hears stamp (command.Cls foreign own) = by (entry_at own foreign q.entries) where
    by : (o : Option Entry) → Hits (closings q.busy own foreign q.entries o) q.entries
    by None = tt
    by (Some e) = hits_if e.partner_closed deeds.Nothing (deeds.Ends _) q.entries tt tt
  hits_hears stamp (command.Ret link m n) =
      found_cases (find (receives_on link) q.entries) (λ w. Hits (returns m n w) q.entries) tt tt
      (λ e f o. hits_if (nat_le m e.allocation.messages && nat_le n e.allocation.bits) (deeds.Returns e m n) deeds.Nothing q.entries (at_found (receives_on link) e f o) tt)
  hits_hears stamp c = tt

  hits_arrives : (text : List Bool) (e : Entry) → IsAt e q.entries → (h : Option DataHeader) → Hits (arrives_if e text h) q.entries
  hits_arrives text e at None = tt
  hits_arrives text e at (Some h) = hits_if (is_acceptable e h) (deeds.Arrives e (data_of (data_bits h) text)) deeds.Nothing q.entries at tt

  hits_takes : (link : ℕ) (text : List Bool) → Hits (arrives text (found_in (find (receives_on link) q.entries))) q.entries
  hits_takes link text =
      found_cases (find (receives_on link) q.entries) (λ w. Hits (arrives text w) q.entries) tt tt (λ e f o. hits_arrives text e (at_found (receives_on link) e f o) (header_of text))

-- ---- where a peer has an own end, no life with another peer continues

module _ (a b p : Host) (off : same_host p b ≡ false) where
  clear_at : (k : ℕ) (m : Place) (es : List Entry) (l : Bool) (κ : Kept) → IsAway p m → At a k m p (mine_on k es) l κ → (e : Entry) → Among e es → is_mine_on k e ≡ true → IsClear a b k κ.book.lives
  clear_at k m es l κ away on e there mine = by m (mine_on k es) l (among_kept (is_mine_on k) es e there mine) on where
    by : (m : Place) (ys : List Entry) (l : Bool) → Among e ys → At a k m p ys l κ → IsClear a b k κ.book.lives
    by m [] l is h = absurd is
    by Near (f ∷ []) false is h = λ x among host peer lives.
        let two : (at_socket a k x ≡ true) × (not x.ended ≡ true) = both (at_socket a k x) (not x.ended) lives in
        let i : (t : List Bool) × IsLifeOf p f x t = among_each a k (IsLifeOf p f) κ.book.lives κ.handed x among two.0 (not_is x.ended two.1) h.1 in
        clash ⊥ (same_host p b) (subst (λ (g : Host). same_host p g ≡ true) (sym i.1.peers ∙ peer) (same_host-refl p)) off
    by Near (f ∷ []) true is h = absurd h
    by Near (f ∷ g ∷ more) l is h = absurd h
    by (Elsewhere g y) (f ∷ more) l is h = absurd h

  module _ (κ : Kept) where
    -- the lives of the book after these notices
    abbrev pub Lives : List Notice → List Life
    Lives ns = (all_told a ns κ).book.lives

    abbrev pub Placed : TurnState → Type 0
    Placed t = (k : ℕ) → (m : Place) × IsAway p m × GoodTurn a k m p κ t

    pub clear_end : (t : TurnState) → Placed t → (e : Entry) → Among e t.pair.entries → e.mine ≡ true → IsClear a b e.own (Lives t.notices)
    clear_end t placed e there mine =
        let k : (m : Place) × IsAway p m × GoodTurn a e.own m p κ t = placed e.own in
        clear_at e.own k.0 t.pair.entries (listens_on e.own t.listening) (all_told a t.notices κ) k.1 k.2.on e there own where
          own : is_mine_on e.own e ≡ true
          own = let s : (e.own == e.own) ≡ true = eq-eqb e.own e.own refl in rw (mine, s) refl

    clear_deed : (t : TurnState) → Placed t → (d : Deed) → Hits d t.pair.entries → IsClearOf a b p off d (Lives t.notices)
    clear_deed t placed (deeds.Arrives e bits) h = clear_end t placed e h.there h.mine
    clear_deed t placed (deeds.Leaves e bits) h = clear_end t placed e h.there h.mine
    clear_deed t placed (deeds.Grants e m n) h = clear_end t placed e h.there h.mine
    clear_deed t placed (deeds.Returns e m n) h = clear_end t placed e h.there h.mine
    clear_deed t placed d h = tt

    -- a call
    call_alike : (t : TurnState) → Placed t → (c : Call) → IsTold c → Hits (deed_of c t.pair) t.pair.entries → AreAlike a b (Lives t.notices) (all_lives a (notices_of p c t.pair t.listening) (Lives t.notices))
    call_alike t placed c is h =
        subst (λ (ls : List Life). AreAlike a b (Lives t.notices) ls) (sym (call_told a p t.pair t.listening c is (Lives t.notices)))
        (deed_alike a b p off (deed_of c t.pair) (Lives t.notices) (clear_deed t placed (deed_of c t.pair) h))

    -- ---- a turn, one part after the other

    abbrev Step : TurnState → TurnState → Type 0
    Step t u = Placed t → Placed u × AreAlike a b (Lives t.notices) (Lives u.notices)

    step_then : (t u v : TurnState) → Step t u → Step u v → Step t v
    step_then t u v f g placed =
        let one : Placed u × AreAlike a b (Lives t.notices) (Lives u.notices) = f placed in
        let two : Placed v × AreAlike a b (Lives u.notices) (Lives v.notices) = g one.0 in
        (two.0, alike_then a b (Lives t.notices) (Lives u.notices) (Lives v.notices) one.1 two.1)

    told_more : (ns ms : List Notice) → AreAlike a b (Lives ns) (all_lives a ms (Lives ns)) → AreAlike a b (Lives ns) (Lives (ns ++ ms))
    told_more ns ms l = subst (λ (ls : List Life). AreAlike a b (Lives ns) ls) (sym (ap (λ (k : Kept). k.book.lives) (all_told_append a ns ms κ) ∙ told_lives a ms (all_told a ns κ))) l

    ready_step : (work : DeskState → DeskState) (t : TurnState) → ((k : ℕ) (m : Place) → GoodTurn a k m p κ t → GoodTurn a k m p κ (if_ready work t))
        → (Placed t → AreAlike a b (Lives t.notices) (all_lives a (work (desk_of t.pair t.listening)).notices (Lives t.notices))) → Step t (if_ready work t)
    ready_step work t good alike placed = ((λ k. ((placed k).0, (placed k).1, good k (placed k).0 (placed k).2)), by (is_ready t.pair.phase)) where
      by : (v : Bool) → AreAlike a b (Lives t.notices) (Lives (if v then with_desk t (work (desk_of t.pair t.listening)) else t).notices)
      by true = told_more t.notices (work (desk_of t.pair t.listening)).notices (alike placed)
      by false = alike_same a b (Lives t.notices)

    hear_step : (stamp : ℕ) (c : Command) (t : TurnState) → Step t (if_ready (desk_taken p t.pair.busy stamp c) t)
    hear_step stamp c t =
        ready_step (desk_taken p t.pair.busy stamp c) t (λ k m g. good_ready a k m p κ (desk_taken p t.pair.busy stamp c) t (good_taken a k m p (all_told a t.notices κ) t.pair.busy stamp c (desk_of t.pair t.listening)) g)
        (λ placed. call_alike t placed (Hears stamp 0 c) tt (hits_hears t.pair (placed 0).2.refusing stamp c))

    wrong_step : (c : Command) (t : TurnState) → Step t (if_ready (command_queued c) t)
    wrong_step c t =
        ready_step (command_queued c) t (λ k m g. good_ready a k m p κ (command_queued c) t (good_queued a k m p (all_told a t.notices κ) c (desk_of t.pair t.listening)) g) (λ placed. alike_same a b (Lives t.notices))

    data_step : (link : ℕ) (text : List Bool) (t : TurnState) → Step t (if_ready (data_taken link text) t)
    data_step link text t =
        ready_step (data_taken link text) t (λ k m g. good_ready a k m p κ (data_taken link text) t (good_data a k m p (all_told a t.notices κ) link text (desk_of t.pair t.listening)) g)
        (λ placed. call_alike t placed (Takes link text) tt (hits_takes t.pair (placed 0).2.refusing link text))

    -- ---- RST and RRP

    reset_named : (ph : Phase) → AreNamed a b p (reset_notices p ph)
    reset_named phase.Closed = (tt, tt)
    reset_named phase.Ready = (refl, tt)
    reset_named ph = tt

    reset_step : (t : TurnState) → Step t (reset_taken p t)
    reset_step t placed = (
      (λ k. ((placed k).0, (placed k).1, good_reset a k (placed k).0 p κ t (placed k).2)),
      told_more t.notices (reset_notices p t.pair.phase) (named_alike a b p off (reset_notices p t.pair.phase) (reset_named t.pair.phase) (Lives t.notices)),
    )

    reply_aside : (k : ℕ) (ph : Phase) → AreAside a k (reply_notices p ph)
    reply_aside k phase.Heard = (tt, tt)
    reply_aside k ph = tt

    reply_named : (ph : Phase) → AreNamed a b p (reply_notices p ph)
    reply_named phase.Heard = (tt, tt)
    reply_named ph = tt

    reply_good : (k : ℕ) (m : Place) (t : TurnState) → GoodTurn a k m p κ t → GoodTurn a k m p κ (reply_taken p t)
    reply_good k m t h = record {
      refusing = h.refusing;
      idle = λ i. h.idle (reply_idle t.pair.phase i);
      on = subst (λ (κ : Kept). At a k m p (mine_on k t.pair.entries) (listens_on k t.listening) κ) (sym (all_told_append a t.notices (reply_notices p t.pair.phase) κ))
          (at_aside a k m p (mine_on k t.pair.entries) (listens_on k t.listening) (reply_notices p t.pair.phase) (all_told a t.notices κ) (reply_aside k t.pair.phase) h.on);
    }

    reply_step : (t : TurnState) → Step t (reply_taken p t)
    reply_step t placed = (
      (λ k. ((placed k).0, (placed k).1, reply_good k (placed k).0 t (placed k).2)),
      told_more t.notices (reply_notices p t.pair.phase) (named_alike a b p off (reply_notices p t.pair.phase) (reply_named t.pair.phase) (Lives t.notices)),
    )

    -- ---- a message

    legal_step : (stamp : ℕ) (c : Command) (t : TurnState) → Step t (command_taken p stamp c t)
    legal_step stamp command.Rst t = reset_step t
    legal_step stamp command.Rrp t = reply_step t
    legal_step stamp c t = hear_step stamp c t

    order_step : (stamp : ℕ) (o : Order) (t : TurnState) → Step t (order_taken p stamp o t)
    order_step stamp (Legal c) t = legal_step stamp c t
    order_step stamp (Wrong code octets) t = wrong_step (error code octets) t

    orders_step : (stamp : ℕ) (os : List Order) (t : TurnState) → Step t (orders_taken p stamp os t)
    orders_step stamp [] t = λ placed. (placed, alike_same a b (Lives t.notices))
    orders_step stamp (o ∷ os) t = step_then t (order_taken p stamp o t) (orders_taken p stamp (o ∷ os) t) (order_step stamp o t) (orders_step stamp os (order_taken p stamp o t))

    pub message_alike : (stamp link : ℕ) (text : List Bool) (t : TurnState) → Placed t → AreAlike a b (Lives t.notices) (Lives (message_taken p stamp link text t).notices)
    message_alike stamp link text t placed = by (link == 0) where
      by : (v : Bool) → AreAlike a b (Lives t.notices) (Lives (if v then orders_taken p stamp (orders_of text) t else if_ready (data_taken link text) t).notices)
      by true = (orders_step stamp (orders_of text) t placed).1
      by false = (data_step link text t placed).1

    -- ---- an answer

    failed_alike : (ph : Phase) (t : TurnState) → AreAlike a b (Lives t.notices) (Lives (failed_by p ph t).notices)
    failed_alike phase.Closed t = alike_same a b (Lives t.notices)
    failed_alike phase.Want t = alike_same a b (Lives t.notices)
    failed_alike (phase.Gone early) t = told_more t.notices (notice.ContactFailed p ∷ []) (alike_same a b (Lives t.notices))
    failed_alike phase.Heard t = told_more t.notices (notice.ContactFailed p ∷ []) (alike_same a b (Lives t.notices))
    failed_alike phase.Ready t = told_more t.notices (notice.PairReset p ∷ []) (named_alike a b p off (notice.PairReset p ∷ []) (refl, tt) (Lives t.notices))

    fails_alike : (t : TurnState) → AreAlike a b (Lives t.notices) (Lives (failed p t).notices)
    fails_alike t = by (is_gone t.pair.phase || not t.pair.owed) where
      by : (v : Bool) → AreAlike a b (Lives t.notices) (Lives (if v then failed_by p t.pair.phase t else settled_turn t).notices)
      by true = failed_alike t.pair.phase t
      by false = told_more t.notices [] (alike_same a b (Lives t.notices))

    pub answer_alike : (kind : Answer) (link : ℕ) (t : TurnState) → AreAlike a b (Lives t.notices) (Lives (answered_turn p kind link t).notices)
    answer_alike answer.Rfnm link t = told_more t.notices [] (alike_same a b (Lives t.notices))
    answer_alike kind link t = fails_alike (record t { pair = freed link t.pair })
