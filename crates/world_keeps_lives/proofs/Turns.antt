-- What a pair does with what comes in of its peer, at one socket of the host.
use Rattle.world_keeps_lives.proofs.Common.{◌≡◌, ℕ, ◌==◌, ◌||◌, Bool, true, false, not, if◌then◌else◌, List, [], ◌∷◌, ◌++◌, map, refl, ap, sym, subst, ◌∙◌, Host, same_host, Answer, same_host-refl, Command, Legal, Order, Wrong, error, orders_of, data_taken, DeskState, desk_of, listens_on, command_queued, settled, Entry, Listener, both, Notice, Phase, Life, AreRefusing, IsLifeOf, NoneOf, at_socket, mine_on}
use Rattle.host_pairs.specs.Commands.{desk_taken}
use Rattle.ncp_control.specs.Phases.{is_ready, taken_phase}
use Rattle.host_pairs.specs.Turn.{TurnState, answered_turn, closed, command_taken, failed, failed_by, freed, if_ready, is_gone, message_taken, order_taken, orders_taken, reply_notices, reset_notices, settled_turn, with_desk, reply_taken, reset_taken}
use Rattle.host_pairs.specs.Entries.{closed_when, must_close}
use Rattle.net_sim.specs.Book.{Kept, all_told, lives_with}
use Rattle.interface.specs.declared.crossing.Answer.TheVariants as answer
use Rattle.ncp_control.specs.declared.command.Command.TheVariants as command
use Rattle.host_pairs.specs.declared.notice.Notice.TheVariants as notice
use Rattle.ncp_control.specs.declared.phase.Phase.TheVariants as phase
use Rattle.host_keeps_pairing.proofs.lemmas.{reply_idle, rfnm_idle}
use Rattle.world_keeps_lives.proofs.Books.{all_told_append, each_ended}
use Rattle.world_keeps_lives.proofs.Desks.{AreAside, At, Elsewhere, Near, Place, at_aside, clash}
use Rattle.world_keeps_lives.proofs.Steps.{good_queued, good_settled}
use Rattle.world_keeps_lives.proofs.Takes.{G, good_data, good_taken}

module _ (a : Host) (k : ℕ) (m : Place) (p : Host) (k0 : Kept) where
  pub record GoodTurn (t : TurnState) : Type 0 where
    pub refusing : AreRefusing t.pair.entries
    pub idle : is_ready t.pair.phase ≡ false → t.pair.entries ≡ []
    pub on : At a k m p (mine_on k t.pair.entries) (listens_on k t.listening) (all_told a t.notices k0)

  -- ---- the connections

  ready_done : (work : DeskState → DeskState) (t : TurnState) → is_ready t.pair.phase ≡ true → (G a k m p (all_told a t.notices k0) (desk_of t.pair t.listening) → G a k m p (all_told a t.notices k0) (work (desk_of t.pair t.listening)))
      → GoodTurn t → GoodTurn (with_desk t (work (desk_of t.pair t.listening)))
  ready_done work t ready does h =
      let done : G a k m p (all_told a t.notices k0) (work (desk_of t.pair t.listening)) = does (record { refusing = h.refusing; on = h.on }) in
      let d : DeskState = work (desk_of t.pair t.listening) in
      record {
        refusing = done.refusing;
        idle = λ i. clash _ (is_ready t.pair.phase) ready i;
        on = subst (λ (κ : Kept). At a k m p (mine_on k d.entries) (listens_on k d.listening) κ) (sym (all_told_append a t.notices d.notices k0)) done.on;
      }

  pub good_ready : (work : DeskState → DeskState) (t : TurnState) → (G a k m p (all_told a t.notices k0) (desk_of t.pair t.listening) → G a k m p (all_told a t.notices k0) (work (desk_of t.pair t.listening))) → GoodTurn t → GoodTurn (if_ready work t)
  good_ready work t does h = by (is_ready t.pair.phase) refl where
    by : (b : Bool) → is_ready t.pair.phase ≡ b → GoodTurn (if b then with_desk t (work (desk_of t.pair t.listening)) else t)
    by true ready = ready_done work t ready does h
    by false idle = h

  -- ---- the reset

  pub cleared_on : (ms : List Entry) (l : Bool) (κ : Kept) → At a k m p ms l κ → At a k m p [] l (all_told a (notice.PairReset p ∷ []) κ)
  cleared_on ms l κ h = by m ms l h where
    all : (e : Entry) (x : Life) (t : List Bool) → at_socket a k x ≡ true → x.ended ≡ false → IsLifeOf p e x t → lives_with a p x ≡ true
    all e x t there goes i =
        let peer : same_host p x.peer ≡ true = subst (λ (g : Host). same_host p g ≡ true) (sym i.peers) (same_host-refl p) in
        let host : same_host a x.host ≡ true = (both (same_host a x.host) (x.socket == k) there).0 in
        rw (host, peer, goes) refl

    by : (n : Place) (ms : List Entry) (l : Bool) → At a k n p ms l κ → At a k n p [] l (all_told a (notice.PairReset p ∷ []) κ)
    by n [] l i = at_aside a k n p [] l (notice.PairReset p ∷ []) κ (tt, tt) i
    by Near (e ∷ []) false i = each_ended a k (lives_with a p) (IsLifeOf p e) NoneOf κ.book.lives κ.handed (λ x t there goes j. all e x t there goes j) i.1
    by Near (e ∷ []) true i = absurd i
    by Near (e ∷ f ∷ ms) l i = absurd i
    by (Elsewhere g y) (e ∷ ms) l i = absurd i

  -- the pair's ends are gone, and this is reported of it
  cleared : (ns : List Notice) (t : TurnState) (new : TurnState) → new.pair.entries ≡ [] → new.listening ≡ t.listening → new.notices ≡ t.notices ++ ns
      → At a k m p [] (listens_on k t.listening) (all_told a ns (all_told a t.notices k0)) → GoodTurn new
  cleared ns t new entries listening notices h = record {
    refusing = subst (λ (es : List Entry). AreRefusing es) (sym entries) tt;
    idle = λ i. entries;
    on = subst (λ (es : List Entry). At a k m p (mine_on k es) (listens_on k new.listening) (all_told a new.notices k0)) (sym entries)
        (subst (λ (ls : List Listener). At a k m p [] (listens_on k ls) (all_told a new.notices k0)) (sym listening)
        (subst (λ (ms : List Notice). At a k m p [] (listens_on k t.listening) (all_told a ms k0)) (sym notices)
        (subst (λ (κ : Kept). At a k m p [] (listens_on k t.listening) κ) (sym (all_told_append a t.notices ns k0)) h)));
  }

  -- one that isn't ready had none
  none_gone : (ns : List Notice) (t : TurnState) → AreAside a k ns → is_ready t.pair.phase ≡ false → GoodTurn t → At a k m p [] (listens_on k t.listening) (all_told a ns (all_told a t.notices k0))
  none_gone ns t off idle h =
      at_aside a k m p [] _ ns _ off
      (subst (λ (es : List Entry). At a k m p (mine_on k es) (listens_on k t.listening) (all_told a t.notices k0)) (h.idle idle) h.on)

  pub good_reset : (t : TurnState) → GoodTurn t → GoodTurn (reset_taken p t)
  good_reset t h = by t.pair.phase refl where
    by : (ph : Phase) → t.pair.phase ≡ ph → GoodTurn (reset_taken p t)
    by ph e = cleared _ t _ refl refl (ap (λ (x : Phase). t.notices ++ reset_notices p x) e) (told_by ph e) where
      idle : (ph : Phase) → t.pair.phase ≡ ph → is_ready ph ≡ false → is_ready t.pair.phase ≡ false
      idle ph e f = ap is_ready e ∙ f

      told_by : (ph : Phase) → t.pair.phase ≡ ph → At a k m p [] (listens_on k t.listening) (all_told a (reset_notices p ph) (all_told a t.notices k0))
      told_by phase.Closed e = none_gone (notice.Ready p ∷ []) t (tt, tt) (idle phase.Closed e refl) h
      told_by phase.Ready e = cleared_on (mine_on k t.pair.entries) (listens_on k t.listening) (all_told a t.notices k0) h.on
      told_by ph e = none_gone [] t tt (idle ph e refl) h

  reply_aside : (ph : Phase) → AreAside a k (reply_notices p ph)
  reply_aside phase.Heard = (tt, tt)
  reply_aside ph = tt

  good_reply : (t : TurnState) → GoodTurn t → GoodTurn (reply_taken p t)
  good_reply t h = record {
    refusing = h.refusing;
    idle = λ i. h.idle (reply_idle t.pair.phase i);
    on = subst (λ (κ : Kept). At a k m p (mine_on k t.pair.entries) (listens_on k t.listening) κ) (sym (all_told_append a t.notices _ k0))
        (at_aside a k m p _ _ _ _ (reply_aside t.pair.phase) h.on);
  }

  -- ---- messages

  good_command : (stamp : ℕ) (c : Command) (t : TurnState) → GoodTurn t → GoodTurn (if_ready (desk_taken p t.pair.busy stamp c) t)
  good_command stamp c t h = good_ready (desk_taken p t.pair.busy stamp c) t (good_taken a k m p _ t.pair.busy stamp c (desk_of t.pair t.listening)) h

  good_legal : (stamp : ℕ) (c : Command) (t : TurnState) → GoodTurn t → GoodTurn (command_taken p stamp c t)
  good_legal stamp command.Rst t h = good_reset t h
  good_legal stamp command.Rrp t h = good_reply t h
  good_legal stamp c t h = good_command stamp c t h

  good_order : (stamp : ℕ) (o : Order) (t : TurnState) → GoodTurn t → GoodTurn (order_taken p stamp o t)
  good_order stamp (Legal c) t h = good_legal stamp c t h
  good_order stamp (Wrong code octets) t h = good_ready (command_queued (error code octets)) t (good_queued a k m p _ (error code octets) (desk_of t.pair t.listening)) h

  good_orders : (stamp : ℕ) (os : List Order) (t : TurnState) → GoodTurn t → GoodTurn (orders_taken p stamp os t)
  good_orders stamp [] t h = h
  good_orders stamp (o ∷ os) t h = good_orders stamp os (order_taken p stamp o t) (good_order stamp o t h)

  pub good_message : (stamp link : ℕ) (text : List Bool) (t : TurnState) → GoodTurn t → GoodTurn (message_taken p stamp link text t)
  good_message stamp link text t h = by (link == 0) where
    by : (b : Bool) → GoodTurn (if b then orders_taken p stamp (orders_of text) t else if_ready (data_taken link text) t)
    by true = good_orders stamp (orders_of text) t h
    by false = good_ready (data_taken link text) t (good_data a k m p _ link text (desk_of t.pair t.listening)) h

  -- ---- answers

  good_settled_turn : (t : TurnState) → GoodTurn t → GoodTurn (settled_turn t)
  good_settled_turn t h =
      let done : G a k m p (all_told a t.notices k0) (settled t.pair.busy (desk_of t.pair t.listening)) = good_settled a k m p (all_told a t.notices k0) t.pair.busy (desk_of t.pair t.listening) (record { refusing = h.refusing; on = h.on }) in
      record {
        refusing = done.refusing;
        idle = λ i. ap (λ (es : List Entry). map (λ e. closed_when (must_close t.pair.busy e) e) es) (h.idle i);
        on = subst (λ (κ : Kept). At a k m p (mine_on k (settled t.pair.busy (desk_of t.pair t.listening)).entries) (listens_on k t.listening) κ) (sym (all_told_append a t.notices [] k0)) done.on;
      }

  fails : (ph : Phase) (t : TurnState) → t.pair.phase ≡ ph → GoodTurn t → GoodTurn (failed_by p ph t)
  fails phase.Closed t e h = h
  fails phase.Want t e h = h
  fails (phase.Gone early) t e h = cleared _ t _ refl refl refl (none_gone (notice.ContactFailed p ∷ []) t (tt, tt) (ap is_ready e) h)
  fails phase.Heard t e h = cleared _ t _ refl refl refl (none_gone (notice.ContactFailed p ∷ []) t (tt, tt) (ap is_ready e) h)
  fails phase.Ready t e h =
      cleared _ t _ refl refl refl (cleared_on _ _ _ h.on)

  good_failed : (t : TurnState) → GoodTurn t → GoodTurn (failed p t)
  good_failed t h = by (is_gone t.pair.phase || not t.pair.owed) where
    by : (b : Bool) → GoodTurn (if b then failed_by p t.pair.phase t else settled_turn t)
    by true = fails t.pair.phase t refl h
    by false = good_settled_turn t h

  pub good_answer : (kind : Answer) (link : ℕ) (t : TurnState) → GoodTurn t → GoodTurn (answered_turn p kind link t)
  good_answer answer.Rfnm link t h =
      good_settled_turn _
      (record { refusing = h.refusing; idle = λ i. h.idle (rfnm_idle (link == 0) t.pair.phase i); on = h.on })
  good_answer kind link t h = good_failed _ (record { refusing = h.refusing; idle = h.idle; on = h.on })
