-- What a program reports of a peer with which its host does not stay, or which it leaves: none of it opens an end with that peer.
use Rattle.world_keeps_streams.proofs.Common.{◌≡◌, ◌⊎◌, inl, inr, ℕ, ◌*◌, ◌==◌, ◌||◌, not, Bool, true, false, if◌then◌else◌, List, [], ◌∷◌, ◌++◌, filter, take, Option, Some, None, refl, ap, sym, subst, ◌∙◌, flat_map, Host, same_host, Flow, Answer, HostMessage, same_host-refl, same_host-true, Command, AreAbout, IsAbout, Order, Legal, Wrong, orders_of, DeskState, desk_of, swept, Parcel, asked_at, cls_sent, command_gone, commands_gone, parcel_gone, is_ready, TurnState, answered_turn, failed_by, freed, is_gone, message_taken, order_taken, orders_taken, reply_notices, reset_notices, settled_turn, Entry, Notice, Phase, NcpState, pair_with, AreInOrder, Peer, Request, clash}
use Rattle.host_pairs.specs.Commands.{changed}
use Rattle.host_pairs.specs.Entries.{changed_at, changed_first, ending, entry_at, is_at, is_busy, opening_notices, opening_by, is_over}
use Rattle.sockets.specs.Accepting.{turn_of, after_turn, accepted}
use Rattle.sockets.specs.Sending.{next_in, offered_by, offered}
use Rattle.sockets.proofs.lemmas.{message_about, next_pair, offer_about}
use Rattle.net_sim.specs.Projection.{AllPlain, IsPlain}
use Rattle.interface.specs.declared.crossing.Answer.TheVariants as answer
use Rattle.interface.specs.declared.crossing.Inbound.TheVariants as inbound
use Rattle.ncp_control.specs.declared.command.Command.TheVariants as command
use Rattle.host_pairs.specs.Parcels as parcel
use Rattle.host_pairs.specs.declared.notice.Notice.TheVariants as notice
use Rattle.ncp_control.specs.declared.phase.Phase.TheVariants as phase
use Rattle.sockets.specs.Requests.{served_notices}
use Rattle.sockets.specs.declared.request.Request.TheVariants as request
use Rattle.world_keeps_streams.proofs.Deeds.Effects.{Among, Changed, among_changed, among_filter, found_among}
use Rattle.world_keeps_streams.proofs.Lives.LeavesLists.{AllFine, Fine, fine_both}

-- ---- ends of which none has a request of the peer

abbrev pub AllUnasked : List Entry → Type 0
AllUnasked es = (e : Entry) → Among e es → e.partner ≡ None

unasked_changed : (test : Entry → Bool) (change : Entry → Entry) (es : List Entry) → ((e : Entry) → (change e).partner ≡ e.partner) → AllUnasked es → AllUnasked (changed_first test change es)
unasked_changed test change es same none e i = by (among_changed test change es e i) where
  by : Among e es ⊎ Changed test change es e → e.partner ≡ None
  by (inl there) = none e there
  by (inr c) = ap (λ (x : Entry). x.partner) (sym c.is) ∙ same c.end ∙ none c.end c.there

-- nothing is reported of an opening
opening_none : (peer : Host) (o : Option Entry) → ((e : Entry) → o ≡ Some e → e.partner ≡ None) → opening_notices peer o ≡ []
opening_none peer None none = refl
opening_none peer (Some e) none = ap (opening_by peer e e.asked) (none e refl) ∙ by e.asked where
  by : (asked : Option ℕ) → opening_by peer e asked None ≡ []
  by None = refl
  by (Some n) = refl

-- ---- what goes out

module _ (calm : Bool) (p : Host) where
  fine_ending : (peer : Host) (e : Entry) → AllFine calm p (ending peer e)
  fine_ending peer e = by e.mine where
    by : (v : Bool) → AllFine calm p (if v then notice.Ended e.own peer e.foreign ∷ [] else [])
    by true = (tt, tt)
    by false = tt

  fine_endings : (peer : Host) (es : List Entry) → AllFine calm p (flat_map (ending peer) es)
  fine_endings peer [] = tt
  fine_endings peer (e ∷ es) = fine_both calm p _ _ (fine_ending peer e) (fine_endings peer es)

  abbrev Desk : DeskState → Type 0
  Desk d = AllUnasked d.entries × AllFine calm p d.notices

  desk_asked : (peer : Host) (stamp own foreign : ℕ) (d : DeskState) → Desk d → Desk (parcel.request_gone peer stamp own foreign d)
  desk_asked peer stamp own foreign d h =
      let none : AllUnasked (changed_at own foreign _ d.entries) = unasked_changed _ _ d.entries (λ e. refl) h.0 in (
        none,
        fine_both calm p d.notices _ h.1
            (subst (λ (ns : List Notice). AllFine calm p ns) (sym (opening_none peer _
            (λ e is. unasked_changed (is_at own foreign) (asked_at stamp) d.entries (λ x. refl) h.0 e (found_among _ _ e is).0))) tt),
      )

  desk_closed : (peer : Host) (own foreign : ℕ) (d : DeskState) → Desk d → Desk (swept peer (changed (is_at own foreign) cls_sent d))
  desk_closed peer own foreign d h =
      let es : List Entry = changed_at own foreign cls_sent d.entries in (
        (λ e i. unasked_changed (is_at own foreign) cls_sent d.entries (λ x. refl) h.0 e (among_filter (λ x. not (is_over x)) (changed_at own foreign cls_sent d.entries) e i).0),
        fine_both calm p d.notices (flat_map (ending peer) (filter is_over es)) h.1 (fine_endings peer (filter is_over es)),
      )

  desk_gone : (peer : Host) (stamp : ℕ) (c : Command) (d : DeskState) → Desk d → Desk (command_gone peer stamp c d)
  desk_gone peer stamp (command.Rts receive send link) d h = desk_asked peer stamp receive send d h
  desk_gone peer stamp (command.Str send receive size) d h = desk_asked peer stamp send receive d h
  desk_gone peer stamp (command.Cls own foreign) d h = desk_closed peer own foreign d h
  desk_gone peer stamp c d h = h

  desk_all : (peer : Host) (stamp : ℕ) (cs : List Command) (d : DeskState) → Desk d → Desk (commands_gone peer stamp cs d)
  desk_all peer stamp [] d h = h
  desk_all peer stamp (c ∷ cs) d h = desk_all peer stamp cs (command_gone peer stamp c d) (desk_gone peer stamp c d h)

  parcel_fine : calm ≡ false → (peer : Host) (stamp : ℕ) (busy : List ℕ) (x : Parcel) (d : DeskState) → Desk d → AllFine calm p (parcel_gone peer stamp busy x d).notices
  parcel_fine loud peer stamp busy parcel.Reset d h = h.1
  parcel_fine loud peer stamp busy parcel.Reply d h = h.1
  parcel_fine loud peer stamp busy (parcel.Commands count) d h = (desk_all peer stamp (take count d.queue) d h).1
  parcel_fine loud peer stamp busy (parcel.Bytes e size count) d h = fine_both calm p d.notices (notice.Sent e.own (take (size * count) e.bits) ∷ []) h.1 (loud, tt)

  -- ---- what is reported of another peer

  away_fine : calm ≡ false → (g : Host) → same_host g p ≡ false → (n : Notice) → IsAbout g n → Fine calm p n
  away_fine loud g away (notice.Opened socket peer foreign own partner) about = λ e. clash ⊥ (same_host g p) (ap (λ (x : Host). same_host x p) (sym about ∙ e) ∙ same_host-refl p) away
  away_fine loud g away (notice.Sent socket bits) about = loud
  away_fine loud g away (notice.Arrived socket bits) about = loud
  away_fine loud g away (notice.Returned socket messages bits) about = loud
  away_fine loud g away n about = tt

  pub all_away : calm ≡ false → (g : Host) → same_host g p ≡ false → (ns : List Notice) → AreAbout g ns → AllFine calm p ns
  all_away loud g away [] about = tt
  all_away loud g away (n ∷ ns) about = (away_fine loud g away n about.0, all_away loud g away ns about.1)

  -- ---- a program

  module _ (s : NcpState) (stamp : ℕ) where
    -- a message goes out
    pub offer_fine : calm ≡ false → AreInOrder s.peers → AllUnasked (pair_with p s.peers).entries → AllFine calm p (offered s stamp).1
    unfolding offered
    offer_fine loud order none = by (next_in s.peers) refl where
      by : (o : Option (Peer × Parcel)) → next_in s.peers ≡ o → AllFine calm p (offered_by s stamp (next_in s.peers)).1
      by None e = rw e tt
      by (Some (g, x)) e = at (same_host g.host p) refl where
        at : (v : Bool) → same_host g.host p ≡ v → AllFine calm p (offered_by s stamp (next_in s.peers)).1
        at true f =
            let there : pair_with p s.peers ≡ g.pair = ap (λ (h : Host). pair_with h s.peers) (sym (same_host-true g.host p f)) ∙ next_pair s.peers g x order e in
            rw e (parcel_fine loud g.host stamp g.pair.busy x _ (subst (λ q. AllUnasked q.entries) there none, tt))
        at false f = all_away loud g.host f _ (offer_about s stamp g x e)

    -- ---- an answer

    module _ (peer : Host) (link : ℕ) (t : TurnState) (told : AllFine calm p t.notices) where
      one_more : (n : Notice) → Fine calm p n → AllFine calm p (t.notices ++ n ∷ [])
      one_more n f = fine_both calm p t.notices _ told (f, tt)

      no_more : AllFine calm p (t.notices ++ [])
      no_more = fine_both calm p t.notices [] told tt

      fails : (ph : Phase) → AllFine calm p (failed_by peer ph (record t { pair = freed link t.pair })).notices
      fails phase.Closed = told
      fails phase.Want = told
      fails (phase.Gone early) = one_more _ tt
      fails phase.Heard = one_more _ tt
      fails phase.Ready = one_more _ tt

      lost : (v : Bool) → AllFine calm p (if v then failed_by peer t.pair.phase (record t { pair = freed link t.pair }) else settled_turn (record t { pair = freed link t.pair })).notices
      lost true = fails t.pair.phase
      lost false = no_more

      answer_turn : (kind : Answer) → AllFine calm p (answered_turn peer kind link t).notices
      answer_turn answer.Rfnm = no_more
      answer_turn kind = lost _

    if_fine : (v : Bool) (x y : NcpState × List Notice) → AllFine calm p x.1 → AllFine calm p y.1 → AllFine calm p (if v then x else y).1
    if_fine true x y a b = a
    if_fine false x y a b = b

    pub answer_fine : (kind : Answer) (f : Flow) → AllFine calm p (accepted s (inbound.Answer kind f) stamp).1
    unfolding accepted
    answer_fine kind f =
        if_fine (same_host s.own f.source) (if is_busy (pair_with f.destination s.peers).busy f.link.0 then after_turn s f.destination (answered_turn f.destination kind f.link.0 (turn_of s f.destination)) else (s, [])) (s, [])
        (if_fine (is_busy (pair_with f.destination s.peers).busy f.link.0) (after_turn s f.destination (answered_turn f.destination kind f.link.0 (turn_of s f.destination))) (s, [])
        (answer_turn f.destination f.link.0 (turn_of s f.destination) tt kind) tt) tt

    -- ---- a message

    message_fine : (m : HostMessage) → AllFine calm p (message_taken m.flow.source stamp m.flow.link.0 m.text (turn_of s m.flow.source)).notices → AllFine calm p (accepted s (inbound.Message m) stamp).1
    unfolding accepted
    message_fine m fine = if_fine _ _ (s, []) fine tt

    reset_told : (peer : Host) (ph : Phase) → AllFine calm p (reset_notices peer ph)
    reset_told peer phase.Closed = (tt, tt)
    reset_told peer phase.Ready = (tt, tt)
    reset_told peer ph = tt

    reply_told : (peer : Host) (ph : Phase) → AllFine calm p (reply_notices peer ph)
    reply_told peer phase.Heard = (tt, tt)
    reply_told peer ph = tt

    -- an RST is taken
    pub reset_fine : (m : HostMessage) → (m.flow.link.0 == 0) ≡ true → orders_of m.text ≡ Legal command.Rst ∷ [] → AllFine calm p (accepted s (inbound.Message m) stamp).1
    reset_fine m zero orders = message_fine m (rw (zero, orders) (reset_told m.flow.source _))

    -- an RRP is taken
    pub reply_fine : (m : HostMessage) → (m.flow.link.0 == 0) ≡ true → orders_of m.text ≡ Legal command.Rrp ∷ [] → AllFine calm p (accepted s (inbound.Message m) stamp).1
    reply_fine m zero orders = message_fine m (rw (zero, orders) (reply_told m.flow.source _))

    -- any other is taken by a pair that isn't ready
    order_idle : (peer : Host) (o : Order) (t : TurnState) → IsPlain o → is_ready t.pair.phase ≡ false → order_taken peer stamp o t ≡ t
    order_idle peer (Wrong code octets) t plain idle = rw idle refl
    order_idle peer (Legal command.Rst) t plain idle = absurd (let no : true ≡ false = plain.0 in cc)
    order_idle peer (Legal command.Rrp) t plain idle = absurd (let no : true ≡ false = plain.1 in cc)
    order_idle peer (Legal c) t plain idle = rw idle refl

    orders_idle : (peer : Host) (os : List Order) (t : TurnState) → AllPlain os → is_ready t.pair.phase ≡ false → orders_taken peer stamp os t ≡ t
    orders_idle peer [] t plain idle = refl
    orders_idle peer (o ∷ os) t plain idle = ap (orders_taken peer stamp os) (order_idle peer o t plain.0 idle) ∙ orders_idle peer os t plain.1 idle

    text_idle : (peer : Host) (link : ℕ) (text : List Bool) (t : TurnState) → ((link == 0) ≡ true → AllPlain (orders_of text)) → is_ready t.pair.phase ≡ false → message_taken peer stamp link text t ≡ t
    text_idle peer link text t plain idle = by (link == 0) refl where
      by : (z : Bool) → (link == 0) ≡ z → message_taken peer stamp link text t ≡ t
      by true e = rw e (orders_idle peer _ t (plain e) idle)
      by false e = rw (e, idle) refl

    pub idle_fine : (m : HostMessage) → ((m.flow.link.0 == 0) ≡ true → AllPlain (orders_of m.text)) → is_ready (pair_with m.flow.source s.peers).phase ≡ false → AllFine calm p (accepted s (inbound.Message m) stamp).1
    idle_fine m plain idle =
        message_fine m (subst (λ (t : TurnState). AllFine calm p t.notices) (sym (text_idle m.flow.source m.flow.link.0 m.text _ plain idle)) tt)

    -- a message of another peer
    pub away_message : calm ≡ false → (m : HostMessage) → same_host m.flow.source p ≡ false → AllFine calm p (accepted s (inbound.Message m) stamp).1
    away_message loud m away = all_away loud m.flow.source away _ (message_about s m stamp)

    -- ---- what a user asks for

    contact_told : (peer : Host) (v : Bool) → AllFine calm p (if v then notice.PairReset peer ∷ [] else [])
    contact_told peer true = (tt, tt)
    contact_told peer false = tt

    pub request_fine : (r : Request) → AllFine calm p (served_notices s r)
    unfolding served_notices
    request_fine (request.Contact peer) = contact_told peer _
    request_fine r = tt
