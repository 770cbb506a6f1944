-- The lives of a host that leaves its peer, or has left, end and do nothing else.
use Rattle.world_keeps_streams.proofs.Common.{◌≡◌, ◌⊎◌, inl, inr, ℕ, ◌==◌, ◌&&◌, Bool, true, false, List, [], ◌∷◌, filter, Option, Some, None, refl, ap, sym, subst, ◌∙◌, eq-eqb, Host, same_host, HostMessage, same_host-true, is_receive_socket, is_send_socket, is_at, is_ready, Entry, both, HasEnd, at, end_of, is_past, standing, marks, takes_in_stay, MaySend, pair_moved, pair, ready_phase, stays_ready, pair_with, Request, life_ended, IsApart, message_on, Moment, Crossed, Asked, event_in, events_of, places, program, crossings_of, host_in, notices_by, Coupled, clash, origin_in, keeps, Network, AreOurs}
use Rattle.pairing_law.specs.Ends.{End, nothing}
use Rattle.reset_law.specs.Events.{Event, Idle, In, Message, Other, Out, Send, Take, are, when, Reply, Reset}
use Rattle.world_keeps_pairing.proofs.lemmas.{AText, AnRrp, AnRst, IsUnpaired, Sort, all_bare, are_origins, served_in, sort_of}
use Rattle.interface.specs.declared.crossing.Crossing.TheVariants as crossing
use Rattle.ncp_control.specs.declared.phase.Phase.TheVariants as phase
use Rattle.reset_law.specs.Runs.{IsRun}
use Rattle.reset_law.specs.Stays as stay
use Rattle.sockets.specs.declared.request.Request.TheVariants as request
use Rattle.promise.specs.declared.life.Life.{Life}
use Rattle.world_keeps_streams.proofs.Calls.Chain.{plain_at, ready_both}
use Rattle.world_keeps_streams.proofs.Deeds.Effects.{Among, among_kept, among_mapped}
use Rattle.world_keeps_streams.proofs.Lives.Away.{away, away_still}
use Rattle.world_keeps_streams.proofs.Lives.LeavesLists.{AllFine, Bare, IsFineBy, bare_elsewhere, bare_fine, none_of, quiet_of}
use Rattle.world_keeps_streams.proofs.Lives.LeavesTold.{AllUnasked, answer_fine, away_message, idle_fine, offer_fine, reply_fine, request_fine, reset_fine}
use Rattle.world_keeps_streams.proofs.Lives.Left.{no_partner, partner_none, stands_as}
use Rattle.world_keeps_streams.proofs.Lives.Lists.{IsOf, grown}
use Rattle.world_keeps_streams.proofs.Requests.Sides.{Lawful, coupled_in, lives_in, below}
use Rattle.world_keeps_streams.proofs.Books.Whole.{Away}
use Rattle.world_keeps_streams.proofs.Stays.Resets.{leaves_by}

-- ---- a host that doesn't stay has taken no request of the peer for any end

unpaired_none : (hosts : Network) (ms : List Moment) → Lawful hosts ms → (h p : Host) → AreOurs hosts h p
    → (e : Entry) (t : ℕ) → Among e (pair_with p (program h ms).peers).entries → IsUnpaired e.own e.foreign
    → e.partner ≡ Some t → ⊥
unpaired_none hosts ms l h p ours e t there u partner =
    let c : Coupled hosts ms = coupled_in hosts ms l in
    let bare : HasEnd (origin_in (crossings_of ms) h p) e.own e.foreign (pair_with p (program h ms).peers) nothing
    = ((all_bare hosts (origin_in (crossings_of ms)) ms (are_origins 0 (crossings_of ms) [] ms refl) c.story c.run l.1 (served_in hosts ms l.2)).bare h p ours e.own e.foreign u).0 in
    let own : (e.own == e.own) ≡ true = eq-eqb e.own e.own refl in
    let foreign : (e.foreign == e.foreign) ≡ true = eq-eqb e.foreign e.foreign refl in
    let here : is_at e.own e.foreign e ≡ true = (rw (own, foreign) refl) in
    let is : (nothing ≡ end_of (origin_in (crossings_of ms) h p) (standing e)) × (is_past (standing e) ≡ false)
    = stands_as (origin_in (crossings_of ms) h p) 0 (at e.own e.foreign (pair_with p (program h ms).peers).entries) (marks 0 e.own e.foreign (pair_with p (program h ms).peers).queue) nothing (standing e) (bare.ends 0)
    (among_mapped standing (filter (is_at e.own e.foreign) (pair_with p (program h ms).peers).entries) e (among_kept (is_at e.own e.foreign) (pair_with p (program h ms).peers).entries e there here)) in
    partner_none (origin_in (crossings_of ms) h p) (standing e) t partner is.1 (ap (λ (x : End). x.partner) (sym is.0))

module _ (hosts : Network) (ms : List Moment) (l : Lawful hosts ms) (h p : Host) (ours : AreOurs hosts h p)
    (left : stay.stays h p (events_of ms) ≡ false) where
  pub unasked : AllUnasked (pair_with p (program h ms).peers).entries
  unasked e there = by e.partner refl where
    some : (t : ℕ) → e.partner ≡ Some t → (v w : Bool) → (is_receive_socket e.own && is_send_socket e.foreign) ≡ v → (is_send_socket e.own && is_receive_socket e.foreign) ≡ w → ⊥
    some t partner true w f g = no_partner hosts ms l h p ours left e.own e.foreign (inl (both _ _ f)) e t there refl refl partner
    some t partner false true f g = no_partner hosts ms l h p ours left e.own e.foreign (inr (both _ _ g)) e t there refl refl partner
    some t partner false false f g = unpaired_none hosts ms l h p ours e t there (f, g) partner

    by : (o : Option ℕ) → e.partner ≡ o → e.partner ≡ None
    by None e = e
    by (Some t) f = absurd (some t f _ _ refl refl)

-- ---- moments with which a stay continues

module _ (h p : Host) (events : List Event) (ready : stay.ready h p events ≡ true) where
  still : (e : Event) → stay.ready h p (e ∷ events) ≡ true → stay.takes_reset h p e ≡ false → keeps h p e events ≡ true
  still e r k = (rw (r, k) refl)

  keeps_idle : keeps h p Idle events ≡ true
  keeps_idle = still Idle ready refl

  pub keeps_text : (x y : Host) (l : ℕ) (text : List Bool) → keeps h p (In x y l (Other text)) events ≡ true
  keeps_text x y l text = still (In x y l (Other text)) (by (are h p y x)) refl where
    by : (v : Bool) → is_ready (pair_moved (when v (Take (Other text))) (pair h p events)).phase ≡ true
    by true = ready
    by false = ready

  -- its next RST waits for a contact
  pub keeps_out : (hosts : Network) → AreOurs hosts h p → (y : Host) (l : ℕ) (m : Message)
      → IsRun hosts (Out h y l m ∷ events) → keeps h p (Out h y l m) events ≡ true
  keeps_out hosts ours y l m run = still (Out h y l m) (by (are h p h y) refl m (λ e. run.1 (ours.0, plain_at hosts p y (both (same_host h h) (same_host p y) e).1 ours.1))) refl where
    by : (v : Bool) → are h p h y ≡ v → (n : Message) → (are h p h y ≡ true → MaySend (pair h y events) l n)
        → is_ready (pair_moved (when v (Send l n)) (pair h p events)).phase ≡ true
    by false e n may = ready
    by true e Reply may = ready
    by true e (Other text) may = ready
    by true e Reset may =
        let peer : p ≡ y = same_host-true p y (both (same_host h h) (same_host p y) e).1 in
        let want : (pair h p events).phase ≡ phase.Want = ap (λ (x : Host). (pair h x events).phase) peer ∙ (may e).1 in
        clash _ (is_ready (pair h p events).phase) ready (ap is_ready want)

-- ---- what the host of a moment is notified of by it, where it doesn't stay with a peer after it

module _ (hosts : Network) (p : Host) where
  abbrev IsFine : Bool → Moment → List Moment → Type 0
  IsFine calm y ms = IsFineBy calm y × AllFine calm p (notices_by y ms)

  out_here : (calm : Bool) (m : HostMessage) (ms : List Moment) → AreOurs hosts m.flow.source p
      → Lawful hosts (Crossed (crossing.Out m) ∷ ms)
      → stay.stays m.flow.source p (events_of (Crossed (crossing.Out m) ∷ ms)) ≡ false
      → stay.stays m.flow.source p (events_of ms) ≡ calm
      → IsFine calm (Crossed (crossing.Out m)) ms
  out_here true m ms ours l left before =
      let c : Coupled hosts (Crossed (crossing.Out m) ∷ ms) = coupled_in hosts (Crossed (crossing.Out m) ∷ ms) l in
      clash _ (keeps m.flow.source p (event_in (Crossed (crossing.Out m))) (events_of ms))
      (keeps_out m.flow.source p (events_of ms) (stays_ready (events_of ms) m.flow.source p before) hosts ours m.flow.destination m.flow.link.0 (message_on m.flow.link.0 m.text) c.run)
      (leaves_by m.flow.source p (event_in (Crossed (crossing.Out m))) (events_of ms) before left)
  out_here false m ms ours l left before =
      let old : Lawful hosts ms = below hosts (Crossed (crossing.Out m)) ms l in
      (tt, offer_fine false p (program m.flow.source ms) (places ms) refl ((coupled_in hosts ms old).order m.flow.source ours.0) (unasked hosts ms old m.flow.source p ours before))

  text_here : (calm : Bool) (m : HostMessage) (ms : List Moment) → AreOurs hosts m.flow.destination p
      → Lawful hosts (Crossed (crossing.In m) ∷ ms)
      → stay.stays m.flow.destination p (events_of (Crossed (crossing.In m) ∷ ms)) ≡ false
      → stay.stays m.flow.destination p (events_of ms) ≡ calm
      → message_on m.flow.link.0 m.text ≡ Other m.text → IsFine calm (Crossed (crossing.In m)) ms
  text_here true m ms ours l left before is =
      clash _ (keeps m.flow.destination p (In m.flow.source m.flow.destination m.flow.link.0 (Other m.text)) (events_of ms))
      (keeps_text m.flow.destination p (events_of ms) (stays_ready (events_of ms) m.flow.destination p before) m.flow.source m.flow.destination m.flow.link.0 m.text)
      (subst (λ (n : Message). keeps m.flow.destination p (In m.flow.source m.flow.destination m.flow.link.0 n) (events_of ms) ≡ false) is (leaves_by m.flow.destination p (event_in (Crossed (crossing.In m))) (events_of ms) before left))
  text_here false m ms ours l left before is = (tt, by (same_host m.flow.source p) refl (is_ready (pair_with m.flow.source (program m.flow.destination ms).peers).phase) refl) where
    sender : same_host m.flow.source p ≡ true → hosts.strange m.flow.source ≡ false
    sender e = subst (λ (g : Host). hosts.strange g ≡ false) (sym (same_host-true m.flow.source p e)) ours.1

    in_stay : same_host m.flow.source p ≡ true → is_ready (pair_with m.flow.source (program m.flow.destination ms).peers).phase ≡ true → ⊥
    in_stay e r =
        let c : Coupled hosts (Crossed (crossing.In m) ∷ ms) = coupled_in hosts (Crossed (crossing.In m) ∷ ms) l in
        let run : IsRun hosts (In m.flow.source m.flow.destination m.flow.link.0 (Other m.text) ∷ events_of ms) = subst (λ (n : Message). IsRun hosts (In m.flow.source m.flow.destination m.flow.link.0 n ∷ events_of ms)) is c.run in
        let ready : stay.ready m.flow.destination m.flow.source (events_of ms) ≡ true = ready_both hosts m.flow.destination m.flow.source ms (ours.0, sender e) c.story.1 ∙ r in
        let stays : stay.stays m.flow.destination m.flow.source (events_of ms) ≡ true
        = takes_in_stay hosts (events_of ms) m.flow.source m.flow.destination m.flow.link.0 m.text (sender e, ours.0) run (ready_phase (pair m.flow.destination m.flow.source (events_of ms)).phase ready) in
        clash ⊥ (stay.stays m.flow.destination p (events_of ms)) (subst (λ (g : Host). stay.stays m.flow.destination g (events_of ms) ≡ true) (same_host-true m.flow.source p e) stays) before

    by : (v : Bool) → same_host m.flow.source p ≡ v → (r : Bool) → is_ready (pair_with m.flow.source (program m.flow.destination ms).peers).phase ≡ r → AllFine false p (notices_by (Crossed (crossing.In m)) ms)
    by false e r f = away_message false p (program m.flow.destination ms) (places ms) refl m e
    by true e true f = absurd (in_stay e f)
    by true e false f =
        let apart : IsApart m.flow.link.0 m.text (message_on m.flow.link.0 m.text) = (coupled_in hosts (Crossed (crossing.In m) ∷ ms) l).story.0 (sender e, ours.0) in
        idle_fine false p (program m.flow.destination ms) (places ms) m (subst (λ (n : Message). IsApart m.flow.link.0 m.text n) is apart) f

  in_here : (calm : Bool) (m : HostMessage) (ms : List Moment) → AreOurs hosts m.flow.destination p
      → Lawful hosts (Crossed (crossing.In m) ∷ ms)
      → stay.stays m.flow.destination p (events_of (Crossed (crossing.In m) ∷ ms)) ≡ false
      → stay.stays m.flow.destination p (events_of ms) ≡ calm
      → IsFine calm (Crossed (crossing.In m)) ms
  in_here calm m ms ours l left before = by (sort_of m.flow.link.0 m.text) where
    by : Sort m.flow.link.0 m.text → IsFine calm (Crossed (crossing.In m)) ms
    by (AnRst zero orders is) = (tt, reset_fine calm p (program m.flow.destination ms) (places ms) m zero orders)
    by (AnRrp zero orders is) = (tt, reply_fine calm p (program m.flow.destination ms) (places ms) m zero orders)
    by (AText is) = text_here calm m ms ours l left before is

  -- a grant leaves a stay as it is
  grant_here : (calm : Bool) (h : Host) (events : List Event) → stay.stays h p (Idle ∷ events) ≡ false → stay.stays h p events ≡ calm → calm ≡ false
  grant_here true h events left before =
      clash (true ≡ false) (keeps h p Idle events) (keeps_idle h p events (stays_ready events h p before)) (leaves_by h p Idle events before left)
  grant_here false h events left before = refl

  asked_here : (calm : Bool) (h : Host) (r : Request) (ms : List Moment) → stay.stays h p (events_of (Asked h r ∷ ms)) ≡ false → stay.stays h p (events_of ms) ≡ calm → IsFineBy calm (Asked h r)
  asked_here calm h (request.Grant socket messages bits) ms left before = grant_here calm h (events_of ms) left before
  asked_here calm h r ms left before = tt

  fine_here : (calm : Bool) (y : Moment) (ms : List Moment) → AreOurs hosts (host_in y) p → Lawful hosts (y ∷ ms)
      → stay.stays (host_in y) p (events_of (y ∷ ms)) ≡ false → stay.stays (host_in y) p (events_of ms) ≡ calm
      → IsFine calm y ms
  fine_here calm (Crossed (crossing.Out m)) ms ours l left before = out_here calm m ms ours l left before
  fine_here calm (Crossed (crossing.In m)) ms ours l left before = in_here calm m ms ours l left before
  fine_here calm (Crossed (crossing.Answer kind f)) ms ours l left before = (tt, answer_fine calm p (program f.source ms) (places ms) kind f)
  fine_here calm (Crossed (crossing.Down g)) ms ours l left before = (tt, tt)
  fine_here calm (Crossed (crossing.Up g)) ms ours l left before = (tt, tt)
  fine_here calm (Asked g r) ms ours l left before = (asked_here calm g r ms left before, request_fine calm p (program g ms) (places ms) r)

-- ---- so its lives with the peer end and do nothing else, and none begins

module _ (hosts : Network) (h p : Host) (ours : AreOurs hosts h p) (y : Moment) (ms : List Moment)
    (l : Lawful hosts (y ∷ ms)) (left : stay.stays h p (events_of (y ∷ ms)) ≡ false) where
  bare : (calm : Bool) → stay.stays h p (events_of ms) ≡ calm → Bare calm h p (lives_in ms) (lives_in (y ∷ ms))
  bare calm before = by (same_host (host_in y) h) refl where
    by : (v : Bool) → same_host (host_in y) h ≡ v → Bare calm h p (lives_in ms) (lives_in (y ∷ ms))
    by false e = bare_elsewhere calm h p y ms e
    by true e =
        let is : host_in y ≡ h = same_host-true _ h e in
        let fine : IsFineBy calm y × AllFine calm p (notices_by y ms)
        = fine_here hosts p calm y ms (subst (λ (g : Host). hosts.strange g ≡ false) (sym is) ours.0, ours.1) l (subst (λ (g : Host). stay.stays g p (events_of (y ∷ ms)) ≡ false) (sym is) left) (subst (λ (g : Host). stay.stays g p (events_of ms) ≡ calm) (sym is) before) in
        bare_fine calm h p y ms fine.0 fine.1

  pub none_begins : (x : Life) → IsOf x (grown y ms).more → x.host ≡ h → x.peer ≡ p → ⊥
  none_begins = none_of (stay.stays h p (events_of ms)) h p y ms (bare (stay.stays h p (events_of ms)) refl)

  -- where it stayed before
  pub quiet : stay.stays h p (events_of ms) ≡ true → (x : Life) → IsOf x (lives_in ms) → x.host ≡ h → x.peer ≡ p → ((grown y ms).change x ≡ x) ⊎ ((grown y ms).change x ≡ life_ended x)
  quiet before x i f k = quiet_of true h p y ms (bare true before) refl x i f k

  pub leaves : Away h p (lives_in ms) (lives_in (y ∷ ms))
  leaves = by (stay.stays h p (events_of ms)) refl where
    by : (v : Bool) → stay.stays h p (events_of ms) ≡ v → Away h p (lives_in ms) (lives_in (y ∷ ms))
    by true before = away hosts h p ours y ms l left none_begins (quiet before)
    by false before = away_still hosts h p ours y ms l left none_begins before
