-- Each moment keeps what a host has at two sockets.
use Rattle.world_keeps_pairing.proofs.Common.{◌≡◌, ◌⊎◌, inl, inr, ℕ, Bool, true, false, ◌&&◌, if◌then◌else◌, List, [], ◌∷◌, None, refl, ap, sym, subst, ◌∙◌, Host, same_host, Flow, Answer, HostMessage, same_host-refl, same_host-true, PairState, NcpState, opening_state, pair_with, refusal, served, offered, Request, IsRanged, all_gone, after_request, opening_has, request_keeps, same_kept, End, nothing, Mark, placed_event, Side, Sockets, Who, Event, Message, Reset, Reply, Other, In, are, place, event_of, event_by, Moment, Crossed, Asked, IsNext, IsStory, event_in, events_of, places, program, law_events, AreOurs, Network}
use Rattle.host_keeps_pairing.specs.Ends.{HasEnd, kept_in}
use Rattle.reset_law.specs.Boxes.{Box, Empty, Waiting, Taken, WaitsWith}
use Rattle.net_sim.proofs.lemmas.{by_request, place_same, places_same, story_agrees}
use Rattle.interface.specs.declared.crossing.Crossing.TheVariants as crossing
use Rattle.interface.specs.declared.crossing.Inbound.TheVariants as inbound
use Rattle.ncp_control.specs.Phases as program_phases
use Rattle.sockets.specs.declared.request.Request.TheVariants as request
use Rattle.reset_law.specs.Stays as stay
use Rattle.world_keeps_pairing.proofs.Sides.{all_says, at_texts, half}
use Rattle.world_keeps_pairing.proofs.Marks.{IsPair, foreign_of, own_of}
use Rattle.world_keeps_pairing.proofs.Moves.{says_end}
use Rattle.world_keeps_pairing.proofs.Programs.{Has, answer_has, in_leaves, out_has, read_marks}
use Rattle.world_keeps_pairing.proofs.Turns.{IsQuiet, hears_none, other, ready_is, said_is, tie_by, tie_quiet, when_all}

-- the place of a message that waits
pub waiting : (x : Box) (m : Message) → WaitsWith x m → (p : ℕ) × (x ≡ Waiting p m)
waiting Empty m w = absurd w
waiting (Waiting p n) m w = (p, ap (λ (y : Message). Waiting p y) w)
waiting (Taken p n) m w = absurd w

pub place_is : (moments : List Moment) → place (events_of moments) ≡ places moments
place_is moments = place_same moments ∙ sym (places_same moments)

-- of what a user asks only a contact changes what a program has
contact_else : (p : Host) (r : Request) (x : End) → ((peer : Host) × (r ≡ request.Contact peer)) ⊎ (after_request p r x ≡ x)
contact_else p (request.Contact peer) x = inl (peer, refl)
contact_else p r x = inr refl

module _ (s : Sockets) (is_pair : IsPair s) (who : Who) (h p : Host) (origin : ℕ → ℕ) where
  abbrev own : ℕ
  own = own_of who s

  abbrev foreign : ℕ
  foreign = foreign_of who s

  -- one of the two hosts by the steps
  abbrev pub Side_of : List Moment → Side
  Side_of moments = half h p (at_texts s who) (at_texts s (other who)) (law_events moments)

  -- its program has the end that it has by the steps
  abbrev pub Tie : List Moment → Type 0
  Tie moments = HasEnd origin (own_of who s) (foreign_of who s) (pair_with p (program h moments).peers) (Side_of moments).end

  -- what a host says by it
  abbrev pub said_out : HostMessage → List Moment → List Mark
  said_out m moments = when_all (same_host h m.flow.source) (same_host p m.flow.destination) (read_marks (place (events_of moments)) (own_of who s) (foreign_of who s) m.flow.link.0 m.text)

  off : (a b : Bool) → ((a ≡ false) ⊎ (b ≡ false)) → (a && b) ≡ false
  off true true (inl e) = e
  off true true (inr e) = e
  off true false k = refl
  off false b k = refl

  pub swap_off : (a b : Bool) → ((a ≡ false) ⊎ (b ≡ false)) → (b && a) ≡ false
  swap_off a b (inl e) = off b a (inr e)
  swap_off a b (inr e) = off b a (inl e)

  module _ (hosts : Network) (ours : AreOurs hosts h p) where
    -- ---- events that say nothing

    quiet_turn : (x : Moment) (moments : List Moment) → IsStory hosts (x ∷ moments) → IsQuiet origin own foreign h p (at_texts s who) (at_texts s (other who)) (placed_event (event_in x) (events_of moments)) (law_events moments) (Side_of moments) (pair_with p (program h (x ∷ moments)).peers)
        → HasEnd origin own foreign (pair_with p (program h (x ∷ moments)).peers) (kept_in (pair_with p (program h (x ∷ moments)).peers) (Side_of moments).end) → Tie (x ∷ moments)
    quiet_turn x moments story quiet k =
        tie_quiet origin own foreign h p (at_texts s who) (at_texts s (other who)) (placed_event (event_in x) (events_of moments)) (law_events moments) (Side_of moments) (pair_with p (program h (x ∷ moments)).peers)
        refl refl (ready_is hosts h p (x ∷ moments) ours story) quiet k

    -- a program that is as before
    same_turn : (b : Bool) (t old : NcpState) (x : End) → (b ≡ true → HasEnd origin own foreign (pair_with p t.peers) (kept_in (pair_with p t.peers) x)) → Has origin own foreign p old x
        → HasEnd origin own foreign (pair_with p (if b then t else old).peers) (kept_in (pair_with p (if b then t else old).peers) x)
    same_turn true t old x k h = k refl
    same_turn false t old x k h = same_kept origin own foreign _ x h

    pub down_turn : (g : Host) (moments : List Moment) → IsStory hosts (Crossed (crossing.Down g) ∷ moments) → Tie moments → Tie (Crossed (crossing.Down g) ∷ moments)
    down_turn g moments story t =
        quiet_turn (Crossed (crossing.Down g)) moments story (refl, refl, refl)
        (same_turn (same_host h g) _ _ _ (λ e. opening_has origin own foreign h p) t)

    pub up_turn : (g : Host) (moments : List Moment) → IsStory hosts (Crossed (crossing.Up g) ∷ moments) → Tie moments → Tie (Crossed (crossing.Up g) ∷ moments)
    up_turn g moments story t =
        quiet_turn (Crossed (crossing.Up g)) moments story (refl, refl, refl)
        (same_turn (same_host h g) _ _ _ (λ e. opening_has origin own foreign h p) t)

    pub answer_turn : (kind : Answer) (f : Flow) (moments : List Moment) → IsStory hosts (Crossed (crossing.Answer kind f) ∷ moments) → Tie moments → Tie (Crossed (crossing.Answer kind f) ∷ moments)
    answer_turn kind f moments story t =
        quiet_turn (Crossed (crossing.Answer kind f)) moments story (refl, refl, refl)
        (same_turn _ _ _ _
        (λ e. answer_has origin own foreign (program h moments) kind f (places moments) p (Side_of moments).end t (same_host p f.destination) refl) t)

    -- ---- what a user asks for

    quiet_asked : (g : Host) (r : Request) (moments : List Moment) (x : Side) (q : PairState) → IsQuiet origin own foreign h p (at_texts s who) (at_texts s (other who)) (placed_event (event_by g r) (events_of moments)) (law_events moments) x q
    quiet_asked g r moments x q =
        by_request (λ e. IsQuiet origin own foreign h p (at_texts s who) (at_texts s (other who)) (placed_event e (events_of moments)) (law_events moments) x q) g r (λ peer. (refl, refl, refl)) (refl, refl, refl)

    -- a contact leaves the pair unready
    contact_end : (b : Bool) (q : PairState) (x : End) → (b ≡ true → program_phases.is_ready q.phase ≡ false) → HasEnd origin own foreign q (if b then nothing else x) → HasEnd origin own foreign q (kept_in q x)
    contact_end true q x idle k = subst (λ (y : Bool). HasEnd origin own foreign q (if y then x else nothing)) (sym (idle refl)) k
    contact_end false q x idle k = same_kept origin own foreign q x k

    contact_unready : (peer : Host) (moments : List Moment) → IsStory hosts (Asked h (request.Contact peer) ∷ moments) → same_host p peer ≡ true → program_phases.is_ready (pair_with p (program h (Asked h (request.Contact peer) ∷ moments)).peers).phase ≡ false
    contact_unready peer moments story same =
        let there : are h p h peer ≡ true = ap (λ (b : Bool). b && same_host p peer) (same_host-refl h) ∙ same in
        sym (ready_is hosts h p (Asked h (request.Contact peer) ∷ moments) ours story) ∙ rw there refl

    asked_kept : (r : Request) (moments : List Moment) → IsStory hosts (Asked h r ∷ moments) → refusal (program h moments) r ≡ None → Tie moments
        → HasEnd origin own foreign (pair_with p (program h (Asked h r ∷ moments)).peers) (kept_in (pair_with p (program h (Asked h r ∷ moments)).peers) (Side_of moments).end)
    asked_kept r moments story ok t =
        let now : Has origin own foreign p (served (program h moments) r) (after_request p r (Side_of moments).end) = request_keeps origin own foreign _ r p _ ok t in
        let there : Has origin own foreign p (program h (Asked h r ∷ moments)) (after_request p r (Side_of moments).end) =
        subst (λ (b : Bool). Has origin own foreign p (if b then served (program h moments) r else program h moments) (after_request p r (Side_of moments).end)) (sym (same_host-refl h)) now in
        elim (contact_else p r _) [
          | inl c ↦
              contact_end _ _ _
              (λ same. subst (λ (y : Request). program_phases.is_ready (pair_with p (program h (Asked h y ∷ moments)).peers).phase ≡ false) (sym c.1)
              (contact_unready c.0 moments (subst (λ (y : Request). IsStory hosts (Asked h y ∷ moments)) c.1 story) same))
              (subst (λ (y : Request). Has origin own foreign p (program h (Asked h r ∷ moments)) (after_request p y (Side_of moments).end)) c.1 there)
          | inr same ↦
              same_kept origin own foreign _ _
              (subst (λ (y : End). Has origin own foreign p (program h (Asked h r ∷ moments)) y) same there)
        ]

    pub asked_turn : (g : Host) (r : Request) (moments : List Moment) → IsStory hosts (Asked g r ∷ moments) → (same_host h g ≡ true → refusal (program h moments) r ≡ None) → Tie moments → Tie (Asked g r ∷ moments)
    asked_turn g r moments story ok t = by (same_host h g) refl where
      quiet : IsQuiet origin own foreign h p (at_texts s who) (at_texts s (other who)) (placed_event (event_by g r) (events_of moments)) (law_events moments) (Side_of moments) (pair_with p (program h (Asked g r ∷ moments)).peers)
      quiet = quiet_asked g r moments (Side_of moments) (pair_with p (program h (Asked g r ∷ moments)).peers)

      by : (b : Bool) → same_host h g ≡ b → Tie (Asked g r ∷ moments)
      by true e =
          let is : h ≡ g = same_host-true h g e in
          quiet_turn (Asked g r) moments story quiet
          (subst (λ (y : Host). HasEnd origin own foreign (pair_with p (program h (Asked y r ∷ moments)).peers) (kept_in (pair_with p (program h (Asked y r ∷ moments)).peers) (Side_of moments).end)) is
          (asked_kept r moments (subst (λ (y : Host). IsStory hosts (Asked y r ∷ moments)) (sym is) story) (ok e) t))
      by false e =
          quiet_turn (Asked g r) moments story quiet
          (subst (λ (b : Bool). HasEnd origin own foreign (pair_with p (if b then served (program h moments) r else program h moments).peers) (kept_in (pair_with p (if b then served (program h moments) r else program h moments).peers) (Side_of moments).end)) (sym e)
          (same_kept origin own foreign _ _ t))

    -- ---- what goes out

    out_by : (b : Bool) (t old : NcpState) (ms : List Mark) (x : End) → (b ≡ true → Has origin own foreign p t (all_gone ms x)) → Has origin own foreign p old x → Has origin own foreign p (if b then t else old) (all_gone (if b then ms else []) x)
    out_by true t old ms x k h = k refl
    out_by false t old ms x k h = h

    out_here : (m : HostMessage) (moments : List Moment) → IsStory hosts moments → IsNext (program h moments) m → IsRanged (program h moments) → Tie moments
        → Has origin own foreign p (offered (program h moments) (places moments)).0 (all_gone (if same_host p m.flow.destination then read_marks (places moments) own foreign m.flow.link.0 m.text else []) (Side_of moments).end)
    out_here m moments story n ranged t =
        subst (λ (y : HostMessage). Has origin own foreign p (offered (program h moments) (places moments)).0 (all_gone (if same_host p y.flow.destination then read_marks (places moments) own foreign y.flow.link.0 y.text else []) (Side_of moments).end)) (sym n.message)
        (out_has origin own foreign _ _ n.peer _ _ p _ n.order n.next ranged (λ to. story_agrees hosts moments h n.peer.host (ours.0, subst (λ (y : Host). hosts.strange y ≡ false) (same_host-true p _ to) ours.1) story) t _ refl)

    pub out_turn : (m : HostMessage) (moments : List Moment) → IsStory hosts (Crossed (crossing.Out m) ∷ moments) → IsRanged (program h moments) → Tie moments → Tie (Crossed (crossing.Out m) ∷ moments)
    out_turn m moments story ranged t =
        let e : Event = placed_event (event_of (crossing.Out m)) (events_of moments) in
        let q : PairState = pair_with p (program h (Crossed (crossing.Out m) ∷ moments)).peers in
        let z : End = all_gone (said_out m moments) (Side_of moments).end in
        let gone : Has origin own foreign p (program h (Crossed (crossing.Out m) ∷ moments)) (all_gone (when_all (same_host h m.flow.source) (same_host p m.flow.destination) (read_marks (places moments) own foreign m.flow.link.0 m.text)) (Side_of moments).end) =
        out_by (same_host h m.flow.source) (offered (program h moments) (places moments)).0 (program h moments) (if same_host p m.flow.destination then read_marks (places moments) own foreign m.flow.link.0 m.text else []) _
        (λ same. out_here m moments story.1 (subst (λ (y : Host). IsNext (program y moments) m) (sym (same_host-true h _ same)) (story.0 (subst (λ (y : Host). hosts.strange y ≡ false) (same_host-true h _ same) ours.0))) ranged t) t in
        let here : Has origin own foreign p (program h (Crossed (crossing.Out m) ∷ moments)) (all_gone (said_out m moments) (Side_of moments).end) =
        subst (λ (n : ℕ). Has origin own foreign p (program h (Crossed (crossing.Out m) ∷ moments)) (all_gone (when_all (same_host h m.flow.source) (same_host p m.flow.destination) (read_marks n own foreign m.flow.link.0 m.text)) (Side_of moments).end)) (sym (place_is moments)) gone in
        let said : at_texts s who (stay.said_by h p 0 (placed_event (event_of (crossing.Out m)) (events_of moments))) ≡ said_out m moments =
        said_is s is_pair who h p _ _ _ _ m.text in
        tie_by origin own foreign h p (at_texts s who) (at_texts s (other who)) (placed_event (event_of (crossing.Out m)) (events_of moments)) (law_events moments) (Side_of moments)
        (pair_with p (program h (Crossed (crossing.Out m) ∷ moments)).peers) _
        (ready_is hosts h p (Crossed (crossing.Out m) ∷ moments) ours story) refl (same_kept origin own foreign _ _ here)
        (ap (λ (ms : List Mark). all_gone ms (Side_of moments).end) (sym said)
        ∙ sym (says_end (at_texts s who (stay.said_by h p 0 (placed_event (event_of (crossing.Out m)) (events_of moments)))) (Side_of moments))
        ∙ sym (hears_none (stay.stays h p (law_events moments)) (all_says (at_texts s who (stay.said_by h p 0 (placed_event (event_of (crossing.Out m)) (events_of moments)))) (Side_of moments))))

    -- ---- what comes in

    -- a message of others, or for others
    away_quiet : (x y : Host) (l : ℕ) (m : Message) (z : Side) (older : List Event) (q : PairState) → are h p y x ≡ false → are p h x y ≡ false
        → IsQuiet origin own foreign h p (at_texts s who) (at_texts s (other who)) (In x y l m) older z q
    away_quiet x y l Reset z older q e f = (refl, refl, e)
    away_quiet x y l Reply z older q e f = (refl, refl, refl)
    away_quiet x y l (Other text) z older q e f = (refl, rw f refl, refl)

    pub in_away : (m : HostMessage) (moments : List Moment) → IsStory hosts (Crossed (crossing.In m) ∷ moments) → ((same_host h m.flow.destination ≡ false) ⊎ (same_host p m.flow.source ≡ false)) → Tie moments → Tie (Crossed (crossing.In m) ∷ moments)
    in_away m moments story away t =
        quiet_turn (Crossed (crossing.In m)) moments story
        (away_quiet _ _ _ _ (Side_of moments) (law_events moments)
        (pair_with p (program h (Crossed (crossing.In m) ∷ moments)).peers) (off _ _ away) (swap_off _ _ away))
        (same_turn (same_host h m.flow.destination) _ _ _
        (λ here. elim away [
          | inl off ↦ absurd (let both : true ≡ false = sym here ∙ off in cc)
          | inr off ↦
              same_kept origin own foreign _ _
              (in_leaves origin own foreign _ m _ p _ off t)
        ]) t)
