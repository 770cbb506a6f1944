-- The calls of a host with a peer follow one another, and lead to the ends that its program has.
use Rattle.world_keeps_streams.proofs.Common.{◌≡◌, ℕ, Bool, true, false, not, ◌&&◌, if◌then◌else◌, List, [], ◌∷◌, ◌++◌, None, refl, ap, sym, subst, ◌∙◌, Host, same_host, Flow, Answer, HostMessage, same_host-true, PairState, is_ready, IsHistory, ends_now, Pair, accepted, turn_of, opening_state, pair_with, refusal, served, next_in, offered, Request, answer_leaves, message_leaves, HaveAddresses, message_on, Asked, Crossed, IsStory, Moment, event_in, events_of, places, program, crossings_of, Coupled, by_request, program_own, coupled, clash, answer_calls, calls_by, message_calls, next_calls, own_calls, request_calls, AreOurs, Network, Happened, MayHappen}
use Rattle.reset_law.specs.Events.{In, Message, Other, Reset, Reply}
use Rattle.world_keeps_pairing.proofs.lemmas.{mail_below, ready_is}
use Rattle.pairing_law.proofs.lemmas.{pair_same}
use Rattle.interface.specs.Mailboxes as mail
use Rattle.interface.specs.declared.crossing.Crossing.TheVariants as crossing
use Rattle.interface.specs.declared.crossing.Inbound.TheVariants as inbound
use Rattle.reset_law.specs.Stays as stay
use Rattle.world_keeps_streams.proofs.Calls.Leads.{IsIdle, Turned, is_reset, same_turned}
use Rattle.world_keeps_streams.proofs.Calls.Moved.{answer_moved, message_moved, offered_moved, request_moved}

-- what a moment is about is a host with a program where it is one
pub plain_at : (hosts : Network) (a x : Host) → same_host a x ≡ true → hosts.strange a ≡ false → hosts.strange x ≡ false
plain_at hosts a x e plain = subst (λ (h : Host). hosts.strange h ≡ false) (same_host-true a x e) plain

-- ---- one moment

-- nothing becomes of the pair
still : (b : Host) (q next : PairState) → next ≡ q → Turned b false q next []
still b q next is = same_turned b q next (ap (λ (x : PairState). x.entries) (sym is)) (λ i. subst (λ (x : PairState). IsIdle x) (sym is) i)

pub takes_by : (a b x y : Host) (l : ℕ) (m : Message) (here : Bool) → (same_host a y && same_host b x) ≡ here
    → stay.takes_reset a b (In x y l m) ≡ (here && is_reset m)
takes_by a b x y l Reset true e = e
takes_by a b x y l Reset false e = e
takes_by a b x y l Reply true e = refl
takes_by a b x y l Reply false e = refl
takes_by a b x y l (Other text) true e = refl
takes_by a b x y l (Other text) false e = refl

module _ (a b : Host) where
  abbrev pub Moves : Moment → List Moment → Type 0
  Moves x moments = Turned b (stay.takes_reset a b (event_in x)) (pair_with b (program a moments).peers) (pair_with b (program a (x ∷ moments)).peers) (calls_by a b x moments)

  start_moved : (h : Host) (moments : List Moment) → Turned b false (pair_with b (program a moments).peers) (pair_with b (if same_host a h then opening_state a else program a moments).peers) []
  start_moved h moments = by (same_host a h) where
    by : (c : Bool) → Turned b false (pair_with b (program a moments).peers) (pair_with b (if c then opening_state a else program a moments).peers) []
    by true = record { leads = λ n r. clash _ true refl (sym r); drops = λ f. clash _ true refl (sym f); idle = λ i j. (refl, refl) }
    by false = still b (pair_with b (program a moments).peers) (pair_with b (program a moments).peers) refl

  module _ (hosts : Network) (moments : List Moment) (c : Coupled hosts moments) (ours : AreOurs hosts a b) where
    out_moved : (m : HostMessage) → Moves (Crossed (crossing.Out m)) moments
    out_moved m = by (same_host a m.flow.source) where
      by : (d : Bool) → Turned b false (pair_with b (program a moments).peers) (pair_with b (if d then (offered (program a moments) (places moments)).0 else program a moments).peers)
          (if d then next_calls b (places moments) (program a moments).listening (next_in (program a moments).peers) else [])
      by true = offered_moved (program a moments) (places moments) b (c.order a ours.0)
      by false = still b (pair_with b (program a moments).peers) (pair_with b (program a moments).peers) refl

    own_is : (h : Host) → same_host a h ≡ true → same_host (program a moments).own h ≡ true
    own_is h e = ap (λ (g : Host). same_host g h) (program_own a moments) ∙ e

    in_moved : (m : HostMessage) → IsStory hosts (Crossed (crossing.In m) ∷ moments)
        → Moves (Crossed (crossing.In m)) moments
    in_moved m story = by (same_host a m.flow.destination) (same_host b m.flow.source) refl refl where
      by : (d e : Bool) → same_host a m.flow.destination ≡ d → same_host b m.flow.source ≡ e
          → Turned b (stay.takes_reset a b (event_in (Crossed (crossing.In m)))) (pair_with b (program a moments).peers) (pair_with b (if d then (accepted (program a moments) (inbound.Message m) (places moments)).0 else program a moments).peers)
          (if d && e then message_calls b (places moments) m.flow.link.0 m.text (turn_of (program a moments) b) else [])
      by true true f g =
          let is : b ≡ m.flow.source = same_host-true b m.flow.source g in
          let takes : stay.takes_reset a b (event_in (Crossed (crossing.In m))) ≡ is_reset (message_on m.flow.link.0 m.text) =
          takes_by a b m.flow.source m.flow.destination m.flow.link.0 (message_on m.flow.link.0 m.text) true (ap (λ (u : Bool). u && same_host b m.flow.source) f ∙ g) in
          subst (λ (t : Bool). Turned b t (pair_with b (program a moments).peers) (pair_with b (accepted (program a moments) (inbound.Message m) (places moments)).0.peers) (message_calls b (places moments) m.flow.link.0 m.text (turn_of (program a moments) b))) (sym takes)
          (subst (λ (h : Host). Turned h (is_reset (message_on m.flow.link.0 m.text)) (pair_with h (program a moments).peers) (pair_with h (accepted (program a moments) (inbound.Message m) (places moments)).0.peers) (message_calls h (places moments) m.flow.link.0 m.text (turn_of (program a moments) h))) (sym is)
          (message_moved (program a moments) (places moments) m (own_is m.flow.destination f) (story.0 (plain_at hosts b m.flow.source g ours.1, plain_at hosts a m.flow.destination f ours.0))))
      by true false f g =
          let takes : stay.takes_reset a b (event_in (Crossed (crossing.In m))) ≡ false =
          takes_by a b m.flow.source m.flow.destination m.flow.link.0 (message_on m.flow.link.0 m.text) false (ap (λ (u : Bool). u && same_host b m.flow.source) f ∙ g) in
          subst (λ (t : Bool). Turned b t (pair_with b (program a moments).peers) (pair_with b (accepted (program a moments) (inbound.Message m) (places moments)).0.peers) []) (sym takes)
          (still b (pair_with b (program a moments).peers) _ (message_leaves (program a moments) m (places moments) b g))
      by false e f g =
          let takes : stay.takes_reset a b (event_in (Crossed (crossing.In m))) ≡ false =
          takes_by a b m.flow.source m.flow.destination m.flow.link.0 (message_on m.flow.link.0 m.text) false (ap (λ (u : Bool). u && same_host b m.flow.source) f) in
          subst (λ (t : Bool). Turned b t (pair_with b (program a moments).peers) (pair_with b (program a moments).peers) []) (sym takes)
          (still b (pair_with b (program a moments).peers) (pair_with b (program a moments).peers) refl)

    told_moved : (kind : Answer) (f : Flow) → Moves (Crossed (crossing.Answer kind f)) moments
    told_moved kind f = by (same_host a f.source) (same_host b f.destination) refl refl where
      by : (d e : Bool) → same_host a f.source ≡ d → same_host b f.destination ≡ e
          → Turned b false (pair_with b (program a moments).peers) (pair_with b (if d then (accepted (program a moments) (inbound.Answer kind f) (places moments)).0 else program a moments).peers)
          (if d && e then answer_calls f.link.0 (pair_with b (program a moments).peers) (program a moments).listening else [])
      by true true g k =
          let is : b ≡ f.destination = same_host-true b f.destination k in
          subst (λ (h : Host). Turned h false (pair_with h (program a moments).peers) (pair_with h (accepted (program a moments) (inbound.Answer kind f) (places moments)).0.peers) (answer_calls f.link.0 (pair_with h (program a moments).peers) (program a moments).listening)) (sym is)
          (answer_moved (program a moments) (places moments) kind f (own_is f.source g))
      by true false g k = still b (pair_with b (program a moments).peers) _ (answer_leaves (program a moments) kind f (places moments) b k)
      by false e g k = still b (pair_with b (program a moments).peers) (pair_with b (program a moments).peers) refl

    asked_moved : (h : Host) (r : Request) → (same_host a h ≡ true → refusal (program h moments) r ≡ None)
        → Moves (Asked h r) moments
    asked_moved h r may =
        subst (λ (t : Bool). Turned b t (pair_with b (program a moments).peers) (pair_with b (program a (Asked h r ∷ moments)).peers) (calls_by a b (Asked h r) moments))
        (sym (by_request (λ e. stay.takes_reset a b e ≡ false) h r (λ peer. refl) refl))
        (by (same_host a h) refl) where
          by : (d : Bool) → same_host a h ≡ d → Turned b false (pair_with b (program a moments).peers) (pair_with b (if d then served (program a moments) r else program a moments).peers) (if d then request_calls b (program a moments) r else [])
          by true e = request_moved (program a moments) b r (c.order a ours.0) (subst (λ (g : Host). refusal (program g moments) r ≡ None) (sym (same_host-true a h e)) (may e))
          by false e = still b (pair_with b (program a moments).peers) (pair_with b (program a moments).peers) refl

    pub moved : (x : Moment) → IsStory hosts (x ∷ moments) → MayHappen hosts.strange hosts.all x moments
        → Moves x moments
    moved (Crossed (crossing.Out m)) story happens = out_moved m
    moved (Crossed (crossing.In m)) story happens = in_moved m story
    moved (Crossed (crossing.Answer kind f)) story happens = told_moved kind f
    moved (Crossed (crossing.Down h)) story happens = start_moved h moments
    moved (Crossed (crossing.Up h)) story happens = start_moved h moments
    moved (Asked h r) story happens = asked_moved h r (λ e. (happens (plain_at hosts a h e ours.0)).2)

-- ---- all moments

-- a host is through a reset by its program where it is by the law
pub ready_both : (hosts : Network) (a b : Host) (moments : List Moment) → AreOurs hosts a b → IsStory hosts moments
    → stay.ready a b (events_of moments) ≡ is_ready (pair_with b (program a moments).peers).phase
ready_both hosts a b moments ours story = ap (λ (p : Pair). is_ready p.phase) (sym (pair_same a b (events_of moments))) ∙ ready_is hosts a b moments ours story

pub idle : (hosts : Network) → HaveAddresses hosts.all → (moments : List Moment)
    → mail.IsRun hosts.all (crossings_of moments) → Happened hosts moments → (a b : Host) → AreOurs hosts a b
    → is_ready (pair_with b (program a moments).peers).phase ≡ false → ((pair_with b (program a moments).peers).entries ≡ []) × ((pair_with b (program a moments).peers).queue ≡ [])
idle hosts addresses [] run time a b ours = λ j. (refl, refl)
idle hosts addresses (x ∷ moments) run time a b ours =
    let below : mail.IsRun hosts.all (crossings_of moments) = mail_below hosts.all x moments run in
    let t : Moves a b x moments = moved a b hosts moments (coupled hosts addresses moments below time.1) ours x (coupled hosts addresses (x ∷ moments) run time).story time.0 in
    t.idle (idle hosts addresses moments below time.1 a b ours)

abbrev pub Chained : Host → Host → List Moment → Type 0
Chained a b moments = IsHistory b (own_calls a b moments) × (ends_now b (own_calls a b moments) ≡ (pair_with b (program a moments).peers).entries)

pub chain : (hosts : Network) → HaveAddresses hosts.all → (moments : List Moment) → mail.IsRun hosts.all (crossings_of moments) → Happened hosts moments → (a b : Host) → AreOurs hosts a b → Chained a b moments
chain hosts addresses [] run time a b ours = (tt, refl)
chain hosts addresses (x ∷ moments) run time a b ours = by (chain hosts addresses moments (mail_below hosts.all x moments run) time.1 a b ours) (stay.ready a b (events_of (x ∷ moments))) (stay.takes_reset a b (event_in x)) refl refl where
  below : mail.IsRun hosts.all (crossings_of moments)
  below = mail_below hosts.all x moments run

  story : IsStory hosts (x ∷ moments)
  story = (coupled hosts addresses (x ∷ moments) run time).story

  t : Moves a b x moments
  t = moved a b hosts moments (coupled hosts addresses moments below time.1) ours x story time.0

  none : (pair_with b (program a (x ∷ moments)).peers).entries ≡ [] → IsHistory b [] × (ends_now b [] ≡ (pair_with b (program a (x ∷ moments)).peers).entries)
  none e = (tt, sym e)

  by : Chained a b moments → (r z : Bool) → stay.ready a b (events_of (x ∷ moments)) ≡ r → stay.takes_reset a b (event_in x) ≡ z
      → IsHistory b (if r && not z then calls_by a b x moments ++ own_calls a b moments else []) × (ends_now b (if r && not z then calls_by a b x moments ++ own_calls a b moments else []) ≡ (pair_with b (program a (x ∷ moments)).peers).entries)
  by old true true e f = none (t.drops f)
  by old true false e f =
      t.leads f (sym (ready_both hosts a b (x ∷ moments) ours story) ∙ e) (own_calls a b moments) old.0 old.1
  by old false z e f = none (idle hosts addresses (x ∷ moments) run time a b ours (sym (ready_both hosts a b (x ∷ moments) ours story) ∙ e)).0
