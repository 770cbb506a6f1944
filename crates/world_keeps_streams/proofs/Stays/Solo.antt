-- What a host did since it dropped its ends, where it has said nothing and wasn't in a stay, is what a host does by itself.
use Rattle.world_keeps_streams.proofs.Common.{◌≡◌, ℕ, Bool, true, false, not, ◌&&◌, if◌then◌else◌, List, [], ◌∷◌, Option, Some, None, refl, ap, sym, subst, ◌∙◌, Host, same_host, Flow, Answer, HostMessage, same_host-true, PairState, Parcel, failed_phase, is_ready, Phase, MaySend, pair_moved, pair, carry, contradicts, ready_phase, accepted, turn_of, opening_state, pair_with, served, next_in, offered, Peer, Request, answer_leaves, message_leaves, Agrees, message_on, Asked, Crossed, IsNext, IsStory, Moment, event_in, events_of, places, program, Coupled, program_own, story_agrees, keeps, AText, AnRrp, AnRst, Sort, sort_of, clash, answer_calls, calls_by, message_calls, next_calls, request_calls, AreOurs, Network}
use Rattle.ncp_control.specs.declared.phase.Phase.TheVariants.{Want, Gone, Heard, Ready, Closed}
use Rattle.reset_law.specs.Events.{Message, Other, Event, Contact, Out, In, Told, Down, Up, Idle, Send, Take, Hear, Begin, when, are, Reset, Reply, Call}
use Rattle.reset_law.specs.Boxes.{boxes, Box, Empty, Waiting, Taken, WaitsWith}
use Rattle.reset_law.specs.Stays.{ready, takes_reset, stays}
use Rattle.std.proofs.lemmas.Bool.{and_from}
use Rattle.interface.specs.declared.crossing.Answer.TheVariants as answer
use Rattle.interface.specs.declared.crossing.Crossing.TheVariants as crossing
use Rattle.interface.specs.declared.crossing.Inbound.TheVariants as inbound
use Rattle.ncp_control.specs.Phases as program_phases
use Rattle.reset_law.specs.Pairs as law
use Rattle.reset_law.specs.Runs.{IsRun}
use Rattle.pairing_law.proofs.lemmas.{waits_in_stay}
use Rattle.world_keeps_streams.proofs.Stays.Calm.{Calm, Calms, answer_calm, offer_calm, reply_calm, request_calm, still}
use Rattle.world_keeps_streams.proofs.Calls.Chain.{ready_both, plain_at}
use Rattle.world_keeps_streams.proofs.Stays.Owing.{not_taken}

-- ---- nothing was said before either

both_true : (s t : Bool) → (s && not t) ≡ true → (s ≡ true) × (t ≡ false)
both_true true true e = absurd (cc)
both_true true false e = (refl, refl)
both_true false t e = absurd (cc)

out_silent : (t : Bool) (l : ℕ) (m : Message) (p : law.Pair) → (pair_moved (when t (Send l m)) p).begun ≡ false → p.begun ≡ false
out_silent true l Reset p e = e
out_silent true l Reply p e = e
out_silent true l (Other text) p e = absurd (cc)
out_silent false l m p e = e

in_silent : (t : Bool) (m : Message) (p : law.Pair) → (m ≡ Reset → t ≡ false) → (pair_moved (when t (Take m)) p).begun ≡ false → p.begun ≡ false
in_silent true Reset p k e = absurd (let no : true ≡ false = k refl in cc)
in_silent true Reply p k e = e
in_silent true (Other text) p k e = e
in_silent false m p k e = e

failed_silent : (ph : Phase) (owed begun : Bool) → is_ready (failed_phase ph owed) ≡ true → (if owed then begun else false) ≡ false → begun ≡ false
failed_silent ph true begun r e = e
failed_silent Closed false begun r e = absurd (cc)
failed_silent Want false begun r e = absurd (cc)
failed_silent (Gone early) false begun r e = absurd (cc)
failed_silent Heard false begun r e = absurd (cc)
failed_silent Ready false begun r e = absurd (cc)

told_silent : (t : Bool) (l : ℕ) (k : Answer) (p : law.Pair) → is_ready (pair_moved (when t (Hear l k)) p).phase ≡ true → (pair_moved (when t (Hear l k)) p).begun ≡ false → p.begun ≡ false
told_silent true l answer.Rfnm p r e = e
told_silent true l answer.Dead p r e = failed_silent p.phase p.owed p.begun r e
told_silent true l answer.Incomplete p r e = failed_silent p.phase p.owed p.begun r e
told_silent true l answer.NotTaken p r e = failed_silent p.phase p.owed p.begun r e
told_silent false l k p r e = e

call_silent : (t : Bool) (p : law.Pair) → is_ready (pair_moved (when t Call) p).phase ≡ true → (pair_moved (when t Call) p).begun ≡ false → p.begun ≡ false
call_silent true p r e = absurd (cc)
call_silent false p r e = e

begin_silent : (t : Bool) (p : law.Pair) → is_ready (pair_moved (when t Begin) p).phase ≡ true → (pair_moved (when t Begin) p).begun ≡ false → p.begun ≡ false
begin_silent true p r e = absurd (cc)
begin_silent false p r e = e

pub silent_before : (a b : Host) (e : Event) (events : List Event) → keeps a b e events ≡ true → (pair a b (e ∷ events)).begun ≡ false → (pair a b events).begun ≡ false
silent_before a b (Contact x y) events k e = call_silent _ _ (both_true _ false k).0 e
silent_before a b (Out x y l m) events k e = out_silent _ l m _ e
silent_before a b (In x y l m) events k e =
    in_silent _ m _ (not_taken a b x y l m (both_true _ _ k).1) e
silent_before a b (Told x y l kind) events k e = told_silent _ l kind _ (both_true _ false k).0 e
silent_before a b (Down x) events k e = begin_silent _ _ (both_true _ false k).0 e
silent_before a b (Up x) events k e = begin_silent _ _ (both_true _ false k).0 e
silent_before a b Idle events k e = e

-- ---- one moment

-- a host that is ready after a message that isn't a text went out of an RRP
only_reply : (l : ℕ) (m : Message) (p : law.Pair) → MaySend p l m → is_ready (pair_moved (Some (Send l m)) p).phase ≡ true → (pair_moved (Some (Send l m)) p).begun ≡ false → (is_ready p.phase ≡ true) × (p.owed ≡ true)
only_reply l Reset p may r e = absurd (cc)
only_reply l Reply p may r e = (r, may.1)
only_reply l (Other text) p may r e = absurd (cc)

module _ (a b : Host) where
  abbrev before : List Moment → PairState
  before moments = pair_with b (program a moments).peers

  abbrev IsCalm : Moment → List Moment → Type 0
  IsCalm x moments = Calm b (before moments) (before (x ∷ moments)) (calls_by a b x moments)

  module _ (hosts : Network) (moments : List Moment) (c : Coupled hosts moments) (ours : AreOurs hosts a b) where
    abbrev events : List Event
    events = events_of moments

    own_is : (h : Host) → same_host a h ≡ true → same_host (program a moments).own h ≡ true
    own_is h e = ap (λ (g : Host). same_host g h) (program_own a moments) ∙ e

    out_calm : (m : HostMessage) → IsStory hosts (Crossed (crossing.Out m) ∷ moments) → IsRun hosts (event_in (Crossed (crossing.Out m)) ∷ events) → ready a b (event_in (Crossed (crossing.Out m)) ∷ events) ≡ true
        → (pair a b (event_in (Crossed (crossing.Out m)) ∷ events)).begun ≡ false → IsCalm (Crossed (crossing.Out m)) moments
    out_calm m story run r silent = by (same_host a m.flow.source) refl where
      owes : same_host a m.flow.source ≡ true → (g : Peer) (x : Parcel) → next_in (program a moments).peers ≡ Some (g, x) → same_host b g.host ≡ true
          → (program_phases.is_ready (before moments).phase ≡ true) × ((before moments).owed ≡ true)
      owes e g x next same =
          let n : IsNext (program m.flow.source moments) m = story.0 (plain_at hosts a m.flow.source e ours.0) in
          let is : a ≡ m.flow.source = same_host-true a m.flow.source e in
          let found : next_in (program a moments).peers ≡ Some (n.peer, n.parcel) = subst (λ (h : Host). next_in (program h moments).peers ≡ Some (n.peer, n.parcel)) (sym is) n.next in
          let peer : g.host ≡ m.flow.destination = ap (λ (o : Option (Peer × Parcel)). host_in b o) (sym next ∙ found) ∙ sym (ap (λ (h : HostMessage). h.flow.destination) n.message) in
          let there : same_host b m.flow.destination ≡ true = subst (λ (h : Host). same_host b h ≡ true) peer same in
          let both : are a b m.flow.source m.flow.destination ≡ true = and_from (same_host a m.flow.source) (same_host b m.flow.destination) e there in
          let msg : Message = message_on m.flow.link.0 m.text in
          let may : MaySend (pair a b events) m.flow.link.0 msg = carry (λ v w. AreOurs hosts v w → MaySend (pair v w events) m.flow.link.0 msg) a b m.flow.source m.flow.destination both run.1 ours in
          let o : (is_ready (pair a b events).phase ≡ true) × ((pair a b events).owed ≡ true) =
          only_reply m.flow.link.0 msg (pair a b events) may (subst (λ (t : Bool). is_ready (pair_moved (when t (Send m.flow.link.0 msg)) (pair a b events)).phase ≡ true) both r)
          (subst (λ (t : Bool). (pair_moved (when t (Send m.flow.link.0 msg)) (pair a b events)).begun ≡ false) both silent) in
          let agrees : Agrees (before moments) (pair a b events) = story_agrees hosts moments a b ours c.story in
          (sym (ready_both hosts a b moments ours c.story) ∙ o.0, sym agrees.owed ∙ o.1)
        where
          host_in : Host → Option (Peer × Parcel) → Host
          host_in h None = h
          host_in h (Some found) = found.0.host

      by : (d : Bool) → same_host a m.flow.source ≡ d → Calm b (before moments) (pair_with b (if d then (offered (program a moments) (places moments)).0 else program a moments).peers)
          (if d then next_calls b (places moments) (program a moments).listening (next_in (program a moments).peers) else [])
      by true e = offer_calm (program a moments) (places moments) b (c.order a ours.0) (owes e)
      by false e = still b (before moments) (before moments) refl

    in_calm : (m : HostMessage) → IsRun hosts (event_in (Crossed (crossing.In m)) ∷ events) → ready a b (event_in (Crossed (crossing.In m)) ∷ events) ≡ true → takes_reset a b (event_in (Crossed (crossing.In m))) ≡ false
        → stays a b events ≡ false → IsCalm (Crossed (crossing.In m)) moments
    in_calm m run r none left = by (same_host a m.flow.destination) (same_host b m.flow.source) refl refl where
      Result : Host → Type 0
      Result h = Calm h (pair_with h (program a moments).peers) (pair_with h (accepted (program a moments) (inbound.Message m) (places moments)).0.peers) (message_calls h (places moments) m.flow.link.0 m.text (turn_of (program a moments) h))

      sorted : same_host a m.flow.destination ≡ true → same_host b m.flow.source ≡ true → Sort m.flow.link.0 m.text → Result m.flow.source
      sorted f g (AnRst zero orders is) =
          let takes : takes_reset a b (In m.flow.source m.flow.destination m.flow.link.0 Reset) ≡ false = subst (λ (n : Message). takes_reset a b (In m.flow.source m.flow.destination m.flow.link.0 n) ≡ false) is none in
          absurd (contradicts (are a b m.flow.destination m.flow.source) (and_from (same_host a m.flow.destination) (same_host b m.flow.source) f g) takes)
      sorted f g (AnRrp zero orders is) = reply_calm (program a moments) (places moments) m (own_is m.flow.destination f) zero orders
      sorted f g (AText is) =
          let both : are b a m.flow.source m.flow.destination ≡ true = and_from (same_host b m.flow.source) (same_host a m.flow.destination) g f in
          let now : ready a b (In m.flow.source m.flow.destination m.flow.link.0 (Other m.text) ∷ events) ≡ true =
          subst (λ (n : Message). ready a b (In m.flow.source m.flow.destination m.flow.link.0 n ∷ events) ≡ true) is r in
          let was : ready a b events ≡ true = text_ready (are a b m.flow.destination m.flow.source) m.text (pair a b events) now in
          let waits : WaitsWith (boxes b a events m.flow.link.0) (Other m.text) =
          carry (λ v w. WaitsWith (boxes v w events m.flow.link.0) (Other m.text)) b a m.flow.source m.flow.destination both (subst (λ (n : Message). WaitsWith (boxes m.flow.source m.flow.destination events m.flow.link.0) n) is run.0.1) in
          let place : (p : ℕ) × (boxes b a events m.flow.link.0 ≡ Waiting p (Other m.text)) = waiting (boxes b a events m.flow.link.0) (Other m.text) waits in
          absurd (contradicts (stays a b events) (waits_in_stay hosts events c.run b a (ours.1, ours.0) (ready_phase (pair a b events).phase was) m.flow.link.0 place.0 m.text place.1) left)
        where
          text_ready : (t : Bool) (text : List Bool) (p : law.Pair) → is_ready (pair_moved (when t (Take (Other text))) p).phase ≡ true → is_ready p.phase ≡ true
          text_ready true text p e = e
          text_ready false text p e = e

          waiting : (box : Box) (n : Message) → WaitsWith box n → (p : ℕ) × (box ≡ Waiting p n)
          waiting Empty n w = absurd w
          waiting (Waiting p kept) n w = (p, ap (λ (y : Message). Waiting p y) w)
          waiting (Taken p kept) n w = absurd w

      by : (d e : Bool) → same_host a m.flow.destination ≡ d → same_host b m.flow.source ≡ e
          → Calm b (before moments) (pair_with b (if d then (accepted (program a moments) (inbound.Message m) (places moments)).0 else program a moments).peers)
          (if d && e then message_calls b (places moments) m.flow.link.0 m.text (turn_of (program a moments) b) else [])
      by true true f g = subst Result (sym (same_host-true b m.flow.source g)) (sorted f g (sort_of m.flow.link.0 m.text))
      by true false f g = still b (before moments) _ (message_leaves (program a moments) m (places moments) b g)
      by false e f g = still b (before moments) (before moments) refl

    told_calm : (kind : Answer) (f : Flow) → program_phases.is_ready (before (Crossed (crossing.Answer kind f) ∷ moments)).phase ≡ true → IsCalm (Crossed (crossing.Answer kind f)) moments
    told_calm kind f r = by (same_host a f.source) (same_host b f.destination) refl refl r where
      by : (d e : Bool) → same_host a f.source ≡ d → same_host b f.destination ≡ e
          → Calms b (before moments) (pair_with b (if d then (accepted (program a moments) (inbound.Answer kind f) (places moments)).0 else program a moments).peers)
          (if d && e then answer_calls f.link.0 (before moments) (program a moments).listening else [])
      by true true g k =
          subst (λ (h : Host). Calms h (pair_with h (program a moments).peers) (pair_with h (accepted (program a moments) (inbound.Answer kind f) (places moments)).0.peers) (answer_calls f.link.0 (pair_with h (program a moments).peers) (program a moments).listening))
          (sym (same_host-true b f.destination k)) (answer_calm (program a moments) (places moments) kind f (own_is f.source g))
      by true false g k = λ now. still b (before moments) _ (answer_leaves _ kind f _ b k)
      by false e g k = λ now. still b (before moments) (before moments) refl

    start_calm : (h : Host) → Calms b (before moments) (pair_with b (if same_host a h then opening_state a else program a moments).peers) []
    start_calm h = by (same_host a h) where
      by : (d : Bool) → Calms b (before moments) (pair_with b (if d then opening_state a else program a moments).peers) []
      by true = λ r. clash _ true refl (sym r)
      by false = λ r. still b (before moments) (before moments) refl

    asked_calm : (h : Host) (r : Request) → program_phases.is_ready (before (Asked h r ∷ moments)).phase ≡ true → IsCalm (Asked h r) moments
    asked_calm h r = by (same_host a h) where
      by : (d : Bool) → Calms b (before moments) (pair_with b (if d then served (program a moments) r else program a moments).peers) (if d then request_calls b (program a moments) r else [])
      by true = request_calm (program a moments) b r
      by false = λ now. still b (before moments) (before moments) refl

    pub calm : (x : Moment) → IsStory hosts (x ∷ moments) → IsRun hosts (event_in x ∷ events) → keeps a b (event_in x) events ≡ true → stays a b events ≡ false → (pair a b (event_in x ∷ events)).begun ≡ false → IsCalm x moments
    calm x story run k left silent = by x story run silent (both_true (ready a b (event_in x ∷ events)) (takes_reset a b (event_in x)) k) where
      by : (x : Moment) → IsStory hosts (x ∷ moments) → IsRun hosts (event_in x ∷ events) → (pair a b (event_in x ∷ events)).begun ≡ false
          → (ready a b (event_in x ∷ events) ≡ true) × (takes_reset a b (event_in x) ≡ false) → IsCalm x moments
      by (Crossed (crossing.Out m)) story run silent k = out_calm m story run k.0 silent
      by (Crossed (crossing.In m)) story run silent k = in_calm m run k.0 k.1 left
      by (Crossed (crossing.Answer kind f)) story run silent k = told_calm kind f (sym (ready_both hosts a b (Crossed (crossing.Answer kind f) ∷ moments) ours story) ∙ k.0)
      by (Crossed (crossing.Down h)) story run silent k = start_calm h (sym (ready_both hosts a b (Crossed (crossing.Down h) ∷ moments) ours story) ∙ k.0)
      by (Crossed (crossing.Up h)) story run silent k = start_calm h (sym (ready_both hosts a b (Crossed (crossing.Up h) ∷ moments) ours story) ∙ k.0)
      by (Asked h r) story run silent k = asked_calm h r (sym (ready_both hosts a b (Asked h r ∷ moments) ours story) ∙ k.0)
