-- Two programs, with all that crosses between them, are a run of the law of pairing, where links are free.
use Rattle.world_keeps_pairing.proofs.Common.{◌≡◌, ℕ, ◌+◌, ◌≤◌, ◌==◌, Bool, true, false, ◌&&◌, if◌then◌else◌, List, [], ◌∷◌, None, refl, ap, sym, subst, ◌∙◌, arith, Host, same_host, HostMessage, same_host-true, Order, orders_of, NcpState, opening_state, pair_with, refusal, Request, IsAsked, IsRanged, AllFit, MayAllGo, marks_in, End, Mark, placed_event, tagged, Side, Waiting, boxes, pair, event_of, event_by, message_on, Moment, Crossed, Asked, IsNext, IsStory, event_in, events_of, places, program, by_request, story_agrees, NamesFreeAt, TakesFreeAt, law_events, eqb-sym, AreOurs, Network}
use Rattle.pairing_law.specs.Links.{Sockets, Word, Who, Receiver, Sender, Step, AreSteps, receiver, sender}
use Rattle.pairing_law.proofs.lemmas.{placed_run, at}
use Rattle.reset_law.specs.Events.{Event, Message, Other, In, place}
use Rattle.world_keeps_pairing.specs.Steps.{words_of, all_said, all_heard, heard_in, keeps, steps_left, met, spoken_by, taken_by, steps}
use Rattle.interface.specs.declared.crossing.Crossing.TheVariants as crossing
use Rattle.ncp_control.specs.Phases as program_phases
use Rattle.sockets.specs.Requests as asks
use Rattle.host_keeps_ranges.proofs.lemmas.{answer_ranged, message_ranged, offer_ranged, request_ranged}
use Rattle.reset_law.specs.Runs.{IsRun}
use Rattle.reset_law.specs.Stays as stay
use Rattle.world_keeps_pairing.proofs.Legal.{legal}
use Rattle.world_keeps_pairing.proofs.Served.{AreServed}
use Rattle.world_keeps_pairing.proofs.Sides.{all_says, at_texts, before, hears_if, left_if, met_if, receiver_deaf_if, receiver_half, receiver_waits, sender_half}
use Rattle.world_keeps_pairing.proofs.Marks.{AllAt, IsPair, foreign_of, marks_at, own_of, texts_pairs}
use Rattle.world_keeps_pairing.proofs.Moves.{hears_next, left_next, met_next, receiver_fits, receiver_speaks, says_next, sender_fits, sender_speaks}
use Rattle.world_keeps_pairing.proofs.Programs.{Has, out_may, read_marks}
use Rattle.world_keeps_pairing.proofs.Turns.{other, said_is, when_all}
use Rattle.world_keeps_pairing.proofs.Moments.{Side_of, Tie, answer_turn, asked_turn, down_turn, out_turn, place_is, said_out, up_turn}
use Rattle.world_keeps_pairing.proofs.Programs.{AnRrp, AnRst, AText, Sort, sort_of}
use Rattle.world_keeps_pairing.proofs.Turns.{heard_is}
use Rattle.world_keeps_pairing.proofs.Messages.{Hears, IsFrom, are_same, boxed, boxed_is, in_turn, place_in, stays_as}
use Rattle.world_keeps_pairing.proofs.Moves.{under_heard}

-- ---- what a host says may be said

may_if : (a b : Bool) (ms : List Mark) (e : End) (next : ℕ) → (a ≡ true → b ≡ true → MayAllGo ms e next) → MayAllGo (when_all a b ms) e next
may_if true true ms e next k = k refl refl
may_if true false ms e next k = tt
may_if false b ms e next k = tt

module _ (s : Sockets) (is_pair : IsPair s) (who : Who) (h p : Host) (origin : ℕ → ℕ) where
  -- what is said at two sockets by a moment
  abbrev pub said_at : Moment → List Moment → List Mark
  said_at x moments = at_texts s who (stay.said_by h p 0 (placed_event (event_in x) (events_of moments)))

  abbrev pub May : Moment → List Moment → Type 0
  May x moments = MayAllGo (said_at x moments) (Side_of s is_pair who h p origin moments).end (Side_of s is_pair who h p origin moments).next

  out_may_here : (hosts : Network) → AreOurs hosts h p → (m : HostMessage) (moments : List Moment) (next : ℕ) → IsStory hosts moments → IsNext (program h moments) m → IsRanged (program h moments) → next ≤ places moments → Tie s is_pair who h p origin moments → same_host p m.flow.destination ≡ true
      → MayAllGo (read_marks (places moments) (own_of who s) (foreign_of who s) m.flow.link.0 m.text) (Side_of s is_pair who h p origin moments).end next
  out_may_here hosts ours m moments next story n ranged below t same =
      let to : same_host p n.peer.host ≡ true = ap (λ (y : HostMessage). same_host p y.flow.destination) (sym n.message) ∙ same in
      subst (λ (y : HostMessage). MayAllGo (read_marks (places moments) (own_of who s) (foreign_of who s) y.flow.link.0 y.text) (Side_of s is_pair who h p origin moments).end next) (sym n.message)
      (out_may origin (own_of who s) (foreign_of who s) _ _ n.peer _ _ _ next n.order n.next ranged (story_agrees hosts moments h _ (ours.0, subst (λ (y : Host). hosts.strange y ≡ false) (same_host-true p _ to) ours.1) story) below
      (subst (λ (y : Host). Has origin (own_of who s) (foreign_of who s) y (program h moments) (Side_of s is_pair who h p origin moments).end) (same_host-true p _ to) t))

  out_may_turn : (hosts : Network) → AreOurs hosts h p → (m : HostMessage) (moments : List Moment) → IsStory hosts (Crossed (crossing.Out m) ∷ moments) → IsRanged (program h moments) → (Side_of s is_pair who h p origin moments).next ≤ places moments → Tie s is_pair who h p origin moments → May (Crossed (crossing.Out m)) moments
  out_may_turn hosts ours m moments story ranged below t =
      let all : MayAllGo (said_out s is_pair who h p origin m moments) (Side_of s is_pair who h p origin moments).end (Side_of s is_pair who h p origin moments).next =
      subst (λ (n : ℕ). MayAllGo (when_all (same_host h m.flow.source) (same_host p m.flow.destination) (read_marks n (own_of who s) (foreign_of who s) m.flow.link.0 m.text)) (Side_of s is_pair who h p origin moments).end (Side_of s is_pair who h p origin moments).next) (sym (place_is moments))
      (may_if _ _ _ _ _
      (λ e f. out_may_here hosts ours m moments (Side_of s is_pair who h p origin moments).next story.1 (subst (λ (y : Host). IsNext (program y moments) m) (sym (same_host-true h _ e)) (story.0 (subst (λ (y : Host). hosts.strange y ≡ false) (same_host-true h _ e) ours.0))) ranged below t f)) in
      subst (λ (ms : List Mark). MayAllGo ms (Side_of s is_pair who h p origin moments).end (Side_of s is_pair who h p origin moments).next)
      (sym (said_is s is_pair who h p _ _ _ _ m.text)) all

  pub may_turn : (hosts : Network) → AreOurs hosts h p → (x : Moment) (moments : List Moment) → IsStory hosts (x ∷ moments) → IsRanged (program h moments) → (Side_of s is_pair who h p origin moments).next ≤ places moments → Tie s is_pair who h p origin moments → May x moments
  may_turn hosts ours (Crossed (crossing.Out m)) moments story ranged below t = out_may_turn hosts ours m moments story ranged below t
  may_turn hosts ours (Crossed c) moments story ranged below t = tt
  may_turn hosts ours (Asked g r) moments story ranged below t =
      by_request (λ e. MayAllGo (at_texts s who (stay.said_by h p 0 (placed_event e (events_of moments)))) (Side_of s is_pair who h p origin moments).end (Side_of s is_pair who h p origin moments).next) g r (λ peer. tt) tt

  -- ---- requests go out at later places

  abbrev Next : List Moment → ℕ
  Next moments = (Side_of s is_pair who h p origin moments).next

  next_is : (e : Event) (moments : List Moment) → (met_if (stay.begins h p e (law_events moments)) (before h p (at_texts s who) (at_texts s (other who)) e (law_events moments) (Side_of s is_pair who h p origin moments))).next
      ≡ (all_says (at_texts s who (stay.said_by h p 0 e)) (Side_of s is_pair who h p origin moments)).next
  next_is e moments =
      let x : Side = all_says (at_texts s who (stay.said_by h p 0 e)) (Side_of s is_pair who h p origin moments) in
      let y : Side = hears_if (stay.stays h p (law_events moments)) (at_texts s (other who) (stay.heard_by p h 0 e)) x in
      met_next _ _ ∙ left_next _ y
      ∙ hears_next (stay.stays h p (law_events moments)) (at_texts s (other who) (stay.heard_by p h 0 e)) x

  when_at : (a b : Bool) (n : ℕ) (ms : List Mark) → AllAt n ms → AllAt n (when_all a b ms)
  when_at true true n ms k = k
  when_at true false n ms k = tt
  when_at false b n ms k = tt

  pub read_at : (n link : ℕ) (text : List Bool) → AllAt n (read_marks n (own_of who s) (foreign_of who s) link text)
  read_at n link text = by (link == 0) where
    by : (z : Bool) → AllAt n (if z then marks_in n (own_of who s) (foreign_of who s) (orders_of text) else [])
    by true = marks_at n (own_of who s) _ (orders_of text)
    by false = tt

  out_next : (m : HostMessage) (moments : List Moment) → Next moments ≤ places moments → Next (Crossed (crossing.Out m) ∷ moments) ≤ 1 + places moments
  out_next m moments below =
      let said : at_texts s who (stay.said_by h p 0 (placed_event (event_of (crossing.Out m)) (events_of moments))) ≡ said_out s is_pair who h p origin m moments =
      said_is s is_pair who h p _ _ _ _ m.text in
      let all : AllAt (place (events_of moments)) (said_out s is_pair who h p origin m moments) =
      when_at (same_host h m.flow.source) (same_host p m.flow.destination) (place (events_of moments)) _ (read_at (place (events_of moments)) m.flow.link.0 m.text) in
      let is : place (events_of moments) ≡ places moments = place_is moments in
      let low : Next moments ≤ place (events_of moments) + 1 = omega (arith, below, is) in
      let up : (all_says (said_out s is_pair who h p origin m moments) (Side_of s is_pair who h p origin moments)).next ≤ place (events_of moments) + 1 =
      says_next _ (said_out s is_pair who h p origin m moments) (Side_of s is_pair who h p origin moments) all low in
      let same : Next (Crossed (crossing.Out m) ∷ moments) ≡ (all_says (said_out s is_pair who h p origin m moments) (Side_of s is_pair who h p origin moments)).next =
      next_is (placed_event (event_of (crossing.Out m)) (events_of moments)) moments ∙ ap (λ (ms : List Mark). (all_says ms (Side_of s is_pair who h p origin moments)).next) said in
      omega (arith, up, same, is)

  next_turn : (x : Moment) (moments : List Moment) → Next moments ≤ places moments → Next (x ∷ moments) ≤ places (x ∷ moments)
  next_turn (Crossed (crossing.Out m)) moments below = out_next m moments below
  next_turn (Crossed c) moments below = let same : Next (Crossed c ∷ moments) ≡ Next moments = next_is (placed_event (event_of c) (events_of moments)) moments in omega (arith, same, below)
  next_turn (Asked g r) moments below =
      let same : Next (Asked g r ∷ moments) ≡ Next moments =
      next_is (placed_event (event_by g r) (events_of moments)) moments
      ∙ by_request (λ e. (all_says (at_texts s who (stay.said_by h p 0 (placed_event e (events_of moments)))) (Side_of s is_pair who h p origin moments)).next ≡ Next moments) g r (λ peer. refl) refl in
      omega (arith, same, below)

-- ---- both hosts

under_left : (keep : Bool) (who : Who) (xs : List Step) → AreSteps (steps_left keep who xs) → AreSteps xs
under_left true who xs h = h
under_left false who xs h = h.1

under_met : (begin : Bool) (xs : List Step) → AreSteps (met begin xs) → AreSteps xs
under_met true xs h = h.1
under_met false xs h = h

pub under_heard_in : (b : Bool) (who : Who) (ws : List Word) (xs : List Step) → AreSteps (heard_in b who ws xs) → AreSteps xs
under_heard_in true who ws xs h = under_heard who ws xs h
under_heard_in false who ws xs h = h

pub heard_all : (b : Bool) (who : Who) (ws : List Word) (xs : List Step) → b ≡ true → AreSteps (heard_in b who ws xs) → AreSteps (all_heard who ws xs)
heard_all true who ws xs e h = h
heard_all false who ws xs e h = absurd (let both : false ≡ true = e in cc)

-- what they hear may be heard
pub taken_steps : (a b : Host) (e : Event) (events : List Event) → AreSteps (steps a b (e ∷ events)) → AreSteps (taken_by a b e events (spoken_by a b e (steps a b events)))
taken_steps a b e events h =
    under_left (keeps b a e events) Sender _ (under_left (keeps a b e events) Receiver _ (under_met _ _ h))

-- ---- programs keep their numbers in range

opening_ranged : (h : Host) → IsRanged (opening_state h)
opening_ranged h = record { pairs = tt; sizes = tt }

if_ranged : (b : Bool) (t old : NcpState) → IsRanged t → IsRanged old → IsRanged (if b then t else old)
if_ranged true t old k h = k
if_ranged false t old k h = h

asked_ranged : (hosts : Network) (h g : Host) (r : Request) (moments : List Moment) → (hosts.strange g ≡ false → (refusal (program g moments) r ≡ None) × IsAsked r) → hosts.strange h ≡ false → (b : Bool) → same_host h g ≡ b → IsRanged (program h moments)
    → IsRanged (if b then asks.served (program h moments) r else program h moments)
asked_ranged hosts h g r moments asks off true e k =
    let ok : (refusal (program g moments) r ≡ None) × IsAsked r = asks (subst (λ (y : Host). hosts.strange y ≡ false) (same_host-true h g e) off) in
    request_ranged _ r (subst (λ (y : Host). refusal (program y moments) r ≡ None) (sym (same_host-true h g e)) ok.0) ok.1 k
asked_ranged hosts h g r moments asks off false e k = k

-- what users ask for isn't refused, and has numbers of their types
pub programs_ranged : (hosts : Network) (moments : List Moment) → AreServed hosts moments → (h : Host) → hosts.strange h ≡ false → IsRanged (program h moments)
programs_ranged hosts [] served h off = opening_ranged h
programs_ranged hosts (Crossed (crossing.Out m) ∷ moments) served h off = if_ranged _ _ _ (offer_ranged _ _ (programs_ranged hosts moments served h off)) (programs_ranged hosts moments served h off)
programs_ranged hosts (Crossed (crossing.In m) ∷ moments) served h off = if_ranged _ _ _ (message_ranged _ m _ (programs_ranged hosts moments served h off)) (programs_ranged hosts moments served h off)
programs_ranged hosts (Crossed (crossing.Answer kind f) ∷ moments) served h off = if_ranged _ _ _ (answer_ranged _ kind f _ (programs_ranged hosts moments served h off)) (programs_ranged hosts moments served h off)
programs_ranged hosts (Crossed (crossing.Down g) ∷ moments) served h off = if_ranged _ _ _ (opening_ranged h) (programs_ranged hosts moments served h off)
programs_ranged hosts (Crossed (crossing.Up g) ∷ moments) served h off = if_ranged _ _ _ (opening_ranged h) (programs_ranged hosts moments served h off)
programs_ranged hosts (Asked g r ∷ moments) served h off = asked_ranged hosts h g r moments served.0 off _ refl (programs_ranged hosts moments served.1 h off)

-- ---- what is heard is in order

module _ (s : Sockets) (is_pair : IsPair s) (origin : ℕ → ℕ) (hosts : Network) (m : HostMessage) (moments : List Moment) (ours : AreOurs hosts m.flow.source m.flow.destination) (story : IsStory hosts (Crossed (crossing.In m) ∷ moments)) (run : IsRun hosts (events_of (Crossed (crossing.In m) ∷ moments))) where
  abbrev heard_here : Message → List (List Bool)
  heard_here n = stay.heard_by m.flow.source m.flow.destination 0 (In m.flow.source m.flow.destination m.flow.link.0 n)

  abbrev event : Message → Event
  event n = In m.flow.source m.flow.destination m.flow.link.0 n

  is_heard : (place : ℕ) → (m.flow.link.0 == 0) ≡ true → heard_here (Other (tagged place m.text)) ≡ tagged place m.text ∷ []
  is_heard place zero =
      ap (λ (t : Bool). if t then tagged place m.text ∷ [] else []) (ap (λ (t : Bool). t && 0 == m.flow.link.0) (are_same m.flow.source m.flow.destination) ∙ eqb-sym 0 _ ∙ zero)

  -- as the one who receives
  receiver_text : (place : ℕ) → boxed s is_pair Receiver origin hosts m moments ours story run ≡ Other (tagged place m.text) → (m.flow.link.0 == 0) ≡ true → stay.stays m.flow.destination m.flow.source (law_events moments) ≡ true
      → AreSteps (steps m.flow.destination m.flow.source (law_events (Crossed (crossing.In m) ∷ moments)))
      → AllFit (marks_in place s.send s.receive (orders_of m.text)) (Side_of s is_pair Receiver m.flow.destination m.flow.source origin moments).end
  receiver_text place e zero stays h =
      let a : Host = m.flow.destination in
      let b : Host = m.flow.source in
      let xs : List Step = steps m.flow.destination m.flow.source (law_events moments) in
      let n : Message = Other (tagged place m.text) in
      let all : AreSteps (steps m.flow.destination m.flow.source (event (Other (tagged place m.text)) ∷ law_events moments)) =
      subst (λ (y : Message). AreSteps (steps m.flow.destination m.flow.source (In m.flow.source m.flow.destination m.flow.link.0 y ∷ law_events moments))) e h in
      let under : List Step = heard_in (stay.stays m.flow.source m.flow.destination (law_events moments)) Sender (words_of Receiver (stay.heard_by m.flow.destination m.flow.source 0 (event (Other (tagged place m.text))))) xs in
      let taken : AreSteps (heard_in (stay.stays m.flow.destination m.flow.source (law_events moments)) Receiver (words_of Sender (heard_here (Other (tagged place m.text)))) under) =
      taken_steps m.flow.destination m.flow.source (event (Other (tagged place m.text))) (law_events moments) all in
      let heard : AreSteps (all_heard Receiver (words_of Sender (heard_here (Other (tagged place m.text)))) under) =
      heard_all _ Receiver (words_of Sender (heard_here (Other (tagged place m.text)))) under stays taken in
      let fit : AllFit (at s (words_of Sender (heard_here (Other (tagged place m.text))))) (receiver s under).end = receiver_fits s _ under heard in
      let is : receiver s under ≡ Side_of s is_pair Receiver m.flow.destination m.flow.source origin moments =
      receiver_deaf_if s (stay.stays m.flow.source m.flow.destination (law_events moments)) (words_of Receiver (stay.heard_by m.flow.destination m.flow.source 0 (event (Other (tagged place m.text))))) xs
      ∙ receiver_half s m.flow.destination m.flow.source (law_events moments) in
      subst (λ (x : Side). AllFit (marks_in place s.send s.receive (orders_of m.text)) x.end) is
      (subst (λ (ms : List Mark). AllFit ms (receiver s under).end) (ap (at_texts s Sender) (is_heard place zero) ∙ heard_is s is_pair Receiver place m.text) fit)

  -- as the one who sends
  sender_text : (place : ℕ) → boxed s is_pair Sender origin hosts m moments ours story run ≡ Other (tagged place m.text) → (m.flow.link.0 == 0) ≡ true → stay.stays m.flow.destination m.flow.source (law_events moments) ≡ true
      → AreSteps (steps m.flow.source m.flow.destination (law_events (Crossed (crossing.In m) ∷ moments)))
      → AllFit (marks_in place s.receive s.send (orders_of m.text)) (Side_of s is_pair Sender m.flow.destination m.flow.source origin moments).end
  sender_text place e zero stays h =
      let xs : List Step = steps m.flow.source m.flow.destination (law_events moments) in
      let all : AreSteps (steps m.flow.source m.flow.destination (event (Other (tagged place m.text)) ∷ law_events moments)) =
      subst (λ (y : Message). AreSteps (steps m.flow.source m.flow.destination (In m.flow.source m.flow.destination m.flow.link.0 y ∷ law_events moments))) e h in
      let to_sender : List Word = words_of Receiver (heard_here (Other (tagged place m.text))) in
      let taken : AreSteps (heard_in (stay.stays m.flow.source m.flow.destination (law_events moments)) Receiver (words_of Sender (stay.heard_by m.flow.destination m.flow.source 0 (event (Other (tagged place m.text)))))
      (heard_in (stay.stays m.flow.destination m.flow.source (law_events moments)) Sender (words_of Receiver (heard_here (Other (tagged place m.text)))) xs)) =
      taken_steps m.flow.source m.flow.destination (event (Other (tagged place m.text))) (law_events moments) all in
      let heard : AreSteps (all_heard Sender (words_of Receiver (heard_here (Other (tagged place m.text)))) xs) =
      heard_all _ Sender (words_of Receiver (heard_here (Other (tagged place m.text)))) xs stays
      (under_heard_in (stay.stays m.flow.source m.flow.destination (law_events moments)) Receiver (words_of Sender (stay.heard_by m.flow.destination m.flow.source 0 (event (Other (tagged place m.text))))) _ taken) in
      let fit : AllFit (at s (words_of Receiver (heard_here (Other (tagged place m.text))))) (sender s xs).end = sender_fits s _ xs heard in
      subst (λ (x : Side). AllFit (marks_in place s.receive s.send (orders_of m.text)) x.end) (sender_half s m.flow.source m.flow.destination (law_events moments))
      (subst (λ (ms : List Mark). AllFit ms (sender s xs).end) (ap (at_texts s Receiver) (is_heard place zero) ∙ heard_is s is_pair Sender place m.text) fit)

  signal_fits : (own foreign place : ℕ) (orders : List Order) (x : End) → orders_of m.text ≡ orders → marks_in place own foreign orders ≡ [] → AllFit (marks_in place own foreign (orders_of m.text)) x
  signal_fits own foreign place orders x e f = subst (λ (ms : List Mark). AllFit ms x) (sym (ap (marks_in place own foreign) e ∙ f)) tt

  receiver_now : Sort m.flow.link.0 m.text → IsFrom s is_pair Receiver origin hosts m moments ours story run → AreSteps (steps m.flow.destination m.flow.source (law_events (Crossed (crossing.In m) ∷ moments)))
      → program_phases.is_ready (pair_with m.flow.source (program m.flow.destination moments).peers).phase ≡ true → (m.flow.link.0 == 0) ≡ true
      → AllFit (marks_in (origin (places moments)) s.send s.receive (orders_of m.text)) (Side_of s is_pair Receiver m.flow.destination m.flow.source origin moments).end
  receiver_now (AnRst z orders is) from h ready zero = signal_fits s.send _ _ _ _ orders refl
  receiver_now (AnRrp z orders is) from h ready zero = signal_fits s.send _ _ _ _ orders refl
  receiver_now (AText is) from h ready zero =
      let n : (n : ℕ) × (boxes m.flow.source m.flow.destination (events_of moments) m.flow.link.0 ≡ Waiting n (message_on m.flow.link.0 m.text)) = place_in s is_pair Receiver origin hosts m moments ours story run in
      let e : boxed s is_pair Receiver origin hosts m moments ours story run ≡ Other (tagged (place_in s is_pair Receiver origin hosts m moments ours story run).0 m.text) = boxed_is s is_pair Receiver origin hosts m moments ours story run _ is in
      subst (λ (k : ℕ). AllFit (marks_in k s.send s.receive (orders_of m.text)) (Side_of s is_pair Receiver m.flow.destination m.flow.source origin moments).end)
      (sym (from (place_in s is_pair Receiver origin hosts m moments ours story run).0 (place_in s is_pair Receiver origin hosts m moments ours story run).1 zero))
      (receiver_text _ e zero (stays_as s is_pair Receiver origin hosts m moments ours story run _ e true ready) h)

  sender_now : Sort m.flow.link.0 m.text → IsFrom s is_pair Sender origin hosts m moments ours story run → AreSteps (steps m.flow.source m.flow.destination (law_events (Crossed (crossing.In m) ∷ moments)))
      → program_phases.is_ready (pair_with m.flow.source (program m.flow.destination moments).peers).phase ≡ true → (m.flow.link.0 == 0) ≡ true
      → AllFit (marks_in (origin (places moments)) s.receive s.send (orders_of m.text)) (Side_of s is_pair Sender m.flow.destination m.flow.source origin moments).end
  sender_now (AnRst z orders is) from h ready zero = signal_fits _ s.send _ _ _ orders refl
  sender_now (AnRrp z orders is) from h ready zero = signal_fits _ s.send _ _ _ orders refl
  sender_now (AText is) from h ready zero =
      let e : boxed s is_pair Sender origin hosts m moments ours story run ≡ Other (tagged (place_in s is_pair Sender origin hosts m moments ours story run).0 m.text) = boxed_is s is_pair Sender origin hosts m moments ours story run _ is in
      subst (λ (k : ℕ). AllFit (marks_in k s.receive s.send (orders_of m.text)) (Side_of s is_pair Sender m.flow.destination m.flow.source origin moments).end)
      (sym (from (place_in s is_pair Sender origin hosts m moments ours story run).0 (place_in s is_pair Sender origin hosts m moments ours story run).1 zero))
      (sender_text _ e zero (stays_as s is_pair Sender origin hosts m moments ours story run _ e true ready) h)

-- ---- the run

-- the steps of two hosts may be, and each program has the ends that they say
pub record Tied (origin : Host → Host → ℕ → ℕ) (a b : Host) (moments : List Moment) : Type 0 where
  pub steps : AreSteps (steps a b (law_events moments))
  pub receiver : (s : Sockets) (q : IsPair s) → Tie s q Receiver a b (origin a b) moments
  pub sender : (s : Sockets) (q : IsPair s) → Tie s q Sender b a (origin b a) moments
  pub receiver_next : (s : Sockets) (q : IsPair s) → (Side_of s q Receiver a b (origin a b) moments).next ≤ places moments
  pub sender_next : (s : Sockets) (q : IsPair s) → (Side_of s q Sender b a (origin b a) moments).next ≤ places moments

-- a place by which requests are named is that of the box
abbrev pub IsOrigin : (Host → Host → ℕ → ℕ) → Moment → List Moment → Type 0
IsOrigin origin (Crossed (crossing.In m)) moments =
    (place : ℕ) → boxes m.flow.source m.flow.destination (events_of moments) m.flow.link.0 ≡ Waiting place (message_on m.flow.link.0 m.text) → (m.flow.link.0 == 0) ≡ true → origin m.flow.destination m.flow.source (places moments) ≡ place
IsOrigin origin x moments = Unit {0}

-- and so it is at all moments
abbrev pub AreOrigins : (Host → Host → ℕ → ℕ) → List Moment → Type 0
AreOrigins origin [] = Unit {0}
AreOrigins origin (x ∷ moments) = IsOrigin origin x moments × AreOrigins origin moments

module _ (hosts : Network) (origin : Host → Host → ℕ → ℕ) (a b : Host) (x : Moment) (moments : List Moment) (ours : AreOurs hosts a b) (story : IsStory hosts (x ∷ moments)) (run : IsRun hosts (events_of (x ∷ moments))) (ranged : (h : Host) → hosts.strange h ≡ false → IsRanged (program h moments))
    (names : NamesFreeAt a b x moments) (t : Tied origin a b moments) where
  abbrev e : Event
  e = placed_event (event_in x) (events_of moments)

  abbrev xs : List Step
  xs = steps a b (law_events moments)

  pub steps_turn : AreSteps (steps a b (law_events (x ∷ moments)))
  steps_turn =
      let to_receiver : List Word = words_of Sender (stay.said_by b a 0 (placed_event (event_in x) (events_of moments))) in
      let to_sender : List Word = words_of Receiver (stay.said_by a b 0 (placed_event (event_in x) (events_of moments))) in
      let first : AreSteps (all_said Sender (words_of Sender (stay.said_by b a 0 (placed_event (event_in x) (events_of moments)))) (steps a b (law_events moments))) =
      sender_speaks to_receiver _ (texts_pairs Sender _) t.steps
      (λ s q. subst (λ (y : Side). MayAllGo (at s (words_of Sender (stay.said_by b a 0 (placed_event (event_in x) (events_of moments))))) y.end y.next) (sym (sender_half s a b (law_events moments)))
      (may_turn s q Sender b a (origin b a) hosts (ours.1, ours.0) x moments story (ranged b ours.1) (t.sender_next s q) (t.sender s q))) in
      let second : AreSteps (spoken_by a b (placed_event (event_in x) (events_of moments)) (steps a b (law_events moments))) =
      receiver_speaks to_sender _ (texts_pairs Receiver _) first
      (λ s q. subst (λ (y : Side). MayAllGo (at s (words_of Receiver (stay.said_by a b 0 (placed_event (event_in x) (events_of moments))))) y.end y.next)
      (sym (receiver_waits s to_receiver _ ∙ receiver_half s a b (law_events moments)))
      (may_turn s q Receiver a b (origin a b) hosts ours x moments story (ranged a ours.0) (t.receiver_next s q) (t.receiver s q))) names in
      legal hosts (placed_event (event_in x) (events_of moments)) (law_events moments) (placed_run hosts (events_of (x ∷ moments)) run) a b ours second

-- each moment
tie_turn : (s : Sockets) (q : IsPair s) (who : Who) (h p : Host) (origin : ℕ → ℕ) (hosts : Network) (x : Moment) (moments : List Moment) → AreOurs hosts h p → IsStory hosts (x ∷ moments) → IsRun hosts (events_of (x ∷ moments)) → IsRanged (program h moments) → AreServed hosts (x ∷ moments)
    → ((m : HostMessage) (our : AreOurs hosts m.flow.source m.flow.destination) (story : IsStory hosts (Crossed (crossing.In m) ∷ moments)) (run : IsRun hosts (events_of (Crossed (crossing.In m) ∷ moments))) → x ≡ Crossed (crossing.In m) → same_host h m.flow.destination ≡ true → same_host p m.flow.source ≡ true
    → Hears s q who origin hosts m moments our story run × IsFrom s q who origin hosts m moments our story run)
    → Tie s q who h p origin moments → Tie s q who h p origin (x ∷ moments)
tie_turn s q who h p origin hosts (Crossed (crossing.Out m)) moments ours story run ranged served k t = out_turn s q who h p origin hosts ours m moments story ranged t
tie_turn s q who h p origin hosts (Crossed (crossing.In m)) moments ours story run ranged served k t = in_turn s q who h p origin hosts m moments ours story run (λ our. k m our story run refl) t
tie_turn s q who h p origin hosts (Crossed (crossing.Answer kind f)) moments ours story run ranged served k t = answer_turn s q who h p origin hosts ours kind f moments story t
tie_turn s q who h p origin hosts (Crossed (crossing.Down g)) moments ours story run ranged served k t = down_turn s q who h p origin hosts ours g moments story t
tie_turn s q who h p origin hosts (Crossed (crossing.Up g)) moments ours story run ranged served k t = up_turn s q who h p origin hosts ours g moments story t
tie_turn s q who h p origin hosts (Asked g r) moments ours story run ranged served k t =
    asked_turn s q who h p origin hosts ours g r moments story (λ e. subst (λ (y : Host). refusal (program y moments) r ≡ None) (sym (same_host-true h g e)) (served.0 (subst (λ (y : Host). hosts.strange y ≡ false) (same_host-true h g e) ours.0)).0) t

-- what a message says that is taken of a peer is in order, and is named by its origin
module _ (hosts : Network) (origin : Host → Host → ℕ → ℕ) (a b : Host) (x : Moment) (moments : List Moment) (from : IsOrigin origin x moments) (takes : TakesFreeAt hosts x moments) where
  from_there : (m : HostMessage) → x ≡ Crossed (crossing.In m) → IsOrigin origin (Crossed (crossing.In m)) moments
  from_there m is = subst (λ (y : Moment). IsOrigin origin y moments) is from

  free_there : (m : HostMessage) → x ≡ Crossed (crossing.In m) → TakesFreeAt hosts (Crossed (crossing.In m)) moments
  free_there m is = subst (λ (y : Moment). TakesFreeAt hosts y moments) is takes

  pub receiver_hears : (s : Sockets) (q : IsPair s) (m : HostMessage) (our : AreOurs hosts m.flow.source m.flow.destination) (story : IsStory hosts (Crossed (crossing.In m) ∷ moments)) (run : IsRun hosts (events_of (Crossed (crossing.In m) ∷ moments))) → x ≡ Crossed (crossing.In m)
      → same_host a m.flow.destination ≡ true → same_host b m.flow.source ≡ true → AreSteps (steps a b (law_events (x ∷ moments))) → Hears s q Receiver (origin a b) hosts m moments our story run × IsFrom s q Receiver (origin a b) hosts m moments our story run
  receiver_hears s q m our story run is e f next =
      let is_a : a ≡ m.flow.destination = same_host-true a _ e in
      let is_b : b ≡ m.flow.source = same_host-true b _ f in
      let same : origin m.flow.destination m.flow.source ≡ origin a b = ap (λ (y : Host). origin y m.flow.source) (sym is_a) ∙ ap (λ (y : Host). origin a y) (sym is_b) in
      let place : IsFrom s q Receiver (origin a b) hosts m moments our story run = subst (λ (o : ℕ → ℕ). IsFrom s q Receiver o hosts m moments our story run) same (from_there m is) in
      let there : AreSteps (steps m.flow.destination m.flow.source (law_events (Crossed (crossing.In m) ∷ moments))) =
      subst (λ (y : Host). AreSteps (steps y m.flow.source (law_events (Crossed (crossing.In m) ∷ moments)))) is_a
      (subst (λ (y : Host). AreSteps (steps a y (law_events (Crossed (crossing.In m) ∷ moments)))) is_b (subst (λ (y : Moment). AreSteps (steps a b (law_events (y ∷ moments)))) is next)) in
      (λ ready zero joint. (free_there m is our ready zero, receiver_now s q (origin a b) hosts m moments our story run (sort_of _ m.text) place there ready zero), place)

  pub sender_hears : (s : Sockets) (q : IsPair s) (m : HostMessage) (our : AreOurs hosts m.flow.source m.flow.destination) (story : IsStory hosts (Crossed (crossing.In m) ∷ moments)) (run : IsRun hosts (events_of (Crossed (crossing.In m) ∷ moments))) → x ≡ Crossed (crossing.In m)
      → same_host b m.flow.destination ≡ true → same_host a m.flow.source ≡ true → AreSteps (steps a b (law_events (x ∷ moments))) → Hears s q Sender (origin b a) hosts m moments our story run × IsFrom s q Sender (origin b a) hosts m moments our story run
  sender_hears s q m our story run is e f next =
      let is_b : b ≡ m.flow.destination = same_host-true b _ e in
      let is_a : a ≡ m.flow.source = same_host-true a _ f in
      let same : origin m.flow.destination m.flow.source ≡ origin b a = ap (λ (y : Host). origin y m.flow.source) (sym is_b) ∙ ap (λ (y : Host). origin b y) (sym is_a) in
      let place : IsFrom s q Sender (origin b a) hosts m moments our story run = subst (λ (o : ℕ → ℕ). IsFrom s q Sender o hosts m moments our story run) same (from_there m is) in
      let there : AreSteps (steps m.flow.source m.flow.destination (law_events (Crossed (crossing.In m) ∷ moments))) =
      subst (λ (y : Host). AreSteps (steps m.flow.source y (law_events (Crossed (crossing.In m) ∷ moments)))) is_b
      (subst (λ (y : Host). AreSteps (steps y b (law_events (Crossed (crossing.In m) ∷ moments)))) is_a (subst (λ (y : Moment). AreSteps (steps a b (law_events (y ∷ moments)))) is next)) in
      (λ ready zero joint. (free_there m is our ready zero, sender_now s q (origin b a) hosts m moments our story run (sort_of _ m.text) place there ready zero), place)

pub tied_turn : (hosts : Network) (origin : Host → Host → ℕ → ℕ) (a b : Host) (x : Moment) (moments : List Moment) → AreOurs hosts a b → IsStory hosts (x ∷ moments) → IsRun hosts (events_of (x ∷ moments)) → AreServed hosts (x ∷ moments) → ((h : Host) → hosts.strange h ≡ false → IsRanged (program h moments))
    → IsOrigin origin x moments → NamesFreeAt a b x moments → TakesFreeAt hosts x moments → Tied origin a b moments → Tied origin a b (x ∷ moments)
tied_turn hosts origin a b x moments ours story run served ranged from names takes t =
    let next : AreSteps (steps a b (law_events (x ∷ moments))) = steps_turn hosts origin a b x moments ours story run ranged names t in
    record {
      steps = next;
      receiver = λ s q. tie_turn s q Receiver a b (origin a b) hosts x moments ours story run (ranged a ours.0) served (λ m our story run is e f. receiver_hears hosts origin a b x moments from takes s q m our story run is e f next) (t.receiver s q);
      sender = λ s q. tie_turn s q Sender b a (origin b a) hosts x moments (ours.1, ours.0) story run (ranged b ours.1) served (λ m our story run is e f. sender_hears hosts origin a b x moments from takes s q m our story run is e f next) (t.sender s q);
      receiver_next = λ s q. next_turn s q Receiver a b (origin a b) x moments (t.receiver_next s q);
      sender_next = λ s q. next_turn s q Sender b a (origin b a) x moments (t.sender_next s q);
    }
