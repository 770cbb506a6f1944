-- The CLS that a host has heard of its peer since both met, over all moments: as many by the law of pairing as by its calls.
use Rattle.world_keeps_streams.proofs.Common.{◌≡◌, ℕ, ◌==◌, ◌&&◌, ◌||◌, not, Bool, true, false, if◌then◌else◌, List, [], ◌∷◌, ◌++◌, refl, ap, sym, subst, ◌∙◌, Host, same_host, HostMessage, same_host-true, Command, Order, orders_of, PairState, eqb-sym, marks_in, IsAsking, Sockets, Who, placed_event, tagged, with_box, with_place, Side, Fresh, begins_fresh, stays_same, stays_ready, turn_of, pair_with, next_in, Moment, Crossed, Asked, event_in, events_of, places, program, Coupled, by_request, law_events, keeps, answer_calls, calls_by, message_calls, next_calls, own_calls, request_calls, AreOurs, Network}
use Rattle.host_keeps_streams.specs.Histories.{Hears, Call}
use Rattle.pairing_law.specs.Marks.{Mark, closes}
use Rattle.reset_law.specs.Boxes.{boxes, Box, Waiting}
use Rattle.reset_law.specs.Events.{Event, Message, Other, In, Reply}
use Rattle.net_sim.specs.Projection.{message_on, event_of}
use Rattle.world_keeps_pairing.proofs.lemmas.{AText, AnRrp, AnRst, Sort, all_says, at_texts, foreign_of, half, heard_is, hears_if, left_if, met_if, other, own_of, sort_of, waiting, IsPair, are_same, before, heard_off_in}
use Rattle.interface.specs.declared.crossing.Crossing.TheVariants as crossing
use Rattle.ncp_control.specs.Phases as program_phases
use Rattle.host_keeps_streams.specs.Histories as calls
use Rattle.reset_law.specs.Runs.{IsRun}
use Rattle.reset_law.specs.Stays as stay
use Rattle.world_keeps_streams.proofs.Calls.Chain.{ready_both}
use Rattle.world_keeps_streams.proofs.Requests.Sides.{Lawful, below, begins_same, coupled_in}
use Rattle.world_keeps_streams.proofs.Heard.Calls.{closes_by, closes_in}
use Rattle.world_keeps_streams.proofs.Heard.Marks.{NoneHeard, adds, closes_join, closes_on, heard_adds, none_answer, none_asked, none_if, none_next, none_on, orders_add, said_heard}
use Rattle.world_keeps_streams.proofs.Stays.Meets.{solo_there}
use Rattle.world_keeps_streams.proofs.Stays.Quiet.{IsSolo, Asks, Quiet, Replied, Told}

-- ---- where a stay begins

quiet_call : (k : Call) → IsAsking k → (foreign own n : ℕ) → closes_by k foreign own n ≡ n
quiet_call (Hears stamp said c) h foreign own n = absurd h
quiet_call k h foreign own n = refl

quiet_none : (k : Call) (q : PairState) → Quiet k q → (foreign own n : ℕ) → closes_by k foreign own n ≡ n
quiet_none k q (Asks is may paired) foreign own n = quiet_call k is foreign own n
quiet_none k q (Told link is) foreign own n = subst (λ (c : Call). closes_by c foreign own n ≡ n) (sym is) refl
quiet_none k q (Replied stamp is) foreign own n = subst (λ (c : Call). closes_by c foreign own n ≡ n) (sym is) refl

solo_none : (peer : Host) (foreign own : ℕ) (ms : List calls.Moment) (queue : List Command) → IsSolo peer ms queue → closes_in foreign own ms ≡ 0
solo_none peer foreign own [] queue h = refl
solo_none peer foreign own (m ∷ ms) queue h = quiet_none m.call m.pair h.0 foreign own (closes_in foreign own ms) ∙ solo_none peer foreign own ms m.pair.queue h.2

-- ---- and in it

stay_parts : (begin keep stays : Bool) → (begin || (keep && stays)) ≡ true → begin ≡ false → (keep ≡ true) × (stays ≡ true)
stay_parts true keep stays e f = absurd (let no : true ≡ false = f in cc)
stay_parts false true true e f = (refl, refl)
stay_parts false true false e f = absurd (let no : false ≡ true = e in cc)
stay_parts false false stays e f = absurd (let no : false ≡ true = e in cc)

module _ (s : Sockets) (q : IsPair s) (who : Who) (hosts : Network) where
  abbrev foreign : ℕ
  foreign = foreign_of who s

  abbrev own : ℕ
  own = own_of who s

  -- what is heard by a moment, and what is called
  abbrev Same : Host → Host → Moment → List Moment → Type 0
  Same h p y ms = (n : ℕ) → adds (at_texts s (other who) (stay.heard_by p h 0 (placed_event (event_in y) (events_of ms)))) n ≡ closes_on (foreign_of who s) (own_of who s) (calls_by h p y ms) n

  nothing : (h p : Host) (y : Moment) (ms : List Moment) → stay.heard_by p h 0 (placed_event (event_in y) (events_of ms)) ≡ [] → NoneHeard (calls_by h p y ms) → Same h p y ms
  nothing h p y ms none quiet n =
      ap (λ (ts : List (List Bool)). adds (at_texts s (other who) ts) n) none ∙ sym (none_on (foreign_of who s) (own_of who s) (calls_by h p y ms) quiet n)

  -- a message of the peer
  module _ (m : HostMessage) (ms : List Moment) (waits : (n : ℕ) × (boxes m.flow.source m.flow.destination (events_of ms) m.flow.link.0 ≡ Waiting n (message_on m.flow.link.0 m.text)))
      (keep : keeps m.flow.destination m.flow.source (event_of (crossing.In m)) (events_of ms) ≡ true)
      (ready : program_phases.is_ready (pair_with m.flow.source (program m.flow.destination ms).peers).phase ≡ true) where
    boxed_is : (n : Message) → message_on m.flow.link.0 m.text ≡ n → with_box (boxes m.flow.source m.flow.destination (events_of ms) m.flow.link.0) (message_on m.flow.link.0 m.text) ≡ with_place waits.0 n
    boxed_is n e = ap (λ (b : Box). with_box b (message_on m.flow.link.0 m.text)) waits.1 ∙ ap (with_place waits.0) e

    abbrev Goal : Message → Type 0
    Goal b = (n : ℕ) → adds (at_texts s (other who) (stay.heard_by m.flow.source m.flow.destination 0 (In m.flow.source m.flow.destination m.flow.link.0 b))) n
        ≡ closes_on (foreign_of who s) (own_of who s) (message_calls m.flow.source (places ms) m.flow.link.0 m.text (turn_of (program m.flow.destination ms) m.flow.source)) n

    -- on link 0 its orders are heard
    orders_here : (place : ℕ) → (m.flow.link.0 == 0) ≡ true → (n : ℕ) → closes_on (foreign_of who s) (own_of who s) (message_calls m.flow.source (places ms) m.flow.link.0 m.text (turn_of (program m.flow.destination ms) m.flow.source)) n
        ≡ adds (marks_in place (foreign_of who s) (own_of who s) (orders_of m.text)) n
    orders_here place zero n =
        rw (ready, zero) (orders_add (foreign_of who s) (own_of who s) place m.flow.source (places ms) (orders_of m.text) (turn_of (program m.flow.destination ms) m.flow.source) [] n)

    others : (z : Bool) → (m.flow.link.0 == 0) ≡ z → (place n : ℕ) → adds (at_texts s (other who) (if z then tagged place m.text ∷ [] else [])) n
        ≡ closes_on (foreign_of who s) (own_of who s) (message_calls m.flow.source (places ms) m.flow.link.0 m.text (turn_of (program m.flow.destination ms) m.flow.source)) n
    others true zero place n = ap (λ (ks : List Mark). adds ks n) (heard_is s q who place m.text) ∙ sym (orders_here place zero n)
    others false zero place n = rw (ready, zero) refl

    by_sort : Sort m.flow.link.0 m.text → Goal (with_box (boxes m.flow.source m.flow.destination (events_of ms) m.flow.link.0) (message_on m.flow.link.0 m.text))
    by_sort (AnRst zero orders is) n = absurd (
        let takes : stay.takes_reset m.flow.destination m.flow.source (In m.flow.source m.flow.destination m.flow.link.0 (message_on m.flow.link.0 m.text)) ≡ true =
        ap (λ (b : Message). stay.takes_reset m.flow.destination m.flow.source (In m.flow.source m.flow.destination m.flow.link.0 b)) is ∙ are_same m.flow.destination m.flow.source in
        off (stay.ready m.flow.destination m.flow.source (event_of (crossing.In m) ∷ events_of ms)) (stay.takes_reset m.flow.destination m.flow.source (event_of (crossing.In m))) keep takes) where
          off : (v t : Bool) → (v && not t) ≡ true → t ≡ true → ⊥
          off true true e f = absurd (let no : false ≡ true = e in cc)
          off true false e f = absurd (let no : false ≡ true = f in cc)
          off false t e f = absurd (let no : false ≡ true = e in cc)
    by_sort (AnRrp zero orders is) n =
        ap (λ (b : Message). adds (at_texts s (other who) (stay.heard_by m.flow.source m.flow.destination 0 (In m.flow.source m.flow.destination m.flow.link.0 b))) n) (boxed_is Reply is)
        ∙ sym (orders_here 0 zero n ∙ ap (λ (os : List Order). adds (marks_in 0 (foreign_of who s) (own_of who s) os) n) orders)
    by_sort (AText is) n =
        ap (λ (b : Message). adds (at_texts s (other who) (stay.heard_by m.flow.source m.flow.destination 0 (In m.flow.source m.flow.destination m.flow.link.0 b))) n) (boxed_is (Other m.text) is)
        ∙ ap (λ (v : Bool). adds (at_texts s (other who) (if v && 0 == m.flow.link.0 then tagged waits.0 m.text ∷ [] else [])) n) (are_same m.flow.source m.flow.destination)
        ∙ ap (λ (v : Bool). adds (at_texts s (other who) (if v then tagged waits.0 m.text ∷ [] else [])) n) (eqb-sym 0 m.flow.link.0)
        ∙ others (m.flow.link.0 == 0) refl waits.0 n

  -- ---- each moment

  in_waits : (m : HostMessage) (ms : List Moment) → IsRun hosts (events_of (Crossed (crossing.In m) ∷ ms)) → (n : ℕ) × (boxes m.flow.source m.flow.destination (events_of ms) m.flow.link.0 ≡ Waiting n (message_on m.flow.link.0 m.text))
  in_waits m ms run = waiting (boxes m.flow.source m.flow.destination (events_of ms) m.flow.link.0) (message_on m.flow.link.0 m.text) run.0.1

  in_same : (h p : Host) (m : HostMessage) (ms : List Moment) → IsRun hosts (events_of (Crossed (crossing.In m) ∷ ms)) → keeps h p (event_of (crossing.In m)) (events_of ms) ≡ true → program_phases.is_ready (pair_with p (program h ms).peers).phase ≡ true
      → Same h p (Crossed (crossing.In m)) ms
  in_same h p m ms run keep ready = by (same_host h m.flow.destination) (same_host p m.flow.source) refl refl where
    away : (same_host p m.flow.source && same_host h m.flow.destination) ≡ false → (same_host h m.flow.destination && same_host p m.flow.source) ≡ false → Same h p (Crossed (crossing.In m)) ms
    away e f =
        nothing h p (Crossed (crossing.In m)) ms
        (heard_off_in h p m.flow.source m.flow.destination m.flow.link.0 (with_box (boxes m.flow.source m.flow.destination (events_of ms) m.flow.link.0) (message_on m.flow.link.0 m.text)) e)
        (subst (λ (v : Bool). NoneHeard (if v then message_calls p (places ms) m.flow.link.0 m.text (turn_of (program h ms) p) else [])) (sym f) tt)

    here : (d g : Host) → d ≡ m.flow.destination → g ≡ m.flow.source → keeps d g (event_of (crossing.In m)) (events_of ms) ≡ true → program_phases.is_ready (pair_with g (program d ms).peers).phase ≡ true
        → (n : ℕ) → adds (at_texts s (other who) (stay.heard_by g d 0 (placed_event (event_of (crossing.In m)) (events_of ms)))) n
        ≡ closes_on (foreign_of who s) (own_of who s) (message_calls g (places ms) m.flow.link.0 m.text (turn_of (program d ms) g)) n
    here d g e f k r =
        subst (λ (u : Host). (n : ℕ) → adds (at_texts s (other who) (stay.heard_by g u 0 (placed_event (event_of (crossing.In m)) (events_of ms)))) n
        ≡ closes_on (foreign_of who s) (own_of who s) (message_calls g (places ms) m.flow.link.0 m.text (turn_of (program u ms) g)) n) (sym e)
        (subst (λ (v : Host). (n : ℕ) → adds (at_texts s (other who) (stay.heard_by v m.flow.destination 0 (placed_event (event_of (crossing.In m)) (events_of ms)))) n
        ≡ closes_on (foreign_of who s) (own_of who s) (message_calls v (places ms) m.flow.link.0 m.text (turn_of (program m.flow.destination ms) v)) n) (sym f)
        (by_sort m ms (in_waits m ms run)
        (subst (λ (v : Host). keeps m.flow.destination v (event_of (crossing.In m)) (events_of ms) ≡ true) f (subst (λ (u : Host). keeps u g (event_of (crossing.In m)) (events_of ms) ≡ true) e k))
        (subst (λ (v : Host). program_phases.is_ready (pair_with v (program m.flow.destination ms).peers).phase ≡ true) f (subst (λ (u : Host). program_phases.is_ready (pair_with g (program u ms).peers).phase ≡ true) e r))
        (sort_of m.flow.link.0 m.text)))

    by : (a b : Bool) → same_host h m.flow.destination ≡ a → same_host p m.flow.source ≡ b → Same h p (Crossed (crossing.In m)) ms
    by true true e f = λ n.
        here h p (same_host-true h m.flow.destination e) (same_host-true p m.flow.source f) keep ready n
        ∙ ap (λ (v : Bool). closes_on (foreign_of who s) (own_of who s) (if v then message_calls p (places ms) m.flow.link.0 m.text (turn_of (program h ms) p) else []) n) (sym (ap (λ (v : Bool). v && same_host p m.flow.source) e ∙ f))
    by true false e f = away (ap (λ (v : Bool). v && same_host h m.flow.destination) f) (ap (λ (v : Bool). v && same_host p m.flow.source) e ∙ f)
    by false true e f = away (ap (λ (v : Bool). v && same_host h m.flow.destination) f ∙ e) (ap (λ (v : Bool). v && same_host p m.flow.source) e)
    by false false e f = away (ap (λ (v : Bool). v && same_host h m.flow.destination) f) (ap (λ (v : Bool). v && same_host p m.flow.source) e)

  each_same : (h p : Host) (y : Moment) (ms : List Moment) → IsRun hosts (events_of (y ∷ ms)) → keeps h p (event_in y) (events_of ms) ≡ true → program_phases.is_ready (pair_with p (program h ms).peers).phase ≡ true → Same h p y ms
  each_same h p (Crossed (crossing.Out m)) ms run keep ready =
      nothing h p (Crossed (crossing.Out m)) ms refl
      (none_if (same_host h m.flow.source) (next_calls p (places ms) (program h ms).listening (next_in (program h ms).peers)) (none_next p (places ms) (program h ms).listening (next_in (program h ms).peers)))
  each_same h p (Crossed (crossing.In m)) ms run keep ready = in_same h p m ms run keep ready
  each_same h p (Crossed (crossing.Answer kind f)) ms run keep ready =
      nothing h p (Crossed (crossing.Answer kind f)) ms refl
      (none_if (same_host h f.source && same_host p f.destination) (answer_calls f.link.0 (pair_with p (program h ms).peers) (program h ms).listening) (none_answer f.link.0 (pair_with p (program h ms).peers) (program h ms).listening))
  each_same h p (Crossed (crossing.Down g)) ms run keep ready = nothing h p (Crossed (crossing.Down g)) ms refl tt
  each_same h p (Crossed (crossing.Up g)) ms run keep ready = nothing h p (Crossed (crossing.Up g)) ms refl tt
  each_same h p (Asked g r) ms run keep ready =
      nothing h p (Asked g r) ms (by_request (λ e. stay.heard_by p h 0 (placed_event e (events_of ms)) ≡ []) g r (λ peer. refl) refl)
      (none_if (same_host h g) (request_calls p (program h ms) r) (none_asked p (program h ms) r))

  -- ---- all moments

  side_on : (h p : Host) (y : Moment) (ms : List Moment) → stay.begins h p (event_in y) (events_of ms) ≡ false → stay.stays h p (events_of ms) ≡ true
      → closes (half h p (at_texts s who) (at_texts s (other who)) (law_events (y ∷ ms))).heard
      ≡ adds (at_texts s (other who) (stay.heard_by p h 0 (placed_event (event_in y) (events_of ms)))) (closes (half h p (at_texts s who) (at_texts s (other who)) (law_events ms)).heard)
  side_on h p y ms none stays =
      let e : Event = placed_event (event_in y) (events_of ms) in
      let x : Side = half h p (at_texts s who) (at_texts s (other who)) (law_events ms) in
      let said : Side = all_says (at_texts s who (stay.said_by h p 0 (placed_event (event_in y) (events_of ms)))) (half h p (at_texts s who) (at_texts s (other who)) (law_events ms)) in
      let heard : List Mark = at_texts s (other who) (stay.heard_by p h 0 (placed_event (event_in y) (events_of ms))) in
      ap (λ (v : Bool). closes (met_if v (before h p (at_texts s who) (at_texts s (other who)) e (law_events ms) x)).heard) (begins_same h p (event_in y) (events_of ms) ∙ none)
      ∙ left (keeps h p e (law_events ms)) (hears_if (stay.stays h p (law_events ms)) heard said)
      ∙ ap (λ (v : Bool). closes (hears_if v heard said).heard) (stays_same h p (events_of ms) ∙ stays)
      ∙ heard_adds heard said
      ∙ ap (λ (l : List Mark). adds heard (closes l)) (said_heard (at_texts s who (stay.said_by h p 0 (placed_event (event_in y) (events_of ms)))) x) where
        left : (v : Bool) (z : Side) → closes (left_if v z).heard ≡ closes z.heard
        left true z = refl
        left false z = refl

  pub heard_closes : (h p : Host) → AreOurs hosts h p → (ms : List Moment) → Lawful hosts ms
      → stay.stays h p (events_of ms) ≡ true
      → closes (half h p (at_texts s who) (at_texts s (other who)) (law_events ms)).heard ≡ closes_in (foreign_of who s) (own_of who s) (own_calls h p ms)
  heard_closes h p ours [] l stays = refl
  heard_closes h p ours (y ∷ ms) l stays = by (stay.begins h p (event_in y) (events_of ms)) refl (heard_closes h p ours ms (below hosts y ms l)) where
    law : Coupled hosts (y ∷ ms)
    law = coupled_in hosts (y ∷ ms) l

    by : (v : Bool) → stay.begins h p (event_in y) (events_of ms) ≡ v
        → (stay.stays h p (events_of ms) ≡ true → closes (half h p (at_texts s who) (at_texts s (other who)) (law_events ms)).heard ≡ closes_in (foreign_of who s) (own_of who s) (own_calls h p ms))
        → closes (half h p (at_texts s who) (at_texts s (other who)) (law_events (y ∷ ms))).heard ≡ closes_in (foreign_of who s) (own_of who s) (own_calls h p (y ∷ ms))
    by true new old =
        let f : Fresh h p (event_in y) (events_of ms) = begins_fresh hosts (event_in y) (events_of ms) law.run h p ours new in
        ap (λ (v : Bool). closes (met_if v (before h p (at_texts s who) (at_texts s (other who)) (placed_event (event_in y) (events_of ms)) (law_events ms) (half h p (at_texts s who) (at_texts s (other who)) (law_events ms)))).heard)
        (begins_same h p (event_in y) (events_of ms) ∙ new)
        ∙ sym (solo_none p (foreign_of who s) (own_of who s) (own_calls h p (y ∷ ms)) (pair_with p (program h (y ∷ ms)).peers).queue (solo_there hosts l.0 h p ours y ms l.1 l.2 f.left f.silent))
    by false none old =
        let parts : (keeps h p (event_in y) (events_of ms) ≡ true) × (stay.stays h p (events_of ms) ≡ true) =
        stay_parts (stay.begins h p (event_in y) (events_of ms)) (keeps h p (event_in y) (events_of ms)) (stay.stays h p (events_of ms)) stays none in
        let ready : program_phases.is_ready (pair_with p (program h ms).peers).phase ≡ true = sym (ready_both hosts h p ms ours law.story.1) ∙ stays_ready (events_of ms) h p parts.1 in
        side_on h p y ms none parts.1
        ∙ ap (adds (at_texts s (other who) (stay.heard_by p h 0 (placed_event (event_in y) (events_of ms))))) (old parts.1)
        ∙ each_same h p y ms law.run parts.0 ready (closes_in (foreign_of who s) (own_of who s) (own_calls h p ms))
        ∙ sym (closes_join (foreign_of who s) (own_of who s) (calls_by h p y ms) (own_calls h p ms))
        ∙ ap (λ (v : Bool). closes_in (foreign_of who s) (own_of who s) (if v then calls_by h p y ms ++ own_calls h p ms else [])) (sym parts.0)
