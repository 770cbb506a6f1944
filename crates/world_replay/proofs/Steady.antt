-- A settled carrier leaves a world no choice.
use Rattle.world_replay.proofs.Common.{false≢true, MatchBool, Host, Kept, Event, Net, Quiet, Offer, Out, Take, Ask, Server, User, Typed, WorldFault, Carrier, Seat, accepted, NcpState, refusal, next_out, offered, NcpFault, Request, line_bits}
use Rattle.net_sim.specs.Steps.{FetchEnds, OutEnds, FetchGives, OutGives}
use Rattle.std.proofs.Common.{◌≡◌, inl, inr, ℕ, zero, suc, Bool, true, false, List, [], ◌∷◌, length, nat_lt, Option, Some, None, Result, Ok, Err, refl, sym, ap, subst, ◌∙◌, ◌||◌}
use Rattle.interface.specs.Calls.{Calls, crossing_of, step_crossings, is_memory, is_halt}
use Rattle.net_sim.specs.World.{WorldState, seat_of, services_of, up_in, with_carrier, world_moved, changed, with_server, with_user, TypeGives, DoesOrHalts, stops, Refuses, Does, Halts, Passes, OfferEnds, OfferGives, TakeEnds, TakeGives, NetEnds, QuietEnds, AskGives, AtProgram, AtSeat, TurnGives, Repeats, TurnsOf, Calms, CalmGives, EventGives}
use Rattle.replay.specs.Replay.{GoesOn, outcome_of}
use Rattle.replay.specs.Settled.{AreSettled, SameEnd}
use Rattle.interface.specs.declared.carrier.CarrierFault.{CarrierFault}
use Rattle.interface.specs.declared.carrier.CarrierFault.TheVariants as fault
use Rattle.interface.specs.declared.crossing.Crossing.TheVariants as crossing
use Rattle.interface.specs.declared.crossing.Inbound.{Inbound}
use Rattle.interface.specs.declared.event.NetEvent.{NetEvent}
use Rattle.interface.specs.declared.message.HostMessage.{HostMessage}
use Rattle.net_sim.proofs.lemmas.{memory_stops}
use Rattle.sockets.specs.declared.request.Request.TheVariants as request
use Rattle.world_replay.proofs.Grown.{Grew, begins, grew_more, grew_same, turn_grows, turn_kept}

-- ---- what goes one way

-- what ends so goes one way, running out of memory aside; the book only grows by it; and where memory ran out, the book can only grow
-- to what it is where it didn't
pub record Steady {C : Type 0} (k : Kept) (P : Result (Unit {0}) WorldFault → WorldState C → Type 0) : Type 0 where
  pub once : (r q : Result (Unit {0}) WorldFault) (new other : WorldState C) → P r new → stops r ≡ false → P q other → stops q ≡ false → (r ≡ q) × (new ≡ other)
  pub grows : (r : Result (Unit {0}) WorldFault) (new : WorldState C) → P r new → Grew k new.kept
  pub first : (r q : Result (Unit {0}) WorldFault) (new other : WorldState C) → P r new → stops r ≡ true → P q other → stops q ≡ false → Grew new.kept other.kept

pub no_stop : (r : Result (Unit {0}) WorldFault) → stops r ≡ true → stops r ≡ false → ⊥
no_stop r h k = false≢true (sym k ∙ h)

steady_done : {C : Type 0} (done : WorldState C) → Steady done.kept (Does done)
steady_done {C} done = record {
  once = λ r q new other h hg k kg. (h.0 ∙ sym k.0, h.1 ∙ sym k.1);
  grows = λ r new h. grew_same done.kept new.kept (ap (λ (w : WorldState C). w.kept) h.1);
  first = λ r q new other h halts k kg. absurd (no_stop r halts (ap stops h.0));
}

-- ---- one part, and then the next

abbrev pub Onward : {C : Type 0} → (WorldState C → Result (Unit {0}) WorldFault → WorldState C → Type 0) → Result (Unit {0}) WorldFault → WorldState C → Result (Unit {0}) WorldFault → WorldState C → Type 0
Onward Next a mid r new = MatchBool (stops a) ((r ≡ a) × (new ≡ mid)) (Next mid r new)

abbrev Then : {C : Type 0} → (Result (Unit {0}) WorldFault → WorldState C → Type 0) → (WorldState C → Result (Unit {0}) WorldFault → WorldState C → Type 0) → Result (Unit {0}) WorldFault → WorldState C → Type 0
Then {C} P Next r new = (a : Result (Unit {0}) WorldFault) × (mid : WorldState C) × P a mid × Onward Next a mid r new

pub on_either : {A B X : Type 0} (b : Bool) → (b ≡ true → A → X) → (b ≡ false → B → X) → MatchBool b A B → X
on_either true f g h = f refl h
on_either false f g h = g refl h

module _ {C : Type 0} (k : Kept) (P : Result (Unit {0}) WorldFault → WorldState C → Type 0) (Next : WorldState C → Result (Unit {0}) WorldFault → WorldState C → Type 0) (sp : Steady k P) (sn : (mid : WorldState C) → Steady mid.kept (Next mid)) where
  -- what continued to its end continued after its first part
  went_on : (a : Result (Unit {0}) WorldFault) (mid : WorldState C) (r : Result (Unit {0}) WorldFault) (new : WorldState C) → Onward Next a mid r new → stops r ≡ false → (stops a ≡ false) × Next mid r new
  went_on a mid r new h goes = on_either (stops a) (λ s e. absurd (no_stop a s (ap stops (sym e.0) ∙ goes))) (λ s n. (s, n)) h

  then_once : (r q : Result (Unit {0}) WorldFault) (new other : WorldState C) → Then P Next r new → stops r ≡ false → Then P Next q other → stops q ≡ false → (r ≡ q) × (new ≡ other)
  then_once r q new other (a, mid, p, h) hg (b, mid', p', h') hg' =
      let on : (stops a ≡ false) × Next mid r new = went_on a mid r new h hg in
      let on' : (stops b ≡ false) × Next mid' q other = went_on b mid' q other h' hg' in
      let same : (a ≡ b) × (mid ≡ mid') = sp.once a b mid mid' p on.0 p' on'.0 in
      (sn mid).once r q new other on.1 hg (subst (λ (m : WorldState C). Next m q other) (sym same.1) on'.1) hg'

  then_grows : (r : Result (Unit {0}) WorldFault) (new : WorldState C) → Then P Next r new → Grew k new.kept
  then_grows r new (a, mid, p, h) =
      on_either (stops a) (λ s e. subst (λ (w : WorldState C). Grew k w.kept) (sym e.1) (sp.grows a mid p))
      (λ s n. grew_more k mid.kept new.kept (sp.grows a mid p) ((sn mid).grows r new n)) h

  then_first : (r q : Result (Unit {0}) WorldFault) (new other : WorldState C) → Then P Next r new → stops r ≡ true → Then P Next q other → stops q ≡ false → Grew new.kept other.kept
  then_first r q new other (a, mid, p, h) halts (b, mid', p', h') goes =
      let on' : (stops b ≡ false) × Next mid' q other = went_on b mid' q other h' goes in
      on_either (stops a)
      (λ s e. subst (λ (w : WorldState C). Grew w.kept other.kept) (sym e.1) (grew_more mid.kept mid'.kept other.kept (sp.first a b mid mid' p s p' on'.0) ((sn mid').grows q other on'.1)))
      (λ s n.
      let same : (a ≡ b) × (mid ≡ mid') = sp.once a b mid mid' p s p' on'.0 in
      (sn mid).first r q new other n halts (subst (λ (m : WorldState C). Next m q other) (sym same.1) on'.1) goes) h

  steady_then : Steady k (Then P Next)
  steady_then = record {
    once = λ r q new other h hg l lg. then_once r q new other h hg l lg;
    grows = λ r new h. then_grows r new h;
    first = λ r q new other h halts l goes. then_first r q new other h halts l goes;
  }

steady_either : {C : Type 0} (k : Kept) (b : Bool) (P Q : Result (Unit {0}) WorldFault → WorldState C → Type 0) → Steady k P → Steady k Q → Steady k (λ r new. MatchBool b (P r new) (Q r new))
steady_either k true P Q sp sq = record { once = λ r q new other h hg l lg. sp.once r q new other h hg l lg; grows = λ r new h. sp.grows r new h; first = λ r q new other h halts l goes. sp.first r q new other h halts l goes }
steady_either k false P Q sp sq = record { once = λ r q new other h hg l lg. sq.once r q new other h hg l lg; grows = λ r new h. sq.grows r new h; first = λ r q new other h halts l goes. sq.first r q new other h halts l goes }

-- ---- one call of the carrier

abbrev Goes : {T : Type 0} → Result T CarrierFault → Type 0
Goes (Ok x) = Unit {0}
Goes (Err f) = (is_halt f || is_memory f) ≡ false

abbrev told : {T : Type 0} → Result T CarrierFault → Result (Unit {0}) WorldFault
told (Ok x) = Ok tt
told (Err f) = Err (Carrier f)

abbrev left : {C T : Type 0} → (T → C → WorldState C) → WorldState C → Result T CarrierFault → C → WorldState C
left done old (Ok x) c = done x c
left done old (Err f) c = record old { carrier = c; stopped = is_memory f }

-- the event ended as its one call did
record Ends {C T : Type 0} (Call : Result T CarrierFault → C → Type 0) (done : T → C → WorldState C) (old : WorldState C) (r : Result (Unit {0}) WorldFault) (new : WorldState C) : Type 0 where
  answer : Result T CarrierFault
  c : C
  called : Call answer c
  goes : Goes answer
  is : r ≡ told answer
  leaves : new ≡ left done old answer c

ends_once : {C T : Type 0} (Call : Result T CarrierFault → C → Type 0) (done : T → C → WorldState C) (old : WorldState C) (r q : Result (Unit {0}) WorldFault) (new other : WorldState C)
    → ((a b : Result T CarrierFault) (c d : C) → Call a c → Goes a → Call b d → Goes b → SameEnd a b c d) → Ends Call done old r new → Ends Call done old q other → (r ≡ q) × (new ≡ other)
ends_once {C} {T} Call done old r q new other once h k =
    let same : SameEnd h.answer k.answer h.c k.c = once h.answer k.answer h.c k.c h.called h.goes k.called k.goes in
    (h.is ∙ ap told same.answers ∙ sym k.is, h.leaves ∙ ap (λ (a : Result T CarrierFault). left done old a h.c) same.answers ∙ ap (λ (c : C). left done old k.answer c) same.carriers ∙ sym k.leaves)

goes_as : (a : Result (Unit {0}) CarrierFault) → Goes a → GoesOn a
goes_as (Ok done) g = tt
goes_as (Err f) g = g

goes_of : (a : Result (Option Inbound) CarrierFault) → Goes a → GoesOn (outcome_of a)
goes_of (Ok o) g = tt
goes_of (Err f) g = g

or_falls : (a b : Bool) → (a || b) ≡ false → (b || a) ≡ false
or_falls true b e = absurd (false≢true (sym e))
or_falls false true e = absurd (false≢true (sym e))
or_falls false false e = refl

pub passes_goes : {C : Type 0} (f : CarrierFault) (c : C) (old : WorldState C) (r : Result (Unit {0}) WorldFault) (new : WorldState C) → Passes f c old r new → stops r ≡ false → (is_halt f || is_memory f) ≡ false
passes_goes f c old r new h goes = or_falls (is_memory f) (is_halt f) (ap stops (sym h.0) ∙ goes)

pub halts_stop : {C : Type 0} (c : C) (old : WorldState C) (r : Result (Unit {0}) WorldFault) (new : WorldState C) → Halts c old r new → stops r ≡ false → ⊥
halts_stop c old r new h goes = no_stop r (ap stops h.answer ∙ memory_stops h.fault h.memory) goes

-- ---- one event

module _ {C : Type 0} (calls : Calls C) (settled : AreSettled calls) where
  -- an offer
  abbrev offered_to : Host → NcpState → HostMessage → WorldState C → Unit {0} → C → WorldState C
  offered_to h s m old done c = world_moved c h (crossing.Out m) (offered s (length old.kept.book.crossings)) old

  offer_ends : (h : Host) (s : NcpState) (m : HostMessage) (old : WorldState C) (a : Result (Unit {0}) CarrierFault) (c : C) (r : Result (Unit {0}) WorldFault) (new : WorldState C) → calls.offers old.carrier m a c → OfferEnds h s m a c old r new
      → stops r ≡ false → Ends (calls.offers old.carrier m) (offered_to h s m old) old r new
  offer_ends h s m old (Ok done) c r new call ends goes = elim ends [
    | inl d ↦ record { answer = Ok done; c = c; called = call; goes = tt; is = d.0; leaves = d.1 }
    | inr x ↦ absurd (halts_stop c old r new x goes)
  ]
  offer_ends h s m old (Err f) c r new call ends goes = record { answer = Err f; c = c; called = call; goes = passes_goes f c old r new ends goes; is = ends.0; leaves = ends.1 }

  offer_gives : (h : Host) (s : NcpState) (m : HostMessage) (old : WorldState C) (r : Result (Unit {0}) WorldFault) (new : WorldState C) → OfferGives calls h s (Some m) old r new → stops r ≡ false
      → Ends (calls.offers old.carrier m) (offered_to h s m old) old r new
  offer_gives h s m old r new gives goes = elim gives [ inl x ↦ absurd (halts_stop old.carrier old r new x goes) | inr t ↦ offer_ends h s m old t.0 t.1 r new t.2 t.3 goes ]

  offer_once : (h : Host) (s : NcpState) (o : Option HostMessage) (old : WorldState C) (r q : Result (Unit {0}) WorldFault) (new other : WorldState C) → OfferGives calls h s o old r new → stops r ≡ false → OfferGives calls h s o old q other → stops q ≡ false
      → (r ≡ q) × (new ≡ other)
  offer_once h s None old r q new other g hg k kg = (g.0 ∙ sym k.0, g.1 ∙ sym k.1)
  offer_once h s (Some m) old r q new other g hg k kg =
      ends_once (calls.offers old.carrier m) (offered_to h s m old) old r q new other (λ a b c d ca ga cb gb. settled.offers_once old.carrier m a b c d ca (goes_as a ga) cb (goes_as b gb))
      (offer_gives h s m old r new g hg) (offer_gives h s m old q other k kg)

  -- a taking
  abbrev taken_by : Host → NcpState → WorldState C → Option Inbound → C → WorldState C
  taken_by h s old None c = with_carrier c old
  taken_by h s old (Some i) c = world_moved c h (crossing_of i) (accepted s i (length old.kept.book.crossings)) old

  take_ends : (h : Host) (s : NcpState) (old : WorldState C) (a : Result (Option Inbound) CarrierFault) (c : C) (r : Result (Unit {0}) WorldFault) (new : WorldState C) → calls.takes old.carrier h a c → TakeEnds h s a c old r new
      → stops r ≡ false → Ends (calls.takes old.carrier h) (taken_by h s old) old r new
  take_ends h s old (Ok None) c r new call ends goes = record { answer = Ok None; c = c; called = call; goes = tt; is = ends.0; leaves = ends.1 }
  take_ends h s old (Ok (Some i)) c r new call ends goes = elim ends [
    | inl d ↦ record { answer = Ok (Some i); c = c; called = call; goes = tt; is = d.0; leaves = d.1 }
    | inr x ↦ absurd (halts_stop c old r new x goes)
  ]
  take_ends h s old (Err f) c r new call ends goes = record { answer = Err f; c = c; called = call; goes = passes_goes f c old r new ends goes; is = ends.0; leaves = ends.1 }

  take_once : (h : Host) (s : NcpState) (old : WorldState C) (r q : Result (Unit {0}) WorldFault) (new other : WorldState C) → TakeGives calls h s old r new → stops r ≡ false → TakeGives calls h s old q other → stops q ≡ false → (r ≡ q) × (new ≡ other)
  take_once h s old r q new other g hg k kg =
      ends_once (calls.takes old.carrier h) (taken_by h s old) old r q new other (λ a b c d ca ga cb gb. settled.takes_once old.carrier h a b c d ca (goes_of a ga) cb (goes_of b gb))
      (take_ends h s old g.0 g.1 r new g.2 g.3 hg) (take_ends h s old k.0 k.1 q other k.2 k.3 kg)

  -- what a stranger says, and what it takes
  abbrev said_by : HostMessage → WorldState C → Unit {0} → C → WorldState C
  said_by m old done c = changed c (crossing.Out m ∷ []) old

  out_ends : (m : HostMessage) (old : WorldState C) (a : Result (Unit {0}) CarrierFault) (c : C)
      (r : Result (Unit {0}) WorldFault) (new : WorldState C)
      → calls.offers old.carrier m a c → OutEnds m a c old r new → stops r ≡ false
      → Ends (calls.offers old.carrier m) (said_by m old) old r new
  out_ends m old (Ok done) c r new call ends goes = elim ends [
    | inl d ↦ record { answer = Ok done; c = c; called = call; goes = tt; is = d.0; leaves = d.1 }
    | inr x ↦ absurd (halts_stop c old r new x goes)
  ]
  out_ends m old (Err f) c r new call ends goes =
      let on = passes_goes f c old r new ends goes in
      record { answer = Err f; c = c; called = call; goes = on; is = ends.0; leaves = ends.1 }

  pub out_once : (m : HostMessage) (old : WorldState C) (r q : Result (Unit {0}) WorldFault) (new other : WorldState C)
      → OutGives calls m old r new → stops r ≡ false → OutGives calls m old q other → stops q ≡ false
      → (r ≡ q) × (new ≡ other)
  out_once m old r q new other g hg k kg =
      ends_once (calls.offers old.carrier m) (said_by m old) old r q new other
      (λ a b c d ca ga cb gb. settled.offers_once old.carrier m a b c d ca (goes_as a ga) cb (goes_as b gb))
      (out_ends m old g.0 g.1 r new g.2 g.3 hg) (out_ends m old k.0 k.1 q other k.2 k.3 kg)

  abbrev fetched_by : WorldState C → Option Inbound → C → WorldState C
  fetched_by old None c = with_carrier c old
  fetched_by old (Some i) c = changed c (crossing_of i ∷ []) old

  fetch_ends : (h : Host) (old : WorldState C) (a : Result (Option Inbound) CarrierFault) (c : C)
      (r : Result (Unit {0}) WorldFault) (new : WorldState C)
      → calls.takes old.carrier h a c → FetchEnds a c old r new → stops r ≡ false
      → Ends (calls.takes old.carrier h) (fetched_by old) old r new
  fetch_ends h old (Ok None) c r new call ends goes =
      record { answer = Ok None; c = c; called = call; goes = tt; is = ends.0; leaves = ends.1 }
  fetch_ends h old (Ok (Some i)) c r new call ends goes = elim ends [
    | inl d ↦ record { answer = Ok (Some i); c = c; called = call; goes = tt; is = d.0; leaves = d.1 }
    | inr x ↦ absurd (halts_stop c old r new x goes)
  ]
  fetch_ends h old (Err f) c r new call ends goes =
      let on = passes_goes f c old r new ends goes in
      record { answer = Err f; c = c; called = call; goes = on; is = ends.0; leaves = ends.1 }

  pub fetch_once : (h : Host) (old : WorldState C) (r q : Result (Unit {0}) WorldFault) (new other : WorldState C)
      → FetchGives calls h old r new → stops r ≡ false → FetchGives calls h old q other → stops q ≡ false
      → (r ≡ q) × (new ≡ other)
  fetch_once h old r q new other g hg k kg =
      ends_once (calls.takes old.carrier h) (fetched_by old) old r q new other
      (λ a b c d ca ga cb gb. settled.takes_once old.carrier h a b c d ca (goes_of a ga) cb (goes_of b gb))
      (fetch_ends h old g.0 g.1 r new g.2 g.3 hg) (fetch_ends h old k.0 k.1 q other k.2 k.3 kg)

  -- an event of the network, and a quiet round
  abbrev changed_by : NetEvent → WorldState C → Unit {0} → C → WorldState C
  changed_by e old done c = changed c (step_crossings (calls.seen old.carrier) e) old

  net_ends : (e : NetEvent) (old : WorldState C) (a : Result (Unit {0}) CarrierFault) (c : C) (r : Result (Unit {0}) WorldFault) (new : WorldState C) → calls.steps old.carrier e a c → NetEnds (calls.seen old.carrier) e a c old r new
      → stops r ≡ false → Ends (calls.steps old.carrier e) (changed_by e old) old r new
  net_ends e old (Ok done) c r new call ends goes = elim ends [
    | inl d ↦ record { answer = Ok done; c = c; called = call; goes = tt; is = d.0; leaves = d.1 }
    | inr x ↦ absurd (halts_stop c old r new x.1 goes)
  ]
  net_ends e old (Err f) c r new call ends goes = record { answer = Err f; c = c; called = call; goes = passes_goes f c old r new ends goes; is = ends.0; leaves = ends.1 }

  quiet_ends : (old : WorldState C) (a : Result (Unit {0}) CarrierFault) (c : C) (r : Result (Unit {0}) WorldFault) (new : WorldState C) → calls.rounds old.carrier a c → QuietEnds a c old r new
      → stops r ≡ false → Ends (calls.rounds old.carrier) (λ done c. with_carrier c old) old r new
  quiet_ends old (Ok done) c r new call ends goes = record { answer = Ok done; c = c; called = call; goes = tt; is = ends.0; leaves = ends.1 }
  quiet_ends old (Err f) c r new call ends goes = record { answer = Err f; c = c; called = call; goes = passes_goes f c old r new ends goes; is = ends.0; leaves = ends.1 }

  -- something that a user asks for
  ask_once : (h : Host) (w : Request) (s : NcpState) (o : Option NcpFault) (old : WorldState C) (r q : Result (Unit {0}) WorldFault) (new other : WorldState C) → AskGives h w s o old r new → stops r ≡ false → AskGives h w s o old q other → stops q ≡ false
      → (r ≡ q) × (new ≡ other)
  ask_once h w s (Some f) old r q new other g hg k kg = (g.0 ∙ sym k.0, g.1 ∙ sym k.1)
  ask_once h w s None old r q new other g hg k kg = elim g [
    | inl d ↦ elim k [ inl e ↦ (d.0 ∙ sym e.0, d.1 ∙ sym e.1) | inr x ↦ absurd (halts_stop old.carrier old q other x kg) ]
    | inr x ↦ absurd (halts_stop old.carrier old r new x hg)
  ]

  -- something that is done, unless memory runs out
  done_once : (done old : WorldState C) (r q : Result (Unit {0}) WorldFault) (new other : WorldState C) → DoesOrHalts done old r new → stops r ≡ false → DoesOrHalts done old q other → stops q ≡ false → (r ≡ q) × (new ≡ other)
  done_once done old r q new other g hg k kg = elim g [
    | inl d ↦ elim k [ inl e ↦ (d.0 ∙ sym e.0, d.1 ∙ sym e.1) | inr x ↦ absurd (halts_stop old.carrier old q other x kg) ]
    | inr x ↦ absurd (halts_stop old.carrier old r new x hg)
  ]

  -- a line that is typed
  type_once : (h : Host) (line : List ℕ) (s : NcpState) (o : Option ℕ) (old : WorldState C) (r q : Result (Unit {0}) WorldFault) (new other : WorldState C) → TypeGives h line s o old r new → stops r ≡ false → TypeGives h line s o old q other → stops q ≡ false
      → (r ≡ q) × (new ≡ other)
  type_once h line s None old r q new other g hg k kg = (g.0 ∙ sym k.0, g.1 ∙ sym k.1)
  type_once h line s (Some socket) old r q new other g hg k kg =
      ask_once h (request.Send socket (line_bits line)) s (refusal s (request.Send socket (line_bits line))) old r q new other g hg k kg

  -- at a host
  at_program : (P Q : NcpState → Type 0) (o : Option NcpState) (old : WorldState C) (r q : Result (Unit {0}) WorldFault) (new other : WorldState C)
      → ((s : NcpState) → P s → Q s → (r ≡ q) × (new ≡ other)) → AtProgram P o old r new → AtProgram Q o old q other → (r ≡ q) × (new ≡ other)
  at_program P Q None old r q new other once g k = (g.0 ∙ sym k.0, g.1 ∙ sym k.1)
  at_program P Q (Some s) old r q new other once g k = once s g k

  at_seat : (P Q : NcpState → Type 0) (o : Option Seat) (old : WorldState C) (r q : Result (Unit {0}) WorldFault) (new other : WorldState C)
      → ((s : NcpState) → P s → Q s → (r ≡ q) × (new ≡ other)) → AtSeat P o old r new → AtSeat Q o old q other → (r ≡ q) × (new ≡ other)
  at_seat P Q None old r q new other once g k = (g.0 ∙ sym k.0, g.1 ∙ sym k.1)
  at_seat P Q (Some seat) old r q new other once g k = at_program P Q seat.program old r q new other once g k

  pub event_once : (e : Event) (old : WorldState C) (r q : Result (Unit {0}) WorldFault) (new other : WorldState C) → EventGives calls old e r new → stops r ≡ false → EventGives calls old e q other → stops q ≡ false → (r ≡ q) × (new ≡ other)
  event_once (Net e) old r q new other g hg k kg =
      ends_once (calls.steps old.carrier e) (changed_by e old) old r q new other (λ a b c d ca ga cb gb. settled.steps_once old.carrier e a b c d ca (goes_as a ga) cb (goes_as b gb))
      (net_ends e old g.0 g.1 r new g.2 g.3 hg) (net_ends e old k.0 k.1 q other k.2 k.3 kg)
  event_once Quiet old r q new other g hg k kg =
      ends_once (calls.rounds old.carrier) (λ done c. with_carrier c old) old r q new other (λ a b c d ca ga cb gb. settled.rounds_once old.carrier a b c d ca (goes_as a ga) cb (goes_as b gb))
      (quiet_ends old g.0 g.1 r new g.2 g.3 hg) (quiet_ends old k.0 k.1 q other k.2 k.3 kg)
  event_once (Offer h) old r q new other g hg k kg =
      at_seat (λ s. OfferGives calls h s (next_out s) old r new) (λ s. OfferGives calls h s (next_out s) old q other) (seat_of h old.seats) old r q new other
      (λ s a b. offer_once h s (next_out s) old r q new other a hg b kg) g k
  event_once (Take h) old r q new other g hg k kg =
      at_seat (λ s. TakeGives calls h s old r new) (λ s. TakeGives calls h s old q other) (seat_of h old.seats) old r q new other (λ s a b. take_once h s old r q new other a hg b kg) g k
  event_once (Ask h w) old r q new other g hg k kg =
      at_seat (λ s. AskGives h w s (refusal s w) old r new) (λ s. AskGives h w s (refusal s w) old q other) (seat_of h old.seats) old r q new other
      (λ s a b. ask_once h w s (refusal s w) old r q new other a hg b kg) g k
  event_once (Server h listen base) old r q new other g hg k kg =
      at_seat (λ s. DoesOrHalts (with_server h listen base s old) old r new) (λ s. DoesOrHalts (with_server h listen base s old) old q other) (seat_of h old.seats) old r q new other
      (λ s a b. done_once (with_server h listen base s old) old r q new other a hg b kg) g k
  event_once (User h peer listen own) old r q new other g hg k kg =
      at_seat (λ s. DoesOrHalts (with_user h peer listen own s old) old r new) (λ s. DoesOrHalts (with_user h peer listen own s old) old q other) (seat_of h old.seats) old r q new other
      (λ s a b. done_once (with_user h peer listen own s old) old r q new other a hg b kg) g k
  event_once (Typed h line) old r q new other g hg k kg =
      at_seat (λ s. TypeGives h line s (services_of h old.services).typing old r new) (λ s. TypeGives h line s (services_of h old.services).typing old q other) (seat_of h old.seats) old r q new other
      (λ s a b. type_once h line s (services_of h old.services).typing old r q new other a hg b kg) g k
  event_once (Out m) old r q new other g hg k kg = (g.0 ∙ sym k.0, g.1 ∙ sym k.1)

  stopped_once : (f : WorldFault) (old : WorldState C) (r q : Result (Unit {0}) WorldFault) (new other : WorldState C) (b : Bool) (P Q : Type 0) → (P → Q → (r ≡ q) × (new ≡ other))
      → MatchBool b (Refuses f old r new) P → MatchBool b (Refuses f old q other) Q → (r ≡ q) × (new ≡ other)
  stopped_once f old r q new other true P Q once g k = (g.0 ∙ sym k.0, g.1 ∙ sym k.1)
  stopped_once f old r q new other false P Q once g k = once g k

  pub turn_once : (e : Event) (old : WorldState C) (r q : Result (Unit {0}) WorldFault) (new other : WorldState C) → TurnGives calls old e r new → stops r ≡ false → TurnGives calls old e q other → stops q ≡ false → (r ≡ q) × (new ≡ other)
  turn_once e old r q new other g hg k kg =
      stopped_once (Carrier fault.Stopped) old r q new other old.stopped (EventGives calls old e r new) (EventGives calls old e q other) (λ a b. event_once e old r q new other a hg b kg) g k

  -- ---- several events

  steady_turn : (e : Event) (old : WorldState C) → begins e ≡ false → Steady old.kept (TurnGives calls old e)
  steady_turn e old other = record {
    once = λ r q new last h hg k kg. turn_once e old r q new last h hg k kg;
    grows = λ r new h. turn_grows calls e old r new other h;
    first = λ r q new last h halts k goes. subst (λ (x : Kept). Grew x last.kept) (sym (turn_kept calls e old r new h halts)) (turn_grows calls e old q last other k);
  }

  steady_repeats : (e : Event) (times : ℕ) (old : WorldState C) → begins e ≡ false → Steady old.kept (Repeats calls e times old)
  steady_repeats e zero old other = steady_done old
  steady_repeats e (suc times) old other =
      steady_then old.kept (TurnGives calls old e)
      (λ mid r new. MatchBool (nat_lt (length old.kept.book.crossings) (length mid.kept.book.crossings)) (Repeats calls e times mid r new) (Does mid r new))
      (steady_turn e old other)
      (λ mid. steady_either mid.kept (nat_lt (length old.kept.book.crossings) (length mid.kept.book.crossings)) (Repeats calls e times mid) (Does mid) (steady_repeats e times mid other) (steady_done mid))

  steady_turns : (hosts : List Host) (old : WorldState C) → Steady old.kept (TurnsOf calls hosts old)
  steady_turns [] old = steady_done old
  steady_turns (h ∷ hosts) old =
      steady_then old.kept (Repeats calls (Take h) 16 old)
      (λ taken r new. Then (Repeats calls (Offer h) 32 taken) (λ sent. TurnsOf calls hosts sent) r new)
      (steady_repeats (Take h) 16 old refl)
      (λ taken. steady_then taken.kept (Repeats calls (Offer h) 32 taken) (λ sent. TurnsOf calls hosts sent) (steady_repeats (Offer h) 32 taken refl) (λ sent. steady_turns hosts sent))

  steady_calms : (times : ℕ) (old : WorldState C) → Steady old.kept (Calms calls times old)
  steady_calms zero old = steady_done old
  steady_calms (suc times) old =
      steady_then old.kept (TurnGives calls old Quiet)
      (λ quiet r new. Then (TurnsOf calls (up_in quiet.seats) quiet) (λ turned. Calms calls times turned) r new)
      (steady_turn Quiet old refl)
      (λ quiet. steady_then quiet.kept (TurnsOf calls (up_in quiet.seats) quiet) (λ turned. Calms calls times turned) (steady_turns (up_in quiet.seats) quiet) (λ turned. steady_calms times turned))

  steady_refused : (old : WorldState C) → Steady old.kept (λ r new. Refuses (Carrier fault.Stopped) old r new)
  steady_refused old = record {
    once = λ r q new other h hg k kg. (h.0 ∙ sym k.0, h.1 ∙ sym k.1);
    grows = λ r new h. grew_same old.kept new.kept (ap (λ (w : WorldState C). w.kept) h.1);
    first = λ r q new other h halts k goes. absurd (no_stop q (ap stops k.0) goes);
  }

  pub steady_calm : (times : ℕ) (old : WorldState C) → Steady old.kept (CalmGives calls times old)
  steady_calm times old = steady_either old.kept old.stopped (λ r new. Refuses (Carrier fault.Stopped) old r new) (Calms calls times old) (steady_refused old) (steady_calms times old)
