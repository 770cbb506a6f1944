-- What is shown of a stranger in a small world.
use Rattle.world_replay.proofs.Common.{append-nil, Host, same_host, Crossing, Event, Ask, Net, Offer, Quiet, Server, Take, Typed, User, Out, WorldFault, Kept, crossed, Gains, gained, NcpState, opening_state, first, second, third, Seat, IsOfCalm, calm_keeps, Told, WorldEvent}
use Rattle.world_replay.specs.Replay.{Happens}
use Rattle.std.proofs.Common.{◌≡◌, inl, inr, ℕ, Bool, true, false, List, [], ◌∷◌, ◌++◌, Option, None, Some, Result, Ok, Err, refl, ap, sym, subst, ◌∙◌, if◌then◌else◌}
use Rattle.interface.specs.Calls.{Calls, Seen, crossing_of, grown}
use Rattle.net_sim.specs.World.{TurnGives, WorldState, AtProgram, AtSeat, OfferGives, QuietEnds, TakeEnds, TakeGives, changed, stops, seat_of, world_moved, Refuses, EventGives, opening_seats}
use Rattle.net_sim.specs.Worked.{message, any_carrier, accepting_carrier}
use Rattle.net_sim.specs.Steps.{FetchEnds, OutEnds}
use Rattle.world_replay.specs.Output.{Noticed, shown_refusal, Crossed, Refused, Shown}
use Rattle.bit_messages.specs.Octets.{octets_of}
use Rattle.host_pairs.specs.Control.{orders_of}
use Rattle.host_pairs.specs.declared.notice.Notice.TheVariants as notice
use Rattle.host_services.specs.Turns as services
use Rattle.interface.proofs.lemmas.{same_host-true}
use Rattle.interface.specs.declared.carrier.CarrierFault.{CarrierFault}
use Rattle.interface.specs.declared.crossing.Answer.TheVariants as answer
use Rattle.interface.specs.declared.crossing.Crossing.TheVariants as crossing
use Rattle.interface.specs.declared.crossing.Inbound.{Inbound}
use Rattle.interface.specs.declared.crossing.Inbound.TheVariants as inbound
use Rattle.interface.specs.declared.message.HostMessage.{HostMessage}
use Rattle.ncp_control.specs.Packing.{packed_count}
use Rattle.ncp_control.specs.Reading.{command_of, read_of}
use Rattle.net_sim.specs.WorkedStrangers.{beside_third, three_seen, waiting_carrier}
use Rattle.sockets.specs.Accepting.{accepted}
use Rattle.sockets.specs.Sending.{next_out}
use Rattle.world_replay.proofs.Grown.{at_seat, gains_none, if_stopped}
use Rattle.world_replay.proofs.Replayable.{world_replayable}
use Rattle.world_replay.proofs.Replays.{gains_once, same_news}
use Rattle.world_replay.proofs.Rounds.{is_false}
use Rattle.world_replay.proofs.Steady.{halts_stop}
use Rattle.world_replay.specs.WorkedStrangers.{MayShow, hail, hailed}
use Rattle.world_script.specs.declared.event.WorldEvent.TheVariants as script

-- a book that gains nothing shows nothing, and one that gains a crossing shows that
unmoved : (k j : Kept) (g : Gains k j) → j ≡ k → gained g ≡ []
unmoved k j g is = same_news k j k g (gains_none k) (gains_once k j k g (gains_none k) is)

moved : (c : Crossing) (k j : Kept) (g : Gains k j) → j ≡ crossed c k → gained g ≡ Crossed c ∷ []
moved c k j g is =
    let one : Gains k (crossed c k) = record { crossings = c ∷ []; notices = []; reports = []; crossed = refl; told = sym (append-nil k.book.notices); said = sym (append-nil k.book.reports) } in
    same_news k j (crossed c k) g one (gains_once k j (crossed c k) g one is)

abbrev world : WorldState Seen
world = beside_third

-- ---- refusals

pub refused_only : (calls : Calls Seen) (e : WorldEvent) (f : WorldFault) (new : WorldState Seen)
    (shown : List Shown) (h : Happens calls beside_third e new shown)
    → Refuses f world h.outcome new → shown ≡ Refused f ∷ []
refused_only calls e f new shown h refuses =
    h.lines ∙ ap (λ (xs : List Shown). xs ++ shown_refusal h.outcome) (unmoved beside_third.kept new.kept h.gains (ap (λ (w : WorldState Seen). w.kept) refuses.1))
    ∙ ap shown_refusal refuses.0

-- ---- what it says and takes

went_well : (c : Crossing) (e : WorldEvent) (calls : Calls Seen) (new : WorldState Seen) (shown : List Shown)
    (h : Happens calls beside_third e new shown)
    → (new.kept ≡ crossed c beside_third.kept) × (h.outcome ≡ Ok tt) → shown ≡ Crossed c ∷ []
went_well c e calls new shown h (kept, well) =
    h.lines ∙ ap (λ (xs : List Shown). xs ++ shown_refusal h.outcome) (moved c beside_third.kept new.kept h.gains kept)
    ∙ ap (λ (r : Result (Unit {0}) WorldFault). Crossed c ∷ shown_refusal r) well

said : (m : HostMessage) (a : Result (Unit {0}) CarrierFault) (c : Seen) (q : Result (Unit {0}) WorldFault)
    (w : WorldState Seen)
    → a ≡ Ok tt → OutEnds m a c world q w → stops q ≡ false
    → (w.kept ≡ crossed (crossing.Out m) world.kept) × (q ≡ Ok tt)
said m (Ok done) c q w is (inl d) on = (ap (λ (x : WorldState Seen). x.kept) d.1, d.0)
said m (Ok done) c q w is (inr h) on = absurd (halts_stop c world q w h on)
said m (Err e) c q w is ends on = absurd (cc)

took : (i : Inbound) (a : Result (Option Inbound) CarrierFault) (c : Seen) (q : Result (Unit {0}) WorldFault)
    (w : WorldState Seen)
    → a ≡ Ok (Some i) → FetchEnds a c world q w → stops q ≡ false
    → (j : Inbound) × (w.kept ≡ crossed (crossing_of j) world.kept) × (q ≡ Ok tt)
took i (Ok None) c q w is ends on = absurd (cc)
took i (Ok (Some j)) c q w is (inl d) on = (j, ap (λ (x : WorldState Seen). x.kept) d.1, d.0)
took i (Ok (Some j)) c q w is (inr h) on = absurd (halts_stop c world q w h on)
took i (Err e) c q w is ends on = absurd (cc)

pub says_only : (new : WorldState Seen) (shown : List Shown)
    → Happens accepting_carrier beside_third (script.Happen (Out (message third first 2))) new shown
    → shown ≡ Crossed (crossing.Out (message third first 2)) ∷ []
says_only new shown h =
    let (a, c, call, ends) = h.gives in
    went_well (crossing.Out (message third first 2)) (script.Happen (Out (message third first 2))) accepting_carrier new shown h
    (said (message third first 2) a c h.outcome new call.0 ends h.goes_on)

pub takes_only : (new : WorldState Seen) (shown : List Shown)
    → Happens waiting_carrier beside_third (script.Happen (Take third)) new shown
    → (i : Inbound) × (shown ≡ Crossed (crossing_of i) ∷ [])
takes_only new shown h =
    let (a, c, ((i, given), seen), ends) = h.gives in
    let (j, kept, well) = took i a c h.outcome new given ends h.goes_on in
    (j, went_well (crossing_of j) (script.Happen (Take third)) waiting_carrier new shown h (kept, well))

-- ---- a calm

-- nothing is written, and nobody stops
abbrev Stays : WorldState Seen → Type 0
Stays w = (w.kept ≡ world.kept) × (w.seats ≡ world.seats)

still : (old new : WorldState Seen) → Stays old → new ≡ old → Stays new
still old new p is = subst Stays (sym is) p

quiet_stays : (a : Result (Unit {0}) CarrierFault) (c : Seen) (old : WorldState Seen)
    (r : Result (Unit {0}) WorldFault) (new : WorldState Seen)
    → Stays old → QuietEnds a c old r new → Stays new
quiet_stays (Ok done) c old r new p ends = subst Stays (sym ends.1) p
quiet_stays (Err f) c old r new p ends = subst Stays (sym ends.1) p

nothing_taken : (h : Host) (s : NcpState) (a : Result (Option Inbound) CarrierFault) (c : Seen)
    (old : WorldState Seen) (r : Result (Unit {0}) WorldFault) (new : WorldState Seen)
    → a ≡ Ok None → Stays old → TakeEnds h s a c old r new → Stays new
nothing_taken h s (Ok None) c old r new is p ends = subst Stays (sym ends.1) p
nothing_taken h s (Ok (Some i)) c old r new is p ends = absurd (cc)
nothing_taken h s (Err e) c old r new is p ends = absurd (cc)

abbrev TakesAt : Host → WorldState Seen → Result (Unit {0}) WorldFault → WorldState Seen → NcpState → Type 0
TakesAt h old r new s = TakeGives waiting_carrier h s old r new

-- the stranger has no seat, and nothing waits for another
take_stays : (h : Host) (old : WorldState Seen) (r : Result (Unit {0}) WorldFault) (new : WorldState Seen) → Stays old
    → (b : Bool) → same_host h third ≡ b → AtSeat (TakesAt h old r new) (seat_of h old.seats) old r new → Stays new
take_stays h old r new p true e t =
    let none : seat_of h old.seats ≡ None = ap (seat_of h) p.1 ∙ ap (λ (x : Host). seat_of x world.seats) (same_host-true h third e) in
    still old new p (let refused : AtSeat (TakesAt h old r new) None old r new = subst (λ (o : Option Seat). AtSeat (TakesAt h old r new) o old r new) none t in refused.1)
take_stays h old r new p false e t =
    at_seat waiting_carrier (TakesAt h old r new) (Stays new) (seat_of h old.seats) old r new (λ is. still old new p is)
    (λ s g. nothing_taken h s g.0 g.1 old r new (is_false _ _ (same_host h third) e g.2.0) p g.3) t

abbrev IsMute : Option Seat → Type 0
IsMute None = Unit {0}
IsMute (Some seat) = (s : NcpState) → seat.program ≡ Some s → next_out s ≡ None

-- a host that has just come up has nothing to say
mute_seat : (h : Host) → IsMute (Some (record { host = h; program = Some (opening_state h) }))
unfolding next_out
mute_seat h s is = subst (λ (t : NcpState). next_out t ≡ None) {x = opening_state h} {y = s} (let same : Some (opening_state h) ≡ Some s = is in cc) (let none : next_out (opening_state h) ≡ None = refl in none)

either_mute : (b : Bool) (o p : Option Seat) → IsMute o → IsMute p → IsMute (if b then o else p)
either_mute true o p k l = k
either_mute false o p k l = l

mute_there : (h : Host) (hosts : List Host) → IsMute (seat_of h (opening_seats hosts))
mute_there h [] = tt
mute_there h (x ∷ hosts) = either_mute (same_host h x) (Some (record { host = x; program = Some (opening_state x) })) (seat_of h (opening_seats hosts)) (mute_seat x) (mute_there h hosts)

offer_stays : (h : Host) (o : Option Seat) (old : WorldState Seen) (r : Result (Unit {0}) WorldFault)
    (new : WorldState Seen)
    → Stays old → IsMute o → AtSeat (λ s. OfferGives waiting_carrier h s (next_out s) old r new) o old r new
    → Stays new
offer_stays h None old r new p mute t = still old new p t.1
offer_stays h (Some seat) old r new p mute t = by seat.program refl t where
  by : (program : Option NcpState) → seat.program ≡ program
      → AtProgram (λ s. OfferGives waiting_carrier h s (next_out s) old r new) program old r new → Stays new
  by None is u = still old new p u.1
  by (Some s) is u = (let done : OfferGives waiting_carrier h s None old r new = subst (λ (m : Option HostMessage). OfferGives waiting_carrier h s m old r new) (mute s is) u in still old new p done.1)

event_stays : (e : Event) (old : WorldState Seen) (r : Result (Unit {0}) WorldFault) (new : WorldState Seen)
    → IsOfCalm e → Stays old → EventGives waiting_carrier old e r new → Stays new
event_stays Quiet old r new n p t = quiet_stays t.0 t.1 old r new p t.3
event_stays (Take h) old r new n p t = take_stays h old r new p (same_host h third) refl t
event_stays (Offer h) old r new n p t = offer_stays h (seat_of h old.seats) old r new p (subst (λ (seats : List Seat). IsMute (seat_of h seats)) (sym p.1) (mute_there h (first ∷ second ∷ []))) t
event_stays (Net e) old r new n p t = absurd n
event_stays (Ask h q) old r new n p t = absurd n
event_stays (Server h listen base) old r new n p t = absurd n
event_stays (User h peer listen own) old r new n p t = absurd n
event_stays (Typed h line) old r new n p t = absurd n
event_stays (Out m) old r new n p t = absurd n

step_stays : (e : Event) (old : WorldState Seen) (r : Result (Unit {0}) WorldFault) (new : WorldState Seen)
    → IsOfCalm e → Stays old → TurnGives waiting_carrier old e r new → Stays new
step_stays e old r new n p h = if_stopped waiting_carrier (EventGives waiting_carrier old e r new) (Stays new) old r new old.stopped (λ is. still old new p is) (λ t. event_stays e old r new n p t) h

pub waits : (rounds : ℕ) (new : WorldState Seen) (shown : List Shown)
    → Happens waiting_carrier beside_third (script.Calm rounds) new shown → shown ≡ []
waits rounds new shown h =
    let stays : Stays new = calm_keeps waiting_carrier Stays IsOfCalm tt (λ x. tt) (λ x. tt) (λ e old r w n p s. step_stays e old r w n p s) rounds world h.outcome new (refl, refl) h.gives in
    let well : h.outcome ≡ Ok tt = (world_replayable waiting_carrier).well rounds beside_third h.outcome new h.gives h.goes_on in
    h.lines ∙ ap (λ (xs : List Shown). xs ++ shown_refusal h.outcome) (unmoved beside_third.kept new.kept h.gains stays.0) ∙ ap shown_refusal well

-- ---- it hails a host, which answers

abbrev there : Calls Seen
there = any_carrier

-- after each of the three events
abbrev pub sent : WorldState Seen
sent = changed (grown three_seen (crossing.Out hail ∷ [])) (crossing.Out hail ∷ []) world

abbrev heard : WorldState Seen
heard = world_moved (grown sent.carrier (crossing.In hail ∷ [])) first (crossing.In hail) (accepted (opening_state first) (inbound.Message hail) 1) sent

abbrev answered : WorldState Seen
answered = changed (grown heard.carrier (crossing.Answer answer.Rfnm hail.flow ∷ [])) (crossing.Answer answer.Rfnm hail.flow ∷ []) heard

pub goes_out : Happens there beside_third (script.Happen (Out hail)) sent (Crossed (crossing.Out hail) ∷ [])
goes_out = record {
  outcome = Ok tt;
  gives = (Ok tt, grown three_seen (crossing.Out hail ∷ []), record { running = refl; shown = refl }, inl (refl, refl));
  goes_on = refl;
  gains = record { crossings = crossing.Out hail ∷ []; notices = []; reports = []; crossed = refl; told = refl; said = refl };
  lines = refl;
}

abbrev told : Told
told = record { host = first; place = 2; notice = notice.Ready third }

comes_in : Happens there sent (script.Happen (Take first)) heard (Crossed (crossing.In hail) ∷ Noticed told ∷ [])
unfolding accepted services.services_told octets_of packed_count command_of read_of orders_of
comes_in = record {
  outcome = Ok tt;
  gives = (Ok (Some (inbound.Message hail)), grown sent.carrier (crossing.In hail ∷ []), (record { running = refl; shown = refl }, refl), inl (refl, refl));
  goes_on = refl;
  gains = record { crossings = crossing.In hail ∷ []; notices = told ∷ []; reports = []; crossed = refl; told = refl; said = refl };
  lines = refl;
}

is_answered : Happens there heard (script.Happen (Take third)) answered (Crossed (crossing.Answer answer.Rfnm hail.flow) ∷ [])
is_answered = record {
  outcome = Ok tt;
  gives = (Ok (Some (inbound.Answer answer.Rfnm hail.flow)), grown heard.carrier (crossing.Answer answer.Rfnm hail.flow ∷ []), (record { running = refl; shown = refl }, refl), inl (refl, refl));
  goes_on = refl;
  gains = record { crossings = crossing.Answer answer.Rfnm hail.flow ∷ []; notices = []; reports = []; crossed = refl; told = sym (append-nil heard.kept.book.notices); said = sym (append-nil heard.kept.book.reports) };
  lines = refl;
}

pub is_hailed : MayShow there (script.Happen (Out hail) ∷ script.Happen (Take first) ∷ script.Happen (Take third) ∷ []) hailed
is_hailed = (
  answered,
  (
    sent,
    Crossed (crossing.Out hail) ∷ [],
    Crossed (crossing.In hail) ∷ Noticed told ∷ Crossed (crossing.Answer answer.Rfnm hail.flow) ∷ [],
    goes_out,
    (
      heard,
      Crossed (crossing.In hail) ∷ Noticed told ∷ [],
      Crossed (crossing.Answer answer.Rfnm hail.flow) ∷ [],
      comes_in,
      (answered, Crossed (crossing.Answer answer.Rfnm hail.flow) ∷ [], [], is_answered, (refl, refl), refl),
      refl,
    ),
    refl,
  ),
)
