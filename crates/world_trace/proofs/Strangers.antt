-- Events of a world with strangers have their lines.
use Rattle.world_trace.proofs.Common.{Appends, Calls, Event, Host, Seat, ServiceSeat, Take, Out, ReplayFault, Spot, WorldFault, ended_line, shown, AllParts, Sizes, WorldEvent, event_text, line_of, change_of, Passed}
use Rattle.std.proofs.Common.{◌≡◌, inl, inr, ℕ, Bool, true, false, List, [], ◌∷◌, Option, Some, None, Result, Ok, Err, ap, refl, sym, subst, ◌∙◌, if◌then◌else◌}
use Rattle.net_sim.specs.World as world_events
use Rattle.net_sim.specs.World.{WorldState, stops, Refuses}
use Rattle.world_trace.specs.Steps.{is_of_network, EventEnds, at_one, passed_line}
use Rattle.interface.specs.declared.carrier.CarrierFault.{CarrierFault}
use Rattle.interface.specs.declared.crossing.Inbound.{Inbound}
use Rattle.interface.specs.declared.crossing.Inbound.TheVariants as inbound
use Rattle.interface.specs.declared.message.HostMessage.{HostMessage}
use Rattle.net_sim.specs.Steps.{AmongGives, FetchEnds, StepGives, OutEnds, asked_at, is_strange, strange_in}
use Rattle.net_sim.specs.declared.event.WorldFault.TheVariants.{NoProgram}
use Rattle.replay.specs.declared.events.ReplayFault.TheVariants as fault
use Rattle.world_replay.specs.Output.{Shown, output}
use Rattle.world_replay.specs.Replay.{EndsIn, EventGives, Happens, MayDo, StopsIn}
use Rattle.world_replay.proofs.lemmas.{on_either, when_false}
use Rattle.world_script.specs.declared.event.WorldEvent.TheVariants as world
use Rattle.world_trace.specs.MixedSteps.{HasPassedMixed, MixedEnds, EventEndsAmong, mixed_reach}
use Rattle.world_trace.specs.MixedTraces.{StopsMixed, TellsMixed}
use Rattle.world_trace.specs.declared.mixed.Reach.TheVariants as reach
use Rattle.world_trace.proofs.Stays.{AtOthers, event_others, halts_not, hosts_same, same_others}
use Rattle.world_trace.proofs.Telling.{failed_by, last_one, line_by, one_line}

-- ---- what a replay says of one event

-- whichever fault ended it
pub ended_mixed : {C : Type 0} (calls : Calls C) (old new : WorldState C) (e : Event) (f : ReplayFault)
    → (failed_by f ≡ Err fault.OutOfMemory → (lines : List Shown)
    × EndsIn calls (StopsIn calls) old (world.Happen e ∷ []) new lines)
    → (failed_by f ≡ Err fault.CannotWrite → (lines : List Shown)
    × EndsIn calls (MayDo calls) old (world.Happen e ∷ []) new lines)
    → StopsMixed calls old e new []
ended_mixed calls old new e fault.OutOfMemory memory failed =
    let w = memory refl in
    let (own, stopped) = last_one (Happens calls) (StopsIn calls) old new (world.Happen e)
    w.0 w.1 in
    inr (refl, (stopped.outcome, stopped.gives))
ended_mixed calls old new e fault.CannotWrite memory failed =
    let w = failed refl in
    let (own, may) = last_one (Happens calls) (MayDo calls) old new (world.Happen e) w.0
    w.1 in
    inr (
      refl,
      (
        may.outcome,
        subst (λ (x : WorldEvent). EventGives calls old x may.outcome new) may.begins
            may.gives,
      ),
    )

-- ---- its line

pub tells_mixed : {C : Type 0} (calls : Calls C) (members : C → AllParts) (spot : Spot) (old new : WorldState C)
    (e : Event) (p : Passed) (a b : Option (List ℕ))
    → HasPassedMixed calls members old e new p → Appends a b (ended_line (passed_line spot 0 new p))
    → MixedEnds calls members spot old e (Ok tt) new a b
tells_mixed calls members spot old new e p a b h written =
    let (lines, happens, says) = h.shows in
    one_line (line_of spot 0 (event_text (world.Happen e)) happens.gains.crossings (output Sizes lines)
    (change_of members old new))
    (TellsMixed calls members spot old e new) a b (lines, happens, refl)
    (subst (λ (line : List ℕ). Appends a b (ended_line line))
    (line_by members spot 0 old new (event_text (world.Happen e)) p.event.items p.printed.items p.changes.parts.items
    p.changes.programs.items p.changes.services.items p.crossed lines happens.gains h.event says h.crossed h.changes)
    written)

-- ---- an event of a script

pub calm_ends : {C : Type 0} (calls : Calls C) (members : C → AllParts) (spot : Spot) (rounds : ℕ)
    (old new : WorldState C) (r : Result (Unit {0}) ReplayFault) (a b : Option (List ℕ))
    → EventEnds calls members spot old (world.Calm rounds) r new a b → new.strangers ≡ old.strangers
    → EventEndsAmong calls members spot old (world.Calm rounds) r new a b
calm_ends calls members spot rounds old new (Ok done) a b h same =
    record { shown = h.shown; is_shown = (h.is_shown, same); written = h.written }
calm_ends calls members spot rounds old new (Err fault.OutOfMemory) a b h same =
    record { shown = h.shown; is_shown = (h.is_shown, same); written = h.written }
calm_ends calls members spot rounds old new (Err fault.CannotWrite) a b (lines, h) same = (lines, (h, same))

pub mixed_ends : {C : Type 0} (calls : Calls C) (members : C → AllParts) (spot : Spot) (e : Event)
    (old new : WorldState C) (r : Result (Unit {0}) ReplayFault) (a b : Option (List ℕ))
    → MixedEnds calls members spot old e r new a b → EventEndsAmong calls members spot old (world.Happen e) r new a b
mixed_ends calls members spot e old new (Ok done) a b h = h
mixed_ends calls members spot e old new (Err fault.OutOfMemory) a b h = h
mixed_ends calls members spot e old new (Err fault.CannotWrite) a b h = h

-- ---- what is at other hosts

module _ {C : Type 0} (own : Calls C) where
  unmoved : (o : Option Host) (f : WorldFault) (old : WorldState C) (r : Result (Unit {0}) WorldFault)
      (new : WorldState C) → Refuses f old r new → AtOthers own o old new
  unmoved o f old r new n = same_others own o old new n.1

  -- only the carrier and what is kept are other
  carried : (o : Option Host) (old new : WorldState C) → new.seats ≡ old.seats → new.services ≡ old.services
      → AtOthers own o old new
  carried o old new seats services = hosts_same own o old new seats services

  abbrev seats_of : WorldState C → List Seat
  seats_of w = w.seats

  abbrev served_in : WorldState C → List ServiceSeat
  served_in w = w.services

  fetched : (o : Option Host) (answer : Result (Option Inbound) CarrierFault) (c : C) (old : WorldState C)
      (q : Result (Unit {0}) WorldFault) (new : WorldState C) → stops q ≡ false → FetchEnds answer c old q new
      → AtOthers own o old new
  fetched o (Ok None) c old q new on ends = carried o old new (ap seats_of ends.1) (ap served_in ends.1)
  fetched o (Ok (Some (inbound.Message m))) c old q new on (inl d) = carried o old new (ap seats_of d.1)
      (ap served_in d.1)
  fetched o (Ok (Some (inbound.Answer a f))) c old q new on (inl d) = carried o old new (ap seats_of d.1)
      (ap served_in d.1)
  fetched o (Ok (Some i)) c old q new on (inr h) = halts_not own (AtOthers own o old new) c old new q on h
  fetched o (Err e) c old q new on ends = carried o old new (ap seats_of ends.1) (ap served_in ends.1)

  said : (o : Option Host) (m : HostMessage) (answer : Result (Unit {0}) CarrierFault) (c : C) (old : WorldState C)
      (q : Result (Unit {0}) WorldFault) (new : WorldState C) → stops q ≡ false → OutEnds m answer c old q new
      → AtOthers own o old new
  said o m (Ok done) c old q new on (inl d) = carried o old new (ap seats_of d.1) (ap served_in d.1)
  said o m (Ok done) c old q new on (inr h) = halts_not own (AtOthers own o old new) c old new q on h
  said o m (Err e) c old q new on ends = carried o old new (ap seats_of ends.1) (ap served_in ends.1)

  -- what goes as in a world without strangers, which hasn't stopped
  goes : (e : Event) (old : WorldState C) (r : Result (Unit {0}) WorldFault) (new : WorldState C)
      → is_of_network e ≡ false → stops r ≡ false → old.stopped ≡ false → world_events.EventGives (shown own) old e r new
      → AtOthers own (at_one e) old new
  goes e old r new not on running gives = event_others own e old new r not on (when_false _ _ old.stopped running gives)

  any_others : (e : Event) (old : WorldState C) (r : Result (Unit {0}) WorldFault) (new : WorldState C)
      → is_of_network e ≡ false → stops r ≡ false → old.stopped ≡ false → AmongGives (shown own) old e r new
      → AtOthers own (at_one e) old new
  any_others (Take h) old r new not on running g =
      on_either (strange_in old h)
      (λ s f. fetched (Some h) f.0 f.1 old r new on f.3)
      (λ s t. goes (Take h) old r new not on running t) g
  any_others (Out m) old r new not on running g =
      on_either (strange_in old m.flow.source)
      (λ s f. said None m f.0 f.1 old r new on f.3)
      (λ s t. goes (Out m) old r new not on running t) g
  any_others e old r new not on running g =
      on_either (is_strange (strange_in old) (asked_at e)) (λ s n. unmoved (at_one e) NoProgram old r new n)
      (λ s t. goes e old r new not on running t) g

  reaches : (e : Event) (o : Option Host) (old : WorldState C) (r : Result (Unit {0}) WorldFault)
      (new : WorldState C)
      → mixed_reach e ≡ reach.At o → stops r ≡ false → old.stopped ≡ false → AmongGives (shown own) old e r new
      → AtOthers own o old new
  reaches e o old r new at on running g = by (is_of_network e) refl where
    by : (b : Bool) → is_of_network e ≡ b → AtOthers own o old new
    by true is =
        absurd (let no : reach.All ≡ reach.At o =
        sym (ap (λ (b : Bool). if b then reach.All else reach.At (at_one e)) is) ∙ at in cc)
    by false is =
        let here : reach.At (at_one e) ≡ reach.At o =
        sym (ap (λ (b : Bool). if b then reach.All else reach.At (at_one e)) is) ∙ at in
        let same : at_one e ≡ o = cc in
        subst (λ (x : Option Host). AtOthers own x old new) same (any_others e old r new is on running g)

  -- an event leaves what it doesn't reach
  pub mixed_others : (e : Event) (o : Option Host) (old : WorldState C) (r : Result (Unit {0}) WorldFault)
      (new : WorldState C)
      → mixed_reach e ≡ reach.At o → stops r ≡ false → StepGives (shown own) old e r new
      → AtOthers own o old new
  mixed_others e o old r new at on g =
      on_either old.stopped (λ s n. unmoved o _ old r new n) (λ s t. reaches e o old r new at on s t) g
