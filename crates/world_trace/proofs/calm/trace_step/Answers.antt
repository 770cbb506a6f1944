use Rattle.world_trace.proofs.Common.{◌≡◌, ◌<◌, ◌≤◌, ◌⊎◌, ◌∙◌, [], inl, inr, Err, List, Option, length, ℕ, ap, ap₂, arith, map, rules, subst, sym, Host, shown, WorldState, Event, Calls, event_text, seat_member, services_member, Texts, AllParts}
use Rattle.world_trace.specs.Steps.{AreOthers, AreTextsOf, StepEnds, at_host, event_of, seat_place, service_place}
use Rattle.world_trace.specs.Traces.{StopsOne}
use Rattle.trace.specs.Changes.{changed_parts}
use Rattle.replay.specs.declared.events.ReplayFault.TheVariants as fault
use Rattle.world_script.specs.declared.event.WorldEvent.TheVariants as world
use Rattle.world_trace.proofs.Stays.{others_by, quiet_by}
use Rattle.world_trace.proofs.Telling.{changes_are, is_changed, none_changed_by, no_line, step_heard, step_may}
use Rattle.world_trace.proofs.Telling.{step_quiet, step_still, texts_quiet, texts_still}
use Rattle.world_trace.proofs.calm.trace_step.Goals as goal
use Rattle.world_trace.proofs.calm.trace_step.Goals.{else-not-moved-2-via-then-not-moved-2+else-not-other}
use Rattle.world_trace.proofs.calm.trace_step.Goals.{else-not-moved-2-via-else-not-moved-2}

-- nothing crossed, and it is known that nothing changes then
pub returns-then-not-moved-clause-ends : goal.returns-then-not-moved-clause-ends
returns-then-not-moved-clause-ends g c =
    let calls : Calls g.row.C.Denot = shown g.C.Carrier.calls in
    let w : WorldState g.row.C.Denot = (g.T.Traced.state c.happen_in_calm.new.world) in
    let few : length w.kept.book.crossings ≤ length (g.T.Traced.state c.args.world.now).kept.book.crossings =
    omega (arith, c.count_crossings-crossed.ensures, c.count_crossings.ensures, c.if-not-moved.true) in
    step_still calls g.C.Inspect.inside.members c.args.spot c.args.round (g.T.Traced.state c.args.world.now) w
    (event_of c.args.event) c.in_ok-printed.printed.items (g.W.Output.contents c.args.writer.now)
    c.in_ok-printed.ensures.shown
    (λ lines happens. c.is_still-still.ensures c.if-still.true w lines happens few)

pub returns-then-not-moved-clause-known : goal.returns-then-not-moved-clause-known
returns-then-not-moved-clause-known g c =
    let calls : Calls g.row.C.Denot = shown g.C.Carrier.calls in
    let w : WorldState g.row.C.Denot = (g.T.Traced.state c.happen_in_calm.new.world) in
    let few : length w.kept.book.crossings ≤ length (g.T.Traced.state c.args.world.now).kept.book.crossings =
    omega (arith, c.count_crossings-crossed.ensures, c.count_crossings.ensures, c.if-not-moved.true) in
    texts_still calls g.C.Inspect.inside.members (g.T.Traced.state c.args.world.now) w (event_of c.args.event)
    c.in_ok-printed.printed.items c.args.texts.now c.in_ok-printed.ensures.shown
    (λ lines happens. c.is_still-still.ensures c.if-still.true w lines happens few) c.requires.known

-- nothing crossed, and no part is other than before
pub returns-then-not-other-clause-ends : goal.returns-then-not-other-clause-ends
returns-then-not-other-clause-ends g c =
    let own : Calls g.row.C.Denot = g.C.Carrier.calls in
    let members : g.row.C.Denot → AllParts = g.C.Inspect.inside.members in
    let w : WorldState g.row.C.Denot = (g.T.Traced.state c.happen_in_calm.new.world) in
    let few : length w.kept.book.crossings ≤ length (g.T.Traced.state c.args.world.now).kept.book.crossings =
    omega (arith, c.count_crossings-crossed.ensures, c.count_crossings.ensures, c.if-not-moved-2.true) in
    let parts : c.in_ok-parts.parts ≡ members w.carrier = c.in_ok-parts.ensures ∙ ap members c.carrier.ensures in
    let none : changed_parts (members (g.T.Traced.state c.args.world.now).carrier) (members w.carrier) ≡ [] =
    sym (ap₂ changed_parts c.requires.known.parts parts)
    ∙ none_changed_by c.have_changed-other.result (changed_parts c.args.texts.now.parts c.in_ok-parts.parts)
    c.have_changed-other.ensures c.if-not-other.true in
    step_quiet own members c.args.spot c.args.round (g.T.Traced.state c.args.world.now) w (event_of c.args.event)
    c.in_ok-printed.printed.items (g.W.Output.contents c.args.writer.now) c.in_ok-printed.ensures.shown
    (λ lines happens. quiet_by own c.args.event (g.T.Traced.state c.args.world.now) w lines happens few) none

pub returns-then-not-other-clause-known : goal.returns-then-not-other-clause-known
returns-then-not-other-clause-known g c =
    let own : Calls g.row.C.Denot = g.C.Carrier.calls in
    let members : g.row.C.Denot → AllParts = g.C.Inspect.inside.members in
    let w : WorldState g.row.C.Denot = (g.T.Traced.state c.happen_in_calm.new.world) in
    let few : length w.kept.book.crossings ≤ length (g.T.Traced.state c.args.world.now).kept.book.crossings =
    omega (arith, c.count_crossings-crossed.ensures, c.count_crossings.ensures, c.if-not-moved-2.true) in
    let rest = texts_quiet own members (g.T.Traced.state c.args.world.now) w (event_of c.args.event)
    c.in_ok-printed.printed.items c.args.texts.now c.in_ok-printed.ensures.shown
    (λ lines happens. quiet_by own c.args.event (g.T.Traced.state c.args.world.now) w lines happens few)
    c.requires.known in
    record { parts = c.in_ok-parts.ensures ∙ ap members c.carrier.ensures; programs = rest.0; services = rest.1 }

-- what is at other hosts is as before
pub change-requires-clause-programs : goal.change-requires-clause-programs
change-requires-clause-programs g c =
    let own : Calls g.row.C.Denot = g.C.Carrier.calls in
    let w : WorldState g.row.C.Denot = (g.T.Traced.state c.happen_in_calm.new.world) in
    let (lines, happens, says) = c.in_ok-printed.ensures.shown in
    subst (λ (texts : List (List ℕ)). AreOthers (at_host seat_place c.host_of.result) seat_member texts w.seats)
    (sym c.requires.known.programs)
    (subst (λ (o : Option Host). AreOthers (at_host seat_place o) seat_member
    (map seat_member (g.T.Traced.state c.args.world.now).seats) w.seats) (sym c.host_of.ensures)
    (others_by own c.args.event (g.T.Traced.state c.args.world.now) w lines happens).programs)

pub change-requires-clause-services : goal.change-requires-clause-services
change-requires-clause-services g c =
    let own : Calls g.row.C.Denot = g.C.Carrier.calls in
    let w : WorldState g.row.C.Denot = (g.T.Traced.state c.happen_in_calm.new.world) in
    let (lines, happens, says) = c.in_ok-printed.ensures.shown in
    subst (λ (texts : List (List ℕ)). AreOthers (at_host service_place c.host_of.result) services_member texts
    w.services) (sym c.requires.known.services)
    (subst (λ (o : Option Host). AreOthers (at_host service_place o) services_member
    (map services_member (g.T.Traced.state c.args.world.now).services) w.services) (sym c.host_of.ensures)
    (others_by own c.args.event (g.T.Traced.state c.args.world.now) w lines happens).services)

pub returns-in_err-printed-clause-ends : goal.returns-in_err-printed-clause-ends
returns-in_err-printed-clause-ends g c =
    let calls : Calls g.row.C.Denot = shown g.C.Carrier.calls in
    let same : c.from_residual.result ≡ Err fault.OutOfMemory = search rules in
    subst (λ r. StepEnds calls g.C.Inspect.inside.members c.args.spot c.args.round (g.T.Traced.state c.args.world.now)
    (event_of c.args.event) r (g.T.Traced.state c.happen_in_calm.new.world) (g.W.Output.contents c.args.writer.now)
    (g.W.Output.contents c.args.writer.now)) (sym same)
    (no_line (StopsOne calls (g.T.Traced.state c.args.world.now) (event_of c.args.event)
    (g.T.Traced.state c.happen_in_calm.new.world)) (g.W.Output.contents c.args.writer.now)
    (inr c.in_err-printed.ensures.memory))

pub returns-in_err-spelled-clause-ends : goal.returns-in_err-spelled-clause-ends
returns-in_err-spelled-clause-ends g c =
    let calls : Calls g.row.C.Denot = shown g.C.Carrier.calls in
    let same : c.from_residual-in_err-spelled.result ≡ Err fault.OutOfMemory = search rules in
    subst (λ r. StepEnds calls g.C.Inspect.inside.members c.args.spot c.args.round (g.T.Traced.state c.args.world.now)
    (event_of c.args.event) r (g.T.Traced.state c.happen_in_calm.new.world) (g.W.Output.contents c.args.writer.now)
    (g.W.Output.contents c.args.writer.now)) (sym same)
    (no_line (StopsOne calls (g.T.Traced.state c.args.world.now) (event_of c.args.event)
    (g.T.Traced.state c.happen_in_calm.new.world)) (g.W.Output.contents c.args.writer.now)
    (inr (step_may calls (g.T.Traced.state c.args.world.now) (g.T.Traced.state c.happen_in_calm.new.world)
    (event_of c.args.event) c.in_ok-printed.printed.items c.in_ok-printed.ensures.shown)))

pub returns-in_err-changes-clause-ends : goal.returns-in_err-changes-clause-ends
returns-in_err-changes-clause-ends g c =
    let calls : Calls g.row.C.Denot = shown g.C.Carrier.calls in
    let same : c.from_residual-in_err-changes.result ≡ Err fault.OutOfMemory = search rules in
    let new : WorldState g.row.C.Denot = (g.T.Traced.state c.happen_in_calm.new.world) in
    subst
    (λ r. StepEnds calls g.C.Inspect.inside.members c.args.spot c.args.round (g.T.Traced.state c.args.world.now)
    (event_of c.args.event) r
    new (g.W.Output.contents c.args.writer.now) (g.W.Output.contents c.args.writer.now)) (sym same)
    (no_line (StopsOne calls (g.T.Traced.state c.args.world.now) (event_of c.args.event) new)
    (g.W.Output.contents c.args.writer.now)
    (inr (step_may calls (g.T.Traced.state c.args.world.now) new (event_of c.args.event) c.in_ok-printed.printed.items
    c.in_ok-printed.ensures.shown)))

pub returns-in_err-print_line-clause-ends : goal.returns-in_err-print_line-clause-ends
returns-in_err-print_line-clause-ends g c =
    let calls : Calls g.row.C.Denot = shown g.C.Carrier.calls in
    let same : c.from_residual-in_err-print_line.result ≡ Err fault.CannotWrite = search rules in
    subst (λ r. StepEnds calls g.C.Inspect.inside.members c.args.spot c.args.round (g.T.Traced.state c.args.world.now)
    (event_of c.args.event) r (g.T.Traced.state c.happen_in_calm.new.world) (g.W.Output.contents c.args.writer.now)
    (g.W.Output.contents c.print_line.new.writer)) (sym same) (
      [],
      step_may calls (g.T.Traced.state c.args.world.now) (g.T.Traced.state c.happen_in_calm.new.world)
          (event_of c.args.event) c.in_ok-printed.printed.items c.in_ok-printed.ensures.shown,
    )

pub returns-clause-ends : goal.returns-clause-ends
returns-clause-ends g c =
    let calls : Calls g.row.C.Denot = shown g.C.Carrier.calls in
    let members : g.row.C.Denot → AllParts = g.C.Inspect.inside.members in
    let old : WorldState g.row.C.Denot = (g.T.Traced.state c.args.world.now) in
    let w : WorldState g.row.C.Denot = (g.T.Traced.state c.happen_in_calm.new.world) in
    let parts : c.in_ok-parts.parts ≡ members w.carrier = c.in_ok-parts.ensures ∙ ap members c.carrier.ensures in
    let texts : Texts = record c.change.new.texts { parts = c.in_ok-parts.parts } in
    let state : AreTextsOf members w texts =
    record {
      parts = parts;
      programs = c.in_ok-changes.ensures.programs;
      services = c.in_ok-changes.ensures.services;
    } in
    let some : (length old.kept.book.crossings < length w.kept.book.crossings)
    ⊎ (changed_parts (members old.carrier) (members w.carrier) ≡ [] → ⊥) =
    elim c.else-not-moved-2.branch [
      | else-not-moved-2-via-then-not-moved-2+else-not-other b ↦ inr
          (λ none. is_changed c.have_changed-other.result (changed_parts c.args.texts.now.parts c.in_ok-parts.parts)
          c.have_changed-other.ensures b.if-not-other.false (ap₂ changed_parts c.requires.known.parts parts ∙ none))
      | else-not-moved-2-via-else-not-moved-2 b ↦ inl
          (omega (arith, c.count_crossings-crossed.ensures, c.count_crossings.ensures, b.if-not-moved-2.false))
    ] in
    let changes = c.in_ok-changes.changes in
    step_heard calls members c.args.spot c.args.round old w (event_of c.args.event) c.in_ok-spelled.field-0.items
    c.in_ok-printed.printed.items changes.parts.items changes.programs.items changes.services.items
    c.count_crossings-crossed.result
    (g.W.Output.contents c.args.writer.now) (g.W.Output.contents c.print_line.new.writer) c.in_ok-printed.ensures.shown
    (c.in_ok-spelled.ensures ∙ ap (λ (e : Event). event_text (world.Happen e)) c.event_of.ensures)
    c.count_crossings-crossed.ensures
    (changes_are members old w c.args.texts.now texts changes c.requires.known state c.in_ok-changes.ensures.changes)
    some c.in_ok-print_line.ensures.written
