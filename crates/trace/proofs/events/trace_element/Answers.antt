use Rattle.trace.proofs.Common.{◌≡◌, ◌∙◌, ◌++◌, inr, Err, List, Option, ℕ, ap, drop, length, refl, reverse, rules, subst, sym, Appends, Calls, Crossing, shown_crossings, shown_refusal, ended_line, changed_parts, object, trace_line, Inside, change_text, AllParts, Element, Fate}
use Rattle.replay.proofs.lemmas.{gained}
use Rattle.replay.specs.declared.events.ReplayFault.TheVariants as fault
use Rattle.trace.specs.Steps.{ElementEnds}
use Rattle.trace.proofs.Calling.{may_do, stops, tells}
use Rattle.trace.proofs.events.trace_element.Goals as goal

pub returns-clause-ends : goal.returns-clause-ends
returns-clause-ends g c =
    let calls : Calls g.row.C.Denot = g.C.Carrier.calls in
    let inside : Inside g.row.C.Denot = g.C.Inspect.inside in
    let x : Element = record { round = c.args.round; event = c.args.event.now } in
    let crossings : List Crossing = drop (length c.log-booked.result.now) c.log.result.now in
    let changes : c.deref.result.now ≡ change_text inside c.args.carrier.now c.call.new.carrier =
    c.deref.ensures.value ∙ c.in_ok-texts-2.ensures.changed ∙ ap (λ (ps : AllParts). object (changed_parts ps (inside.members c.call.new.carrier))) c.in_ok-texts.ensures in
    tells calls inside c.args.spot c.args.carrier.now c.call.new.carrier x c.in_ok-outcome.outcome c.log-booked.result.now c.log.result.now c.deref.result.now (g.W.Output.contents c.args.writer.now) (g.W.Output.contents c.print_line.new.writer)
    c.in_ok-outcome.ensures.called c.if-has_halted.ensures.goes_on c.log-booked.ensures.value c.log.ensures.value changes
    (subst (λ (f : Option Fate). Appends (g.W.Output.contents c.args.writer.now) (g.W.Output.contents c.print_line.new.writer) (ended_line (trace_line c.args.spot x f (shown_crossings crossings ++ shown_refusal c.in_ok-outcome.outcome) c.deref.result.now))) c.fate-fate.ensures
    (subst (λ (cs : List Crossing). Appends (g.W.Output.contents c.args.writer.now) (g.W.Output.contents c.print_line.new.writer) (ended_line (trace_line c.args.spot x c.fate-fate.result (shown_crossings cs ++ shown_refusal c.in_ok-outcome.outcome) c.deref.result.now)))
    c.split_at.ensures.back c.in_ok-print_line.ensures.written))

-- memory ran out for the texts of its line
pub returns-in_err-texts-2-clause-ends : goal.returns-in_err-texts-2-clause-ends
returns-in_err-texts-2-clause-ends g c =
    let calls : Calls g.row.C.Denot = g.C.Carrier.calls in
    let inside : Inside g.row.C.Denot = g.C.Inspect.inside in
    let x : Element = record { round = c.args.round; event = c.args.event.now } in
    let memory : c.from_residual-in_err-texts-2.result ≡ Err fault.OutOfMemory = search rules in
    subst (λ r. ElementEnds calls inside c.args.spot c.args.carrier.now x r c.call.new.carrier (g.W.Output.contents c.args.writer.now) (g.W.Output.contents c.args.writer.now)) (sym memory)
    (stops calls c.args.carrier.now c.call.new.carrier x (g.W.Output.contents c.args.writer.now) (inr (may_do calls c.args.carrier.now c.call.new.carrier c.args.event.now c.in_ok-outcome.outcome c.requires.one_call c.in_ok-outcome.ensures.called, refl)))

-- or in the call
pub returns-then-has_halted-clause-ends : goal.returns-then-has_halted-clause-ends
returns-then-has_halted-clause-ends g c =
    let calls : Calls g.row.C.Denot = g.C.Carrier.calls in
    let x : Element = record { round = c.args.round; event = c.args.event.now } in
    stops calls c.args.carrier.now c.call.new.carrier x (g.W.Output.contents c.args.writer.now) (inr (may_do calls c.args.carrier.now c.call.new.carrier c.args.event.now c.in_ok-outcome.outcome c.requires.one_call c.in_ok-outcome.ensures.called, refl))

pub change-requires : goal.change-requires
change-requires g c =
    let calls : Calls g.row.C.Denot = g.C.Carrier.calls in
    let crossings : List Crossing = drop (length c.log-booked.result.now) c.log.result.now in
    let grown : (calls.seen c.call.new.carrier).log ≡ reverse crossings ++ (calls.seen c.args.carrier.now).log =
    gained (calls.seen c.args.carrier.now) (calls.seen c.call.new.carrier) c.log-booked.result.now c.log.result.now c.in_ok-outcome.ensures.called.grew c.log-booked.ensures.value c.log.ensures.value in
    record {
      old = c.args.carrier.now;
      known = c.in_ok-texts.ensures;
      one_call = c.requires.one_call;
      gives = c.in_ok-outcome.ensures.called.gives;
      goes_on = c.if-has_halted.ensures.goes_on;
      grown = grown ∙ ap (λ (cs : List Crossing). reverse cs ++ (calls.seen c.args.carrier.now).log) (sym c.split_at.ensures.back);
    }
