use Rattle.std.proofs.Common.{arith, rules, Err, ◌≡◌, ◌≤◌, ◌<◌, ◌+◌, length, drop, take, sym, ap, ◌∙◌, refl, [], subst}
use Rattle.script.specs.Script.{lines_of, lines_after, AskForAs}
use Rattle.script.proofs.Lines.{drop_next, take_next, length_next, take_whole, line_count, ask_past, ask_next, ask_none, first_bad, ran_out}
use Rattle.script.specs.declared.fault.LineFault.TheVariants as fault
use Rattle.script.proofs.scripts.read_events.Goals as goal
use Rattle.script.proofs.scripts.read_events.Goals.{then-not-is_passed_over+in_ok-event+in-Some-2+in_ok-push, else-not-is_passed_over}

pub lines-init : goal.lines-init
lines-init g c = (refl, ask_none g.E.ScriptEvent.spelled (g.E.ScriptEvent.is_meant c.args.strangers) c.new-events.result.items c.new-events.ensures.items, c.requires)

pub overflow_add-result : goal.overflow_add-result
overflow_add-result g c =
    let before : c.lines.passed < length (lines_of c.args.text.now) = length_next c.lines.passed (lines_of c.args.text.now) (lines_after c.first_line.result.1) c.first_line.result.0.now (c.lines.invariant.0 ∙ ap lines_after c.in-Some.is ∙ c.first_line.ensures.lines) in
    let most : length (lines_of c.args.text.now) ≤ length c.args.text.now + 1 = line_count c.args.text.now in
    let few : length c.args.text.now ≤ 268435456 = c.lines.invariant.2 in
    omega arith

pub returns-in_default-2 : goal.returns-in_default-2
returns-in_default-2 g c =
    first_bad g.E.ScriptEvent.spelled (g.E.ScriptEvent.is_meant c.args.strangers) c.args.text.now c.lines.passed c.first_line.result.0.now (lines_after c.first_line.result.1) c.lines.events.items (c.lines.invariant.0 ∙ ap lines_after c.in-Some.is ∙ c.first_line.ensures.lines) (sym c.is_passed_over.ensures ∙ c.if-not-is_passed_over.true) (rw c.in_default-2.is at c.in_ok-event.ensures.read) c.lines.invariant.1

pub overflow_add-passed : goal.overflow_add-passed
overflow_add-passed g c =
    let before : c.lines.passed < length (lines_of c.args.text.now) = length_next c.lines.passed (lines_of c.args.text.now) (lines_after c.first_line.result.1) c.first_line.result.0.now (c.lines.invariant.0 ∙ ap lines_after c.in-Some.is ∙ c.first_line.ensures.lines) in
    let most : length (lines_of c.args.text.now) ≤ length c.args.text.now + 1 = line_count c.args.text.now in
    let few : length c.args.text.now ≤ 268435456 = c.lines.invariant.2 in
    omega arith

pub lines-preserved : goal.lines-preserved
lines-preserved g c = (
  drop_next c.lines.passed (lines_of c.args.text.now) (lines_after c.first_line.result.1) c.first_line.result.0.now (c.lines.invariant.0 ∙ ap lines_after c.in-Some.is ∙ c.first_line.ensures.lines),
  rw (take_next c.lines.passed (lines_of c.args.text.now) (lines_after c.first_line.result.1) c.first_line.result.0.now (c.lines.invariant.0 ∙ ap lines_after c.in-Some.is ∙ c.first_line.ensures.lines)) (elim c.if-not-is_passed_over.branch [
    | then-not-is_passed_over+in_ok-event+in-Some-2+in_ok-push w ↦
        let read = rw w.in-Some-2.is at w.in_ok-event.ensures.read in
        rw (w.events-is, w.in_ok-push.ensures.items) (ask_next g.E.ScriptEvent.spelled (g.E.ScriptEvent.is_meant c.args.strangers) c.lines.events.items (take c.lines.passed (lines_of c.args.text.now)) c.first_line.result.0.now w.in-Some-2.event (sym c.is_passed_over.ensures ∙ w.if-not-is_passed_over.true) read.0 read.1 c.lines.invariant.1)
    | else-not-is_passed_over w ↦
        rw w.events-is (ask_past g.E.ScriptEvent.spelled (g.E.ScriptEvent.is_meant c.args.strangers) c.lines.events.items (take c.lines.passed (lines_of c.args.text.now)) c.first_line.result.0.now (sym c.is_passed_over.ensures ∙ w.if-not-is_passed_over.false) c.lines.invariant.1)
  ]),
  c.lines.invariant.2,
)

pub returns : goal.returns
returns g c =
    let done : drop c.lines.passed (lines_of c.args.text.now) ≡ [] = c.lines.invariant.0 ∙ ap lines_after c.in_default.is in
    subst (AskForAs g.E.ScriptEvent.spelled (g.E.ScriptEvent.is_meant c.args.strangers) c.lines.events.items) (take_whole c.lines.passed (lines_of c.args.text.now) done) c.lines.invariant.1

pub returns-in_err-event : goal.returns-in_err-event
returns-in_err-event g c =
    let told : c.from_residual.result ≡ Err fault.OutOfMemory = search rules in
    rw told (ran_out g.E.ScriptEvent.spelled (g.E.ScriptEvent.is_meant c.args.strangers) (g.E.ScriptEvent.wants c.args.strangers) c.args.text.now c.lines.passed c.first_line.result.0.now (lines_after c.first_line.result.1) c.lines.events.items (c.lines.invariant.0 ∙ ap lines_after c.in-Some.is ∙ c.first_line.ensures.lines) (sym c.is_passed_over.ensures ∙ c.if-not-is_passed_over.true) c.in_err-event.ensures.memory c.lines.invariant.1)

pub returns-in_err-push : goal.returns-in_err-push
returns-in_err-push g c =
    let told : c.from_residual-in_err-push.result ≡ Err fault.OutOfMemory = search rules in
    let read = rw c.in-Some-2.is at c.in_ok-event.ensures.read in
    rw told (ran_out g.E.ScriptEvent.spelled (g.E.ScriptEvent.is_meant c.args.strangers) (g.E.ScriptEvent.wants c.args.strangers) c.args.text.now c.lines.passed c.first_line.result.0.now (lines_after c.first_line.result.1) c.lines.events.items (c.lines.invariant.0 ∙ ap lines_after c.in-Some.is ∙ c.first_line.ensures.lines) (sym c.is_passed_over.ensures ∙ c.if-not-is_passed_over.true) (g.met.E.ScriptEvent.kept c.args.strangers c.in-Some-2.event c.first_line.result.0.now read.0 read.1) c.lines.invariant.1)
