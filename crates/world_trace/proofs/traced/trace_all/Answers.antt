use Rattle.world_trace.proofs.Common.{◌≡◌, ◌+◌, ◌∷◌, [], Err, ℕ, arith, ap, length, rules, subst, sym, numbered_from, shown, IsSeen, AtSpot}
use Rattle.replay.specs.declared.events.ReplayFault.TheVariants as fault
use Rattle.world_trace.specs.Steps.{EndsAs}
use Rattle.world_trace.proofs.Rounds.Handing.{Handed, SeenSoFar, event_seen, events_seen}
use Rattle.world_trace.proofs.Telling.{SoFar, all_done, at_place, ends_so, fails_so, next_at, none_left, none_yet}
use Rattle.world_trace.proofs.Telling.{one_more}
use Rattle.world_trace.proofs.traced.trace_all.Goals as goal

pub loop-line-init : goal.loop-line-init
loop-line-init g c =
    let gives : c.into_iter-line-iterator.result.rest.items ≡ c.args.events.items = search rules in (
      omega (arith, ap length gives),
      subst (λ left. SoFar (AtSpot g.T.Scripted.tells) c.args.world.now (numbered_from 1 c.args.events.items)
          (numbered_from 1 left) c.args.world.now (g.W.Output.contents c.args.writer.now)
          (g.W.Output.contents c.args.writer.now)) (sym gives)
          (none_yet (AtSpot g.T.Scripted.tells) c.args.world.now (numbered_from 1 c.args.events.items)
          (g.W.Output.contents c.args.writer.now)),
      c.requires.whole,
      tt,
      subst (λ left. SeenSoFar (shown g.C.Carrier.calls) g.C.Inspect.inside.members g.T.Traced.state g.T.Scripted.tells
          g.W.Output.contents g.W.Output.flushed (c.args.world.now, c.args.writer.now)
          (numbered_from 1 c.args.events.items) (numbered_from 1 left) (c.args.world.now, c.args.writer.now)) (sym gives)
          (none_yet (IsSeen (AtSpot g.T.Scripted.tells) (λ line. line) g.W.Output.contents
          (Handed (shown g.C.Carrier.calls) g.C.Inspect.inside.members g.T.Traced.state g.T.Scripted.tells
          g.W.Output.contents g.W.Output.flushed))
          (c.args.world.now, c.args.writer.now) (numbered_from 1 c.args.events.items)
          (g.W.Output.contents c.args.writer.now)),
    )

pub loop-line-preserved : goal.loop-line-preserved
loop-line-preserved g c =
    let i : ℕ = c.loop-line.passed in
    let all = numbered_from 1 c.args.events.items in
    let left = c.loop-line.line-iterator.rest.items in
    let later = c.next.new.self.rest.items in
    let is : left ≡ (c.in-Some.line, c.in-Some.event) ∷ later = c.in-Some.ensures.steps.0 in
    let long : length left ≡ length ((c.in-Some.line, c.in-Some.event) ∷ later) = ap length is in (
      omega (arith, c.loop-line.invariant.0, long),
      one_more (AtSpot g.T.Scripted.tells) c.args.world.now c.loop-line.world c.trace_event.new.self all
          (numbered_from (i + 1) left) (numbered_from (i + 1 + 1) later) (at_place i (c.in-Some.line, c.in-Some.event))
          (g.W.Output.contents c.args.writer.now) (g.W.Output.contents c.loop-line.writer)
          (g.W.Output.contents c.trace_event.new.writer) (next_at i left later (c.in-Some.line, c.in-Some.event) is)
          c.loop-line.invariant.1 c.in_ok-trace_event.ensures.ends,
      c.in_ok-trace_event.ensures.failed,
      c.in_ok-trace_event.ensures.known,
      event_seen (shown g.C.Carrier.calls) g.C.Inspect.inside.members g.T.Traced.state g.T.Scripted.tells
          g.W.Output.contents g.W.Output.flushed (c.args.world.now, c.args.writer.now)
          (c.loop-line.world, c.loop-line.writer) (c.trace_event.new.self, c.trace_event.new.writer) all
          (numbered_from (i + 1) left) (numbered_from (i + 1 + 1) later) (at_place i (c.in-Some.line, c.in-Some.event))
          (next_at i left later (c.in-Some.line, c.in-Some.event) is) c.loop-line.invariant.4
          c.in_ok-trace_event.ensures.ends c.in_ok-trace_event.ensures.seen,
    )

pub returns-clause-traced : goal.returns-clause-traced
returns-clause-traced g c =
    let count : length c.loop-line.line-iterator.rest.items ≡ 0 = search rules in
    let none : c.loop-line.line-iterator.rest.items ≡ [] = none_left c.loop-line.line-iterator.rest.items count in
    all_done (AtSpot g.T.Scripted.tells) c.args.world.now c.loop-line.world (numbered_from 1 c.args.events.items)
    (numbered_from (c.loop-line.passed + 1) c.loop-line.line-iterator.rest.items)
    (g.W.Output.contents c.args.writer.now) (g.W.Output.contents c.loop-line.writer)
    (ap (numbered_from (c.loop-line.passed + 1)) none) c.loop-line.invariant.1

pub returns-clause-seen : goal.returns-clause-seen
returns-clause-seen g c =
    let count : length c.loop-line.line-iterator.rest.items ≡ 0 = search rules in
    let none : c.loop-line.line-iterator.rest.items ≡ [] = none_left c.loop-line.line-iterator.rest.items count in
    events_seen (shown g.C.Carrier.calls) g.C.Inspect.inside.members g.T.Traced.state g.T.Scripted.tells
    g.W.Output.contents g.W.Output.flushed (c.args.world.now, c.args.writer.now) (c.loop-line.world, c.loop-line.writer)
    c.args.events.items (numbered_from (c.loop-line.passed + 1) c.loop-line.line-iterator.rest.items)
    (ap (numbered_from (c.loop-line.passed + 1)) none) c.loop-line.invariant.4

pub returns-in_err-trace_event-clause-memory : goal.returns-in_err-trace_event-clause-memory
returns-in_err-trace_event-clause-memory g c = λ e.
    let i : ℕ = c.loop-line.passed in
    let all = numbered_from 1 c.args.events.items in
    let left = c.loop-line.line-iterator.rest.items in
    let later = c.next.new.self.rest.items in
    let is : left ≡ (c.in-Some.line, c.in-Some.event) ∷ later = c.in-Some.ensures.steps.0 in
    let told : c.trace_event.result ≡ Err fault.OutOfMemory = search (rules, e) in
    ends_so (AtSpot g.T.Scripted.tells) (AtSpot g.T.Scripted.stops) c.args.world.now c.loop-line.world
    c.trace_event.new.self all (numbered_from (i + 1) left) (numbered_from (i + 1 + 1) later)
    (at_place i (c.in-Some.line, c.in-Some.event))
    (g.W.Output.contents c.args.writer.now) (g.W.Output.contents c.loop-line.writer)
    (g.W.Output.contents c.trace_event.new.writer) (next_at i left later (c.in-Some.line, c.in-Some.event) is)
    c.loop-line.invariant.1
    (subst (λ r. EndsAs (g.T.Scripted.tells (at_place i (c.in-Some.line, c.in-Some.event)).0)
    (g.T.Scripted.stops (at_place i (c.in-Some.line, c.in-Some.event)).0)
    (g.T.Scripted.fails (at_place i (c.in-Some.line, c.in-Some.event)).0) c.loop-line.world c.in-Some.event r
    c.trace_event.new.self (g.W.Output.contents c.loop-line.writer) (g.W.Output.contents c.trace_event.new.writer)) told
    c.trace_event.ensures.ends)

pub returns-in_err-trace_event-clause-cannot_write : goal.returns-in_err-trace_event-clause-cannot_write
returns-in_err-trace_event-clause-cannot_write g c = λ e.
    let i : ℕ = c.loop-line.passed in
    let all = numbered_from 1 c.args.events.items in
    let left = c.loop-line.line-iterator.rest.items in
    let later = c.next.new.self.rest.items in
    let is : left ≡ (c.in-Some.line, c.in-Some.event) ∷ later = c.in-Some.ensures.steps.0 in
    let told : c.trace_event.result ≡ Err fault.CannotWrite = search (rules, e) in
    fails_so (AtSpot g.T.Scripted.tells) (AtSpot g.T.Scripted.fails) c.args.world.now c.loop-line.world
    c.trace_event.new.self all (numbered_from (i + 1) left) (numbered_from (i + 1 + 1) later)
    (at_place i (c.in-Some.line, c.in-Some.event))
    (g.W.Output.contents c.args.writer.now) (g.W.Output.contents c.loop-line.writer)
    (next_at i left later (c.in-Some.line, c.in-Some.event) is) c.loop-line.invariant.1
    (subst (λ r. EndsAs (g.T.Scripted.tells (at_place i (c.in-Some.line, c.in-Some.event)).0)
    (g.T.Scripted.stops (at_place i (c.in-Some.line, c.in-Some.event)).0)
    (g.T.Scripted.fails (at_place i (c.in-Some.line, c.in-Some.event)).0) c.loop-line.world c.in-Some.event r
    c.trace_event.new.self (g.W.Output.contents c.loop-line.writer) (g.W.Output.contents c.trace_event.new.writer)) told
    c.trace_event.ensures.ends)
