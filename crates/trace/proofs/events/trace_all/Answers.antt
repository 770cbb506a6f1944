use Rattle.trace.proofs.Common.{◌≡◌, ◌≤◌, ◌+◌, ℕ, Err, arith, drop, length, refl, rules, subst, Calls, EventEnds, EndsEvent, Inside, MayTell, StopsElement, TellsEvent, numbered_from}
use Rattle.replay.specs.declared.events.ReplayFault.TheVariants as fault
use Rattle.replay.specs.Seen.{IsSeen}
use Rattle.trace.specs.Seen.{EventHandsOn}
use Rattle.trace.proofs.Rounds.Handing.{event_seen, events_seen}
use Rattle.trace.proofs.Telling.{all_told, at_place, ends_told, fails_told, none_yet, numbered_more, numbered_none, one_more}
use Rattle.trace.proofs.events.trace_all.Goals as goal

pub loop-place-init : goal.loop-place-init
loop-place-init g c =
    let calls : Calls g.row.C.Denot = g.C.Carrier.calls in
    let inside : Inside g.row.C.Denot = g.C.Inspect.inside in (
      refl,
      none_yet (TellsEvent calls inside) c.args.carrier.now (numbered_from 1 c.args.events.now) (g.W.Output.contents c.args.writer.now),
      c.requires.whole,
      tt,
      none_yet (IsSeen (TellsEvent calls inside) (λ line. line) g.W.Output.contents (EventHandsOn calls inside g.W.Output.contents g.W.Output.flushed)) (c.args.carrier.now, c.args.writer.now) (numbered_from 1 c.args.events.now) (g.W.Output.contents c.args.writer.now),
    )

pub loop-place-preserved : goal.loop-place-preserved
loop-place-preserved g c =
    let calls : Calls g.row.C.Denot = g.C.Carrier.calls in
    let inside : Inside g.row.C.Denot = g.C.Inspect.inside in
    let i : ℕ = c.loop-place.place in (
      c.loop-place.invariant.0,
      one_more (TellsEvent calls inside) c.args.carrier.now c.loop-place.carrier c.trace_event.new.carrier (numbered_from 1 c.args.events.now) (numbered_from (i + 1) (drop i c.args.events.now)) (numbered_from (i + 1 + 1) (drop (i + 1) c.args.events.now)) (at_place i c.index-events-place.result)
          (g.W.Output.contents c.args.writer.now) (g.W.Output.contents c.loop-place.writer) (g.W.Output.contents c.trace_event.new.writer) (numbered_more c.args.events.now i c.index-events-place.result c.loop-place-test.true c.index-events-place.is) c.loop-place.invariant.1 c.in_ok-trace_event.ensures.ends,
      c.in_ok-trace_event.ensures.failed,
      c.in_ok-trace_event.ensures.known,
      event_seen calls inside g.W.Output.contents g.W.Output.flushed (c.args.carrier.now, c.args.writer.now) (c.loop-place.carrier, c.loop-place.writer) (c.trace_event.new.carrier, c.trace_event.new.writer) (numbered_from 1 c.args.events.now) (numbered_from (i + 1) (drop i c.args.events.now))
          (numbered_from (i + 1 + 1) (drop (i + 1) c.args.events.now)) (at_place i c.index-events-place.result) (numbered_more c.args.events.now i c.index-events-place.result c.loop-place-test.true c.index-events-place.is) c.loop-place.invariant.4 c.in_ok-trace_event.ensures.ends c.in_ok-trace_event.ensures.seen,
    )

pub returns-clause-traced : goal.returns-clause-traced
returns-clause-traced g c =
    let calls : Calls g.row.C.Denot = g.C.Carrier.calls in
    let inside : Inside g.row.C.Denot = g.C.Inspect.inside in
    let past : length c.args.events.now ≤ c.loop-place.place = omega (arith, c.loop-place.invariant.0, c.loop-place-test.false) in
    all_told (TellsEvent calls inside) c.args.carrier.now c.loop-place.carrier (numbered_from 1 c.args.events.now) (numbered_from (c.loop-place.place + 1) (drop c.loop-place.place c.args.events.now))
    (g.W.Output.contents c.args.writer.now) (g.W.Output.contents c.loop-place.writer) (numbered_none c.args.events.now c.loop-place.place (c.loop-place.place + 1) past) c.loop-place.invariant.1

pub returns-clause-seen : goal.returns-clause-seen
returns-clause-seen g c =
    let calls : Calls g.row.C.Denot = g.C.Carrier.calls in
    let inside : Inside g.row.C.Denot = g.C.Inspect.inside in
    let past : length c.args.events.now ≤ c.loop-place.place = omega (arith, c.loop-place.invariant.0, c.loop-place-test.false) in
    events_seen calls inside g.W.Output.contents g.W.Output.flushed (c.args.carrier.now, c.args.writer.now) (c.loop-place.carrier, c.loop-place.writer) c.args.events.now (numbered_from (c.loop-place.place + 1) (drop c.loop-place.place c.args.events.now))
    (numbered_none c.args.events.now c.loop-place.place (c.loop-place.place + 1) past) c.loop-place.invariant.4

pub returns-in_err-trace_event-clause-memory : goal.returns-in_err-trace_event-clause-memory
returns-in_err-trace_event-clause-memory g c = λ e.
    let calls : Calls g.row.C.Denot = g.C.Carrier.calls in
    let inside : Inside g.row.C.Denot = g.C.Inspect.inside in
    let i : ℕ = c.loop-place.place in
    let told : c.trace_event.result ≡ Err fault.OutOfMemory = search (rules, e) in
    ends_told (TellsEvent calls inside) (EndsEvent calls inside (StopsElement calls)) c.args.carrier.now c.loop-place.carrier c.trace_event.new.carrier (numbered_from 1 c.args.events.now) (numbered_from (i + 1) (drop i c.args.events.now)) (numbered_from (i + 1 + 1) (drop (i + 1) c.args.events.now)) (at_place i c.index-events-place.result)
    (g.W.Output.contents c.args.writer.now) (g.W.Output.contents c.loop-place.writer) (g.W.Output.contents c.trace_event.new.writer) (numbered_more c.args.events.now i c.index-events-place.result c.loop-place-test.true c.index-events-place.is) c.loop-place.invariant.1
    (subst (λ r. EventEnds calls inside c.loop-place.carrier (at_place i c.index-events-place.result) r c.trace_event.new.carrier (g.W.Output.contents c.loop-place.writer) (g.W.Output.contents c.trace_event.new.writer)) told c.trace_event.ensures.ends)

pub returns-in_err-trace_event-clause-cannot_write : goal.returns-in_err-trace_event-clause-cannot_write
returns-in_err-trace_event-clause-cannot_write g c = λ e.
    let calls : Calls g.row.C.Denot = g.C.Carrier.calls in
    let inside : Inside g.row.C.Denot = g.C.Inspect.inside in
    let i : ℕ = c.loop-place.place in
    let told : c.trace_event.result ≡ Err fault.CannotWrite = search (rules, e) in
    fails_told (TellsEvent calls inside) (EndsEvent calls inside (MayTell calls)) c.args.carrier.now c.loop-place.carrier c.trace_event.new.carrier (numbered_from 1 c.args.events.now) (numbered_from (i + 1) (drop i c.args.events.now)) (numbered_from (i + 1 + 1) (drop (i + 1) c.args.events.now)) (at_place i c.index-events-place.result)
    (g.W.Output.contents c.args.writer.now) (g.W.Output.contents c.loop-place.writer) (numbered_more c.args.events.now i c.index-events-place.result c.loop-place-test.true c.index-events-place.is) c.loop-place.invariant.1
    (subst (λ r. EventEnds calls inside c.loop-place.carrier (at_place i c.index-events-place.result) r c.trace_event.new.carrier (g.W.Output.contents c.loop-place.writer) (g.W.Output.contents c.trace_event.new.writer)) told c.trace_event.ensures.ends)
