use Rattle.replay.proofs.Common.{Calls, EventEnds, RawEvent}
use Rattle.std.proofs.Common.{rules, ◌≡◌, ◌+◌, ◌++◌, Err, List, drop, take, subst}
use Rattle.std.proofs.lemmas.List.{take_all}
use Rattle.replay.specs.Output.{Shown, Writes, shown_text}
use Rattle.replay.specs.Replay.{Happens, MayDo, Replays, StopsIn}
use Rattle.replay.proofs.InTurn.{cut_at, last_shown, last_written, nothing_written, one_more, one_written}
use Rattle.replay.specs.declared.events.ReplayFault.TheVariants as fault
use Rattle.replay.proofs.events.replay_in_turn.Goals as goal

pub loop-event-init : goal.loop-event-init
loop-event-init g c =
    let calls : Calls g.row.C.Denot = g.C.Carrier.calls in
    (nothing_written (Happens calls) (shown_text c.args.detail) c.args.carrier.now (g.W.Output.contents c.args.writer.now), c.requires)

pub loop-event-preserved : goal.loop-event-preserved
loop-event-preserved g c =
    let calls : Calls g.row.C.Denot = g.C.Carrier.calls in (
      subst (λ (es : List RawEvent). Writes c.args.detail (Replays calls c.args.carrier.now es c.replay_event.new.carrier) (g.W.Output.contents c.args.writer.now) (g.W.Output.contents c.replay_event.new.writer))
          (one_more c.args.events.now c.loop-event.event-index c.event-item.result c.loop-event-test.true c.event-item.is)
          (one_written (Happens calls) (shown_text c.args.detail) c.args.carrier.now c.loop-event.carrier c.replay_event.new.carrier (take c.loop-event.event-index c.args.events.now) c.event-item.result
          (g.W.Output.contents c.args.writer.now) (g.W.Output.contents c.loop-event.writer) (g.W.Output.contents c.replay_event.new.writer) c.loop-event.invariant.0 c.in_ok-replay_event.ensures.ends),
      c.in_ok-replay_event.ensures.failed,
    )

pub returns-clause-replayed : goal.returns-clause-replayed
returns-clause-replayed g c =
    let calls : Calls g.row.C.Denot = g.C.Carrier.calls in
    subst (λ (es : List RawEvent). Writes c.args.detail (Replays calls c.args.carrier.now es c.loop-event.carrier) (g.W.Output.contents c.args.writer.now) (g.W.Output.contents c.loop-event.writer))
    (take_all c.loop-event.event-index c.args.events.now c.loop-event-test.false) c.loop-event.invariant.0

pub returns-in_err-replay_event-clause-memory : goal.returns-in_err-replay_event-clause-memory
returns-in_err-replay_event-clause-memory g c = λ e.
    let calls : Calls g.row.C.Denot = g.C.Carrier.calls in
    let told : c.replay_event.result ≡ Err fault.OutOfMemory = search (rules, e) in
    last_written (Happens calls) (StopsIn calls) (shown_text c.args.detail) c.args.carrier.now c.loop-event.carrier c.replay_event.new.carrier c.args.events.now (take c.loop-event.event-index c.args.events.now) c.event-item.result
    (drop (c.loop-event.event-index + 1) c.args.events.now) (g.W.Output.contents c.args.writer.now) (g.W.Output.contents c.loop-event.writer) (g.W.Output.contents c.replay_event.new.writer)
    (cut_at c.args.events.now c.loop-event.event-index c.event-item.result c.loop-event-test.true c.event-item.is) c.loop-event.invariant.0
    (subst (λ r. EventEnds calls c.args.detail c.loop-event.carrier c.event-item.result r c.replay_event.new.carrier (g.W.Output.contents c.loop-event.writer) (g.W.Output.contents c.replay_event.new.writer)) told c.replay_event.ensures.ends)

pub returns-in_err-replay_event-clause-cannot_write : goal.returns-in_err-replay_event-clause-cannot_write
returns-in_err-replay_event-clause-cannot_write g c = λ e.
    let calls : Calls g.row.C.Denot = g.C.Carrier.calls in
    let told : c.replay_event.result ≡ Err fault.CannotWrite = search (rules, e) in
    let may : (shown : List Shown) × MayDo calls c.loop-event.carrier c.event-item.result c.replay_event.new.carrier shown =
    subst (λ r. EventEnds calls c.args.detail c.loop-event.carrier c.event-item.result r c.replay_event.new.carrier (g.W.Output.contents c.loop-event.writer) (g.W.Output.contents c.replay_event.new.writer)) told c.replay_event.ensures.ends in (
      c.loop-event.invariant.0.shown ++ may.0,
      last_shown (Happens calls) (MayDo calls) c.args.carrier.now c.loop-event.carrier c.replay_event.new.carrier c.args.events.now (take c.loop-event.event-index c.args.events.now) c.event-item.result
          (drop (c.loop-event.event-index + 1) c.args.events.now) c.loop-event.invariant.0.shown may.0
          (cut_at c.args.events.now c.loop-event.event-index c.event-item.result c.loop-event-test.true c.event-item.is) c.loop-event.invariant.0.is_shown may.1,
    )
