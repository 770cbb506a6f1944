use Rattle.world_replay.proofs.Common.{◌≡◌, ◌∷◌, [], ◌++◌, Err, rules, ap, sym, subst, ◌∙◌, EventEnds}
use Rattle.world_replay.specs.Output.{shown_text}
use Rattle.world_replay.specs.Kinds.{HappensBy, StopsBy, MayDoBy}
use Rattle.std.proofs.lemmas.List.{append_assoc}
use Rattle.replay.proofs.lemmas.{last_shown, last_written, one_written}
use Rattle.replay.specs.declared.events.ReplayFault.TheVariants as fault
use Rattle.world_replay.proofs.ByKind.{one_seen}
use Rattle.world_replay.proofs.events.replay_in_turn.Goals as goal

pub loop-event-preserved : goal.loop-event-preserved
loop-event-preserved g c = (
  c.loop-event.invariant.0 ∙ ap (λ es. c.loop-event.yielded ++ es) c.in-Some.ensures.steps.0 ∙ sym (append_assoc c.loop-event.yielded (c.in-Some.event ∷ []) c.next.new.self.rest.items),
  one_written (HappensBy g.R.Replayed.kind) (shown_text c.args.detail) c.args.world.now c.loop-event.world c.replay_event.new.world c.loop-event.yielded c.in-Some.event
      (g.W.Output.contents c.args.writer.now) (g.W.Output.contents c.loop-event.writer) (g.W.Output.contents c.replay_event.new.writer) c.loop-event.invariant.1 c.in_ok-replay_event.ensures.ends,
  c.in_ok-replay_event.ensures.failed,
  one_seen g.R.Replayed.kind c.args.detail g.W.Output.contents g.W.Output.flushed (c.args.world.now, c.args.writer.now) (c.loop-event.world, c.loop-event.writer) (c.replay_event.new.world, c.replay_event.new.writer)
      c.loop-event.yielded c.in-Some.event c.loop-event.invariant.3 c.in_ok-replay_event.ensures.ends c.in_ok-replay_event.ensures.seen,
)

pub returns-in_err-replay_event-clause-memory : goal.returns-in_err-replay_event-clause-memory
returns-in_err-replay_event-clause-memory g c = λ e.
    let is : c.replay_event.result ≡ Err fault.OutOfMemory = search rules in
    last_written (HappensBy g.R.Replayed.kind) (StopsBy g.R.Replayed.kind) (shown_text c.args.detail) c.args.world.now c.loop-event.world c.replay_event.new.world c.args.events.items c.loop-event.yielded c.in-Some.event c.next.new.self.rest.items
    (g.W.Output.contents c.args.writer.now) (g.W.Output.contents c.loop-event.writer) (g.W.Output.contents c.replay_event.new.writer)
    (c.loop-event.invariant.0 ∙ ap (λ es. c.loop-event.yielded ++ es) c.in-Some.ensures.steps.0) c.loop-event.invariant.1
    (subst (λ r. EventEnds g.R.Replayed.kind c.args.detail c.loop-event.world c.in-Some.event r c.replay_event.new.world (g.W.Output.contents c.loop-event.writer) (g.W.Output.contents c.replay_event.new.writer)) is c.replay_event.ensures.ends)

pub returns-in_err-replay_event-clause-cannot_write : goal.returns-in_err-replay_event-clause-cannot_write
returns-in_err-replay_event-clause-cannot_write g c = λ e.
    let is : c.replay_event.result ≡ Err fault.CannotWrite = search rules in
    let last = subst (λ r. EventEnds g.R.Replayed.kind c.args.detail c.loop-event.world c.in-Some.event r c.replay_event.new.world (g.W.Output.contents c.loop-event.writer) (g.W.Output.contents c.replay_event.new.writer)) is c.replay_event.ensures.ends in (
      c.loop-event.invariant.1.shown ++ last.0,
      last_shown (HappensBy g.R.Replayed.kind) (MayDoBy g.R.Replayed.kind) c.args.world.now c.loop-event.world c.replay_event.new.world c.args.events.items c.loop-event.yielded c.in-Some.event c.next.new.self.rest.items
          c.loop-event.invariant.1.shown last.0 (c.loop-event.invariant.0 ∙ ap (λ es. c.loop-event.yielded ++ es) c.in-Some.ensures.steps.0) c.loop-event.invariant.1.is_shown last.1,
    )
