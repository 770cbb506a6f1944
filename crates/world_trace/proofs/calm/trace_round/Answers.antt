use Rattle.world_trace.proofs.Common.{◌≡◌, refl, ◌∷◌, ◌∙◌, [], Err, List, ℕ, ap, length, map, rules, subst, sym, shown, Event, Seat, Calls, RoundEnds, turn, TellsInCalm}
use Rattle.world_replay.specs.Rounds.{Again, turns_in}
use Rattle.replay.specs.declared.events.ReplayFault.TheVariants as fault
use Rattle.world_trace.proofs.Rounds.Calms.{InRound, round_done, round_early, round_unbegun}
use Rattle.world_trace.proofs.Telling.{none_left, none_yet, one_more}
use Rattle.world_trace.proofs.calm.trace_round.Goals as goal

pub loop-event-init : goal.loop-event-init
loop-event-init g c =
    let calls : Calls g.row.C.Denot = shown g.C.Carrier.calls in
    let gives : c.into_iter-event-iterator.result.rest.items ≡ c.in_ok-turns.turns.items = search rules in
    let all : map turn c.into_iter-event-iterator.result.rest.items ≡ turns_in
    (g.T.Traced.state c.args.world.now).seats = ap (map turn) gives ∙ c.in_ok-turns.ensures
    ∙ ap (λ (seats : List Seat). turns_in seats) c.seats.ensures in (
      subst (λ (left : List (Event × ℕ)). InRound calls g.C.Inspect.inside.members c.args.spot c.args.round
          (g.T.Traced.state c.args.world.now) left (g.T.Traced.state c.args.world.now)
          (g.W.Output.contents c.args.writer.now) (g.W.Output.contents c.args.writer.now)) (sym all)
          (none_yet (Again (TellsInCalm calls g.C.Inspect.inside.members c.args.spot c.args.round))
          (g.T.Traced.state c.args.world.now) (turns_in (g.T.Traced.state c.args.world.now).seats)
          (g.W.Output.contents c.args.writer.now)),
      c.requires.whole,
      c.requires.known,
      refl,
    )

pub loop-event-preserved : goal.loop-event-preserved
loop-event-preserved g c =
    let calls : Calls g.row.C.Denot = shown g.C.Carrier.calls in
    let l = c.loop-event in
    let is : l.event-iterator.rest.items ≡ (c.in-Some.event, c.in-Some.times) ∷ c.next.new.self.rest.items =
    c.in-Some.ensures.steps.0 in (
      one_more (Again (TellsInCalm calls g.C.Inspect.inside.members c.args.spot c.args.round))
          (g.T.Traced.state c.args.world.now) (g.T.Traced.state l.world) (g.T.Traced.state c.trace_again.new.world)
          (turns_in (g.T.Traced.state c.args.world.now).seats) (map turn l.event-iterator.rest.items)
          (map turn c.next.new.self.rest.items) (turn (c.in-Some.event, c.in-Some.times))
          (g.W.Output.contents c.args.writer.now) (g.W.Output.contents l.writer)
          (g.W.Output.contents c.trace_again.new.writer) (ap (map turn) is) l.invariant.0
          c.in_ok-trace_again.ensures.ends,
      c.in_ok-trace_again.ensures.failed,
      c.in_ok-trace_again.ensures.known,
      c.trace_again.ensures.strangers ∙ l.invariant.3,
    )

pub returns-in_err-turns-clause-ends : goal.returns-in_err-turns-clause-ends
returns-in_err-turns-clause-ends g c =
    let calls : Calls g.row.C.Denot = shown g.C.Carrier.calls in
    let same : c.from_residual.result ≡ Err fault.OutOfMemory = search rules in
    subst (λ r. RoundEnds calls g.C.Inspect.inside.members c.args.spot (g.T.Traced.state c.args.world.now) c.args.round
    r (g.T.Traced.state c.args.world.now) (g.W.Output.contents c.args.writer.now)
    (g.W.Output.contents c.args.writer.now)) (sym same)
    (round_unbegun calls g.C.Inspect.inside.members c.args.spot c.args.round (g.T.Traced.state c.args.world.now)
    (g.W.Output.contents c.args.writer.now))

pub returns-in_err-trace_again-clause-ends : goal.returns-in_err-trace_again-clause-ends
returns-in_err-trace_again-clause-ends g c =
    let calls : Calls g.row.C.Denot = shown g.C.Carrier.calls in
    let l = c.loop-event in
    let is : l.event-iterator.rest.items ≡ (c.in-Some.event, c.in-Some.times) ∷ c.next.new.self.rest.items =
    c.in-Some.ensures.steps.0 in
    let same : c.from_residual-in_err-trace_again.result ≡ Err c.in_err-trace_again.field-0.0 = search rules in
    subst (λ r. RoundEnds calls g.C.Inspect.inside.members c.args.spot (g.T.Traced.state c.args.world.now) c.args.round
    r (g.T.Traced.state c.trace_again.new.world) (g.W.Output.contents c.args.writer.now)
    (g.W.Output.contents c.trace_again.new.writer)) (sym same)
    (round_early calls g.C.Inspect.inside.members c.args.spot c.args.round (g.T.Traced.state c.args.world.now)
    (g.T.Traced.state l.world) (g.T.Traced.state c.trace_again.new.world) (map turn l.event-iterator.rest.items)
    (map turn c.next.new.self.rest.items) (turn (c.in-Some.event, c.in-Some.times)) c.in_err-trace_again.field-0.0
    (g.W.Output.contents c.args.writer.now) (g.W.Output.contents l.writer)
    (g.W.Output.contents c.trace_again.new.writer) (ap (map turn) is) l.invariant.0 c.in_err-trace_again.ensures.ends)

pub returns-clause-ends : goal.returns-clause-ends
returns-clause-ends g c =
    let calls : Calls g.row.C.Denot = shown g.C.Carrier.calls in
    let l = c.loop-event in
    let count : length l.event-iterator.rest.items ≡ 0 = search rules in
    let none : l.event-iterator.rest.items ≡ [] = none_left l.event-iterator.rest.items count in
    round_done calls g.C.Inspect.inside.members c.args.spot c.args.round (g.T.Traced.state c.args.world.now)
    (g.T.Traced.state l.world) (map turn l.event-iterator.rest.items) (g.W.Output.contents c.args.writer.now)
    (g.W.Output.contents l.writer) (ap (map turn) none) l.invariant.0
