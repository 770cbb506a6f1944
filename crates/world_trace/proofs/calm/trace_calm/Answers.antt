use Rattle.world_trace.proofs.Common.{◌≡◌, ◌∙◌, inl, inr, refl, ◌+◌, ◌<◌, Err, arith, rules, subst, sym, shown, Calls, EventEnds, TellsRound}
use Rattle.replay.proofs.lemmas.{kept_written}
use Rattle.replay.specs.declared.events.ReplayFault.TheVariants as fault
use Rattle.world_script.specs.declared.event.WorldEvent.TheVariants as event
use Rattle.world_trace.proofs.Rounds.Calms.{calm_early, calm_passed, calm_rests, calm_unbegun, none_passed, one_passed}
use Rattle.world_trace.proofs.Rounds.Handing.{round_seen, unhanded}
use Rattle.world_trace.proofs.calm.trace_calm.Goals as goal

pub loop-passed-init : goal.loop-passed-init
loop-passed-init g c =
    let calls : Calls g.row.C.Denot = shown g.C.Carrier.calls in (
      none_passed calls g.C.Inspect.inside.members c.args.spot (g.T.Traced.state c.args.world.now)
          (g.W.Output.contents c.args.writer.now),
      c.requires.whole,
      omega arith,
      c.in_ok-texts.ensures,
      refl,
      refl,
    )

pub loop-passed-preserved : goal.loop-passed-preserved
loop-passed-preserved g c =
    let calls : Calls g.row.C.Denot = shown g.C.Carrier.calls in
    let l = c.loop-passed in
    let told = kept_written (TellsRound calls g.C.Inspect.inside.members c.args.spot (g.T.Traced.state l.world)
    (l.passed + 1) (g.T.Traced.state c.trace_round.new.world)) (g.W.Output.contents l.writer)
    (g.W.Output.contents c.trace_round.new.writer) (g.W.Output.contents c.hand_on_round.new.writer)
    c.in_ok-trace_round.ensures.ends c.hand_on_round.ensures.kept in (
      one_passed calls g.C.Inspect.inside.members c.args.spot l.passed (g.T.Traced.state c.args.world.now)
          (g.T.Traced.state l.world) (g.T.Traced.state c.trace_round.new.world) (g.W.Output.contents c.args.writer.now)
          (g.W.Output.contents l.writer) (g.W.Output.contents c.hand_on_round.new.writer) l.invariant.0 told,
      c.in_ok-hand_on_round.ensures.failed,
      omega (arith, c.loop-passed-test.true),
      c.in_ok-trace_round.ensures.known,
      c.trace_round.ensures.strangers ∙ l.invariant.4,
      round_seen calls g.C.Inspect.inside.members g.W.Output.contents g.W.Output.flushed c.args.spot l.passed
          (g.T.Traced.state c.args.world.now, c.args.writer.now) (g.T.Traced.state l.world, l.writer)
          (g.T.Traced.state c.trace_round.new.world, c.hand_on_round.new.writer) l.invariant.5 told
          c.in_ok-hand_on_round.ensures.seen,
    )

pub returns-in_err-trace_round-clause-ends : goal.returns-in_err-trace_round-clause-ends
returns-in_err-trace_round-clause-ends g c =
    let calls : Calls g.row.C.Denot = shown g.C.Carrier.calls in
    let l = c.loop-passed in
    let same : c.from_residual-in_err-trace_round.result ≡ Err c.in_err-trace_round.field-0.0 = search rules in
    subst (λ r. EventEnds calls g.C.Inspect.inside.members c.args.spot (g.T.Traced.state c.args.world.now)
    (event.Calm c.args.rounds) r (g.T.Traced.state c.trace_round.new.world) (g.W.Output.contents c.args.writer.now)
    (g.W.Output.contents c.trace_round.new.writer)) (sym same)
    (calm_early calls g.C.Inspect.inside.members c.args.spot l.passed c.args.rounds (g.T.Traced.state c.args.world.now)
    (g.T.Traced.state l.world) (g.T.Traced.state c.trace_round.new.world) c.in_err-trace_round.field-0.0
    (g.W.Output.contents c.args.writer.now) (g.W.Output.contents l.writer)
    (g.W.Output.contents c.trace_round.new.writer)
    c.loop-passed-test.true l.invariant.0 c.in_err-trace_round.ensures.ends)

pub returns-in_err-texts-clause-ends : goal.returns-in_err-texts-clause-ends
returns-in_err-texts-clause-ends g c =
    let calls : Calls g.row.C.Denot = shown g.C.Carrier.calls in
    let same : c.from_residual.result ≡ Err fault.OutOfMemory = search rules in
    let some : 0 < c.args.rounds = omega (arith, c.if-rounds-eq0.false) in
    subst (λ r. EventEnds calls g.C.Inspect.inside.members c.args.spot (g.T.Traced.state c.args.world.now)
    (event.Calm c.args.rounds) r (g.T.Traced.state c.args.world.now) (g.W.Output.contents c.args.writer.now)
    (g.W.Output.contents c.args.writer.now)) (sym same)
    (calm_unbegun calls g.C.Inspect.inside.members c.args.spot c.args.rounds (g.T.Traced.state c.args.world.now)
    (g.W.Output.contents c.args.writer.now) some)

pub returns-then-has_calmed-clause-ends : goal.returns-then-has_calmed-clause-ends
returns-then-has_calmed-clause-ends g c =
    let calls : Calls g.row.C.Denot = shown g.C.Carrier.calls in
    let l = c.loop-passed in
    let told = kept_written (TellsRound calls g.C.Inspect.inside.members c.args.spot (g.T.Traced.state l.world)
    (l.passed + 1) (g.T.Traced.state c.trace_round.new.world)) (g.W.Output.contents l.writer)
    (g.W.Output.contents c.trace_round.new.writer) (g.W.Output.contents c.hand_on_round.new.writer)
    c.in_ok-trace_round.ensures.ends c.hand_on_round.ensures.kept in
    calm_rests calls g.C.Inspect.inside.members c.args.spot (l.passed + 1) c.args.rounds
    (g.T.Traced.state c.args.world.now) (g.T.Traced.state c.trace_round.new.world)
    (g.W.Output.contents c.args.writer.now) (g.W.Output.contents c.hand_on_round.new.writer)
    (omega (arith, c.loop-passed-test.true))
    (c.has_calmed.ensures c.if-has_calmed.true)
    (one_passed calls g.C.Inspect.inside.members c.args.spot l.passed (g.T.Traced.state c.args.world.now)
    (g.T.Traced.state l.world) (g.T.Traced.state c.trace_round.new.world) (g.W.Output.contents c.args.writer.now)
    (g.W.Output.contents l.writer) (g.W.Output.contents c.hand_on_round.new.writer) l.invariant.0 told)

-- each round of a long calm was seen, till the world rests or all have passed
pub returns-then-has_calmed-clause-seen : goal.returns-then-has_calmed-clause-seen
returns-then-has_calmed-clause-seen g c =
    let calls : Calls g.row.C.Denot = shown g.C.Carrier.calls in
    let l = c.loop-passed in
    let told = kept_written (TellsRound calls g.C.Inspect.inside.members c.args.spot (g.T.Traced.state l.world)
    (l.passed + 1) (g.T.Traced.state c.trace_round.new.world)) (g.W.Output.contents l.writer)
    (g.W.Output.contents c.trace_round.new.writer) (g.W.Output.contents c.hand_on_round.new.writer)
    c.in_ok-trace_round.ensures.ends c.hand_on_round.ensures.kept in
    λ long. (
      l.passed + 1,
      omega (arith, c.loop-passed-test.true),
      round_seen calls g.C.Inspect.inside.members g.W.Output.contents g.W.Output.flushed c.args.spot l.passed
          (g.T.Traced.state c.args.world.now, c.args.writer.now) (g.T.Traced.state l.world, l.writer)
          (g.T.Traced.state c.trace_round.new.world, c.hand_on_round.new.writer) l.invariant.5 told
          c.in_ok-hand_on_round.ensures.seen,
      inr (c.has_calmed.ensures c.if-has_calmed.true),
    )

pub returns-clause-seen : goal.returns-clause-seen
returns-clause-seen g c =
    let l = c.loop-passed in
    λ long. (l.passed, l.invariant.2, l.invariant.5, inl (omega (arith, l.invariant.2, c.loop-passed-test.false)))

-- a calm of no rounds is none that is long
pub returns-then-rounds-eq0-clause-seen : goal.returns-then-rounds-eq0-clause-seen
returns-then-rounds-eq0-clause-seen g c = λ long. absurd (omega (arith, long, c.if-rounds-eq0.true))

-- what was written couldn't be handed on: the round had already passed
pub returns-in_err-hand_on_round-clause-ends : goal.returns-in_err-hand_on_round-clause-ends
returns-in_err-hand_on_round-clause-ends g c =
    let calls : Calls g.row.C.Denot = shown g.C.Carrier.calls in
    let l = c.loop-passed in
    let same : c.from_residual-in_err-hand_on_round.result ≡ Err fault.CannotWrite = search rules in
    subst (λ r. EventEnds calls g.C.Inspect.inside.members c.args.spot (g.T.Traced.state c.args.world.now)
    (event.Calm c.args.rounds) r (g.T.Traced.state c.trace_round.new.world) (g.W.Output.contents c.args.writer.now)
    (g.W.Output.contents c.hand_on_round.new.writer)) (sym same)
    (calm_early calls g.C.Inspect.inside.members c.args.spot l.passed c.args.rounds (g.T.Traced.state c.args.world.now)
    (g.T.Traced.state l.world) (g.T.Traced.state c.trace_round.new.world) fault.CannotWrite
    (g.W.Output.contents c.args.writer.now) (g.W.Output.contents l.writer)
    (g.W.Output.contents c.hand_on_round.new.writer) c.loop-passed-test.true l.invariant.0
    (unhanded calls g.C.Inspect.inside.members c.args.spot (l.passed + 1) (g.T.Traced.state l.world)
    (g.T.Traced.state c.trace_round.new.world) (g.W.Output.contents l.writer)
    (g.W.Output.contents c.trace_round.new.writer) (g.W.Output.contents c.hand_on_round.new.writer)
    c.in_ok-trace_round.ensures.ends))

pub returns-clause-ends : goal.returns-clause-ends
returns-clause-ends g c =
    let calls : Calls g.row.C.Denot = shown g.C.Carrier.calls in
    let l = c.loop-passed in
    calm_passed calls g.C.Inspect.inside.members c.args.spot l.passed c.args.rounds (g.T.Traced.state c.args.world.now)
    (g.T.Traced.state l.world) (g.W.Output.contents c.args.writer.now) (g.W.Output.contents l.writer)
    (omega (arith, l.invariant.2, c.loop-passed-test.false)) l.invariant.0
