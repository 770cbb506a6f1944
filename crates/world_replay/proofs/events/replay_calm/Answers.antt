use Rattle.world_replay.proofs.Common.{Calm, EventEnds, RoundPrints}
use Rattle.std.proofs.Common.{◌≡◌, ◌+◌, ◌-◌, true, Err, inl, inr, refl, rules, subst, sym, arith}
use Rattle.replay.proofs.lemmas.{one_round_seen}
use Rattle.world_replay.proofs.ByKind.{all_passed, no_rounds, round_ends_so, round_more, rounds_end}
use Rattle.world_replay.proofs.events.replay_calm.Goals as goal

pub loop-passed-init : goal.loop-passed-init
loop-passed-init g c = (no_rounds g.R.Replayed.kind c.args.detail c.args.world.now (g.W.Output.contents c.args.writer.now), c.requires.whole, omega arith, refl)

pub loop-passed-preserved : goal.loop-passed-preserved
loop-passed-preserved g c = (
  round_more g.R.Replayed.kind c.is_replayable.ensures c.args.detail c.loop-passed.passed c.args.world.now c.loop-passed.world c.replay_round.new.world (g.W.Output.contents c.args.writer.now) (g.W.Output.contents c.loop-passed.writer) (g.W.Output.contents c.replay_round.new.writer)
      c.loop-passed.invariant.0 c.in_ok-replay_round.ensures.ends,
  c.in_ok-replay_round.ensures.failed,
  omega (arith, c.loop-passed-test.true),
  one_round_seen (RoundPrints g.R.Replayed.kind c.args.detail g.W.Output.contents) (λ at. g.W.Output.flushed at.1 ≡ true) c.loop-passed.passed (c.args.world.now, c.args.writer.now) (c.loop-passed.world, c.loop-passed.writer) (c.replay_round.new.world, c.replay_round.new.writer)
      c.loop-passed.invariant.3 c.in_ok-replay_round.ensures.ends c.in_ok-replay_round.ensures.seen,
)

pub returns-in_err-replay_round-clause-ends : goal.returns-in_err-replay_round-clause-ends
returns-in_err-replay_round-clause-ends g c =
    let same : c.from_residual.result ≡ Err c.in_err-replay_round.field-0.0 = search rules in
    subst (λ r. EventEnds g.R.Replayed.kind c.args.detail c.args.world.now (Calm c.args.rounds) r c.replay_round.new.world (g.W.Output.contents c.args.writer.now) (g.W.Output.contents c.replay_round.new.writer)) (sym same)
    (round_ends_so g.R.Replayed.kind c.is_replayable.ensures c.args.detail c.loop-passed.passed c.args.rounds c.args.world.now c.loop-passed.world c.replay_round.new.world c.in_err-replay_round.field-0.0 (g.W.Output.contents c.args.writer.now) (g.W.Output.contents c.loop-passed.writer) (g.W.Output.contents c.replay_round.new.writer)
    c.loop-passed.invariant.0 c.loop-passed-test.true c.in_err-replay_round.ensures.ends)

pub returns-then-rests_since-clause-ends : goal.returns-then-rests_since-clause-ends
returns-then-rests_since-clause-ends g c =
    rounds_end g.R.Replayed.kind c.is_replayable.ensures c.args.detail (c.loop-passed.passed + 1) (c.args.rounds - (c.loop-passed.passed + 1)) c.args.rounds c.args.world.now c.replay_round.new.world (g.W.Output.contents c.args.writer.now) (g.W.Output.contents c.replay_round.new.writer)
    (round_more g.R.Replayed.kind c.is_replayable.ensures c.args.detail c.loop-passed.passed c.args.world.now c.loop-passed.world c.replay_round.new.world (g.W.Output.contents c.args.writer.now) (g.W.Output.contents c.loop-passed.writer) (g.W.Output.contents c.replay_round.new.writer) c.loop-passed.invariant.0 c.in_ok-replay_round.ensures.ends)
    (omega arith) (omega (arith, c.loop-passed-test.true)) (c.rests_since.ensures.unchanged c.if-rests_since.true)

pub returns-clause-ends : goal.returns-clause-ends
returns-clause-ends g c =
    all_passed g.R.Replayed.kind c.is_replayable.ensures c.args.detail c.loop-passed.passed c.args.rounds c.args.world.now c.loop-passed.world (g.W.Output.contents c.args.writer.now) (g.W.Output.contents c.loop-passed.writer) c.loop-passed.invariant.0
    (omega (arith, c.requires.some, c.loop-passed-test.false)) (omega (arith, c.loop-passed-test.false, c.loop-passed.invariant.2))

-- the rounds of a long calm were seen, till it rests or all have passed
pub returns-then-rests_since-clause-seen : goal.returns-then-rests_since-clause-seen
returns-then-rests_since-clause-seen g c = λ long. (
  c.loop-passed.passed + 1,
  omega (arith, c.loop-passed-test.true),
  one_round_seen (RoundPrints g.R.Replayed.kind c.args.detail g.W.Output.contents) (λ at. g.W.Output.flushed at.1 ≡ true) c.loop-passed.passed (c.args.world.now, c.args.writer.now) (c.loop-passed.world, c.loop-passed.writer) (c.replay_round.new.world, c.replay_round.new.writer)
      c.loop-passed.invariant.3 c.in_ok-replay_round.ensures.ends c.in_ok-replay_round.ensures.seen,
  inr (c.rests_since.ensures.rest c.if-rests_since.true),
)

pub returns-clause-seen : goal.returns-clause-seen
returns-clause-seen g c = λ long. (
  c.loop-passed.passed,
  c.loop-passed.invariant.2,
  c.loop-passed.invariant.3,
  inl (omega (arith, c.loop-passed-test.false, c.loop-passed.invariant.2)),
)
