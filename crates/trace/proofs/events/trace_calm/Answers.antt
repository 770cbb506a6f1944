use Rattle.trace.proofs.Common.{◌≡◌, Err, List, ap, refl, rules, subst, sym, Calls, by_round, EventEnds, RoundEnds, Inside, Element}
use Rattle.replay.specs.declared.events.ReplayFault.TheVariants as fault
use Rattle.script.specs.declared.event.RawEvent.TheVariants as event
use Rattle.trace.proofs.Rounds.Handing.{Passing, all_seen, none_passing, one_passing, still_seen}
use Rattle.trace.proofs.Rounds.Told.{is_fault, is_still, round_stops, rounds_early, still_told}
use Rattle.trace.proofs.events.trace_calm.Goals as goal

pub rounds-init : goal.rounds-init
rounds-init g c =
    let calls : Calls g.row.C.Denot = g.C.Carrier.calls in
    let inside : Inside g.row.C.Denot = g.C.Inspect.inside in
    let all : List (List Element) = by_round (inside.calm c.args.carrier.now c.args.rounds) in (
      subst (λ (left : List Element). Passing calls inside c.args.spot g.W.Output.contents g.W.Output.flushed all
          (by_round left) 0 (c.args.carrier.now, c.args.writer.now) (c.args.carrier.now, c.args.writer.now))
          (sym c.begin_calm-place.ensures)
          (none_passing calls inside g.C.Inspect.left c.args.spot g.W.Output.contents g.W.Output.flushed all
          (c.args.carrier.now, c.args.writer.now)),
      c.requires.whole,
      c.requires.known,
    )

-- memory ran out before a round
pub returns-in_err-begun-clause-ends : goal.returns-in_err-begun-clause-ends
returns-in_err-begun-clause-ends g c =
    let calls : Calls g.row.C.Denot = g.C.Carrier.calls in
    let inside : Inside g.row.C.Denot = g.C.Inspect.inside in
    let memory : c.from_residual.result ≡ Err fault.OutOfMemory = search rules in
    let stops : RoundEnds calls inside g.C.Inspect.left c.args.spot c.rounds.carrier c.rounds.place
    (Err fault.OutOfMemory) c.rounds.carrier (g.W.Output.contents c.rounds.writer)
    (g.W.Output.contents c.rounds.writer) =
    round_stops calls inside g.C.Inspect.left c.args.spot c.rounds.carrier c.rounds.place c.in-Some.field-0-1
    c.in-Some.element (g.W.Output.contents c.rounds.writer) c.in-Some.ensures in
    subst (λ r. EventEnds calls inside c.args.carrier.now (c.args.spot, event.Calm c.args.rounds) r c.rounds.carrier
    (g.W.Output.contents c.args.writer.now) (g.W.Output.contents c.rounds.writer)) (sym memory)
    (rounds_early calls inside g.C.Inspect.left c.args.spot c.args.rounds c.args.carrier.now c.rounds.carrier
    c.rounds.carrier c.rounds.place (Err fault.OutOfMemory) (Err fault.OutOfMemory)
    (g.W.Output.contents c.args.writer.now) (g.W.Output.contents c.rounds.writer)
    (g.W.Output.contents c.rounds.writer) c.rounds.invariant.0.so_far stops refl)

-- a round ended early
pub returns-in_err-place-clause-ends : goal.returns-in_err-place-clause-ends
returns-in_err-place-clause-ends g c =
    let calls : Calls g.row.C.Denot = g.C.Carrier.calls in
    let inside : Inside g.row.C.Denot = g.C.Inspect.inside in
    let same : c.from_residual-in_err-place.result ≡ Err c.in_err-place.field-0.0 = search rules in
    rounds_early calls inside g.C.Inspect.left c.args.spot c.args.rounds c.args.carrier.now c.rounds.carrier
    c.pass_round.new.carrier c.rounds.place c.pass_round.result c.from_residual-in_err-place.result
    (g.W.Output.contents c.args.writer.now) (g.W.Output.contents c.rounds.writer)
    (g.W.Output.contents c.pass_round.new.writer) c.rounds.invariant.0.so_far c.pass_round.ensures.ends
    (is_fault c.pass_round.result c.from_residual-in_err-place.result c.in_err-place.field-0.0 c.in_err-place.was same)

pub returns-then-is_still-clause-ends : goal.returns-then-is_still-clause-ends
returns-then-is_still-clause-ends g c =
    let calls : Calls g.row.C.Denot = g.C.Carrier.calls in
    let inside : Inside g.row.C.Denot = g.C.Inspect.inside in
    still_told calls inside g.C.Inspect.left c.args.spot c.args.carrier.now c.rounds.carrier c.pass_round.new.carrier
    c.rounds.place c.in_ok-place.place (by_round (inside.calm c.args.carrier.now c.args.rounds))
    c.in_ok-begun.begun.parts c.in_ok-begun.begun.booked
    (g.W.Output.contents c.args.writer.now) (g.W.Output.contents c.rounds.writer)
    (g.W.Output.contents c.pass_round.new.writer) c.rounds.invariant.0.so_far c.in_ok-place.ensures.ends
    c.in_ok-begun.ensures.begun c.if-is_still.ensures.still

pub rounds-preserved : goal.rounds-preserved
rounds-preserved g c =
    let calls : Calls g.row.C.Denot = g.C.Carrier.calls in
    let inside : Inside g.row.C.Denot = g.C.Inspect.inside in (
      one_passing calls inside g.C.Inspect.left c.args.spot g.W.Output.contents g.W.Output.flushed
          (by_round (inside.calm c.args.carrier.now c.args.rounds)) c.rounds.passed c.count_round-passed.result
          (c.args.carrier.now, c.args.writer.now) (c.rounds.carrier, c.rounds.writer)
          (c.pass_round.new.carrier, c.pass_round.new.writer) c.rounds.place c.in_ok-place.place
          c.in_ok-begun.begun.parts c.in_ok-begun.begun.booked c.rounds.invariant.0 c.in_ok-place.ensures.ends
          c.in_ok-place.ensures.seen c.count_round-passed.ensures c.in_ok-begun.ensures.begun c.if-is_still.ensures.moved,
      c.in_ok-place.ensures.failed,
      c.in_ok-place.ensures.known,
    )

-- each round of a long calm was seen, till one was still or all have passed
pub returns-then-is_still-clause-seen : goal.returns-then-is_still-clause-seen
returns-then-is_still-clause-seen g c =
    let calls : Calls g.row.C.Denot = g.C.Carrier.calls in
    let inside : Inside g.row.C.Denot = g.C.Inspect.inside in
    let told = c.in_ok-place.ensures.ends in
    still_seen calls inside g.C.Inspect.left c.args.spot g.W.Output.contents g.W.Output.flushed
    (by_round (inside.calm c.args.carrier.now c.args.rounds)) c.rounds.passed
    (c.args.carrier.now, c.args.writer.now) (c.rounds.carrier, c.rounds.writer)
    (c.pass_round.new.carrier, c.pass_round.new.writer) c.rounds.place c.in_ok-place.place c.rounds.invariant.0
    told c.in_ok-place.ensures.seen
    (is_still calls inside c.args.spot c.rounds.carrier c.pass_round.new.carrier told.0 told.2.shown
    c.in_ok-begun.begun.parts c.in_ok-begun.begun.booked told.2.is_shown c.in_ok-begun.ensures.begun
    c.if-is_still.ensures.still)

pub returns-clause-seen : goal.returns-clause-seen
returns-clause-seen g c =
    let calls : Calls g.row.C.Denot = g.C.Carrier.calls in
    let inside : Inside g.row.C.Denot = g.C.Inspect.inside in
    all_seen calls inside g.C.Inspect.left c.args.spot g.W.Output.contents g.W.Output.flushed
    (by_round (inside.calm c.args.carrier.now c.args.rounds)) (by_round (g.C.Inspect.left c.rounds.carrier c.rounds.place))
    c.rounds.passed (c.args.carrier.now, c.args.writer.now) (c.rounds.carrier, c.rounds.writer)
    (ap by_round c.in_default.ensures) c.rounds.invariant.0
