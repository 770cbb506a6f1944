use Rattle.trace.proofs.Common.{◌≡◌, Err, rules, subst, sym, Calls, RoundEnds, Inside, TellsRound}
use Rattle.replay.proofs.lemmas.{kept_written}
use Rattle.replay.specs.declared.events.ReplayFault.TheVariants as fault
use Rattle.trace.proofs.Rounds.Handing.{unhanded}
use Rattle.trace.proofs.events.pass_round.Goals as goal

pub returns-clause-ends : goal.returns-clause-ends
returns-clause-ends g c =
    let calls : Calls g.row.C.Denot = g.C.Carrier.calls in
    let inside : Inside g.row.C.Denot = g.C.Inspect.inside in
    let (round, is, written) = c.in_ok-place.ensures.ends in (
      round,
      is,
      kept_written (TellsRound calls inside c.args.spot c.args.carrier.now round c.trace_round.new.carrier)
          (g.W.Output.contents c.args.writer.now) (g.W.Output.contents c.trace_round.new.writer)
          (g.W.Output.contents c.hand_on_round.new.writer) written c.hand_on_round.ensures.kept,
    )

-- what was written couldn't be handed on: the round had already passed
pub returns-in_err-hand_on_round-clause-ends : goal.returns-in_err-hand_on_round-clause-ends
returns-in_err-hand_on_round-clause-ends g c =
    let calls : Calls g.row.C.Denot = g.C.Carrier.calls in
    let inside : Inside g.row.C.Denot = g.C.Inspect.inside in
    let same : c.from_residual-in_err-hand_on_round.result ≡ Err fault.CannotWrite = search rules in
    subst (λ r. RoundEnds calls inside g.C.Inspect.left c.args.spot c.args.carrier.now c.args.begin r
    c.trace_round.new.carrier (g.W.Output.contents c.args.writer.now) (g.W.Output.contents c.hand_on_round.new.writer))
    (sym same)
    (unhanded calls inside g.C.Inspect.left c.args.spot c.args.carrier.now c.trace_round.new.carrier c.args.begin
    c.in_ok-place.place (g.W.Output.contents c.args.writer.now) (g.W.Output.contents c.trace_round.new.writer)
    (g.W.Output.contents c.hand_on_round.new.writer) c.in_ok-place.ensures.ends)
