use Rattle.std.proofs.Common.{◌≡◌, Err, List, ℕ, MatchResult, OnOk, ap, rules, subst}
use Rattle.replay.proofs.lemmas.{on_ok}
use Rattle.command_line.specs.Input.{IsScriptFault, IsSomeInput}
use Rattle.simulator.proofs.Common.{TraceStops, TracesInput}
use Rattle.command_line.specs.Stopping.{NothingOr}
use Rattle.simulator.proofs.Traces.AmongTraced.{any_stopped, any_traced}
use Rattle.command_line.proofs.lemmas.{at_known, read_as, unread}
use Rattle.simulator.proofs.tracing.run_trace.Goals as goal

pub returns-clause-ran : goal.returns-clause-ran
returns-clause-ran g c =
    on_ok c.follow.result (any_traced c.deref.result.now (g.W.Output.contents c.args.writer.now) (g.W.Output.contents c.follow.new.writer)) c.follow.ensures.traced

pub returns-clause-traced : goal.returns-clause-traced
returns-clause-traced g c =
    on_ok c.follow.result
    (at_known (λ k. TracesInput k (g.W.Output.contents c.args.writer.now) (g.W.Output.contents c.follow.new.writer)) (g.R.Source.remaining c.args.reader.now) c.in_ok-octets.octets.items c.in_ok-octets.ensures.whole)
    (subst (λ (o : List ℕ). OnOk c.follow.result (TracesInput o (g.W.Output.contents c.args.writer.now) (g.W.Output.contents c.follow.new.writer))) c.deref.ensures.value c.follow.ensures.traced)

pub returns-clause-read : goal.returns-clause-read
returns-clause-read g c = λ whole.
    at_known (λ k. MatchResult c.follow.result (λ done. IsSomeInput k) (IsScriptFault k)) (g.R.Source.remaining c.args.reader.now) c.in_ok-octets.octets.items c.in_ok-octets.ensures.whole
    (subst (λ (o : List ℕ). MatchResult c.follow.result (λ done. IsSomeInput o) (IsScriptFault o)) c.deref.ensures.value (read_as c.deref.result.now c.follow.result c.follow.ensures.read c.follow.ensures.fault))

pub returns-clause-ran_in_part : goal.returns-clause-ran_in_part
returns-clause-ran_in_part g c = λ e.
    any_stopped c.deref.result.now (g.W.Output.contents c.args.writer.now) (g.W.Output.contents c.follow.new.writer) (c.follow.ensures.stopped e)

pub returns-clause-first_part : goal.returns-clause-first_part
returns-clause-first_part g c = λ e.
    at_known (λ k. NothingOr (TraceStops k) (g.W.Output.contents c.args.writer.now) (g.W.Output.contents c.follow.new.writer)) (g.R.Source.remaining c.args.reader.now) c.in_ok-octets.octets.items c.in_ok-octets.ensures.whole
    (subst (λ (o : List ℕ). NothingOr (TraceStops o) (g.W.Output.contents c.args.writer.now) (g.W.Output.contents c.follow.new.writer)) c.deref.ensures.value (c.follow.ensures.stopped e))

pub returns-in_err-octets-clause-read : goal.returns-in_err-octets-clause-read
returns-in_err-octets-clause-read g c = λ whole.
    let same : c.from_residual.result ≡ Err c.in_err-octets.field-0.0 = search rules in
    unread (g.R.Source.remaining c.args.reader.now) c.from_residual.result c.in_err-octets.field-0.0 (g.R.Source.failed c.read_octets.new.reader) same
    c.in_err-octets.ensures.fault (λ e. c.in_err-octets.ensures.too_long (ap Err e)) (λ e. c.in_err-octets.ensures.failed.0 (ap Err e)) whole
