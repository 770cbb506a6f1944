use Rattle.command_line.proofs.Common.{◌≡◌, ℕ, List, Err, ap, rules, subst, Appends, Verdict}
use Rattle.book_log.specs.Log.{IsLog}
use Rattle.command_line.specs.Audits.{IsBookFault, Layout, found_text}
use Rattle.command_line.proofs.Verdicts.MixedKept.Said.{ends_faulty, ends_kept}
use Rattle.command_line.proofs.Verdicts.Judged.{audited, audits, known_audited, some_log, unjudged, unlogged, unread, unwritten}
use Rattle.command_line.specs.declared.auditing.AuditFault.TheVariants as fault
use Rattle.command_line.proofs.auditing.run_audit.Goals as goal

-- what is written
pub returns-clause-audited : goal.returns-clause-audited
returns-clause-audited g c =
    let v : Verdict = c.in_ok-layout.found in
    let hosts = c.in_ok-log.log.strangers.items in
    let book = c.in_ok-log.log.book in
    let log : IsLog c.in_ok-octets.octets.items hosts book = c.in_ok-log.ensures in
    let written = subst (λ (l : Layout). Appends (g.W.Output.contents c.args.writer.now) (g.W.Output.contents c.write_found.new.writer) (found_text l v)) c.in_ok-layout.ensures.0 c.in_ok-write_found.ensures.written in
    audited c.in_ok-octets.octets.items v (g.W.Output.contents c.args.writer.now) (g.W.Output.contents c.write_found.new.writer)
    (audits c.in_ok-octets.octets.items hosts book v (g.W.Output.contents c.args.writer.now) (g.W.Output.contents c.write_found.new.writer) log c.in_ok-layout.ensures.1 written)

pub returns-clause-says : goal.returns-clause-says
returns-clause-says g c =
    let v : Verdict = c.in_ok-layout.found in
    let hosts = c.in_ok-log.log.strangers.items in
    let book = c.in_ok-log.log.book in
    let log : IsLog c.in_ok-octets.octets.items hosts book = c.in_ok-log.ensures in
    let written = subst (λ (l : Layout). Appends (g.W.Output.contents c.args.writer.now) (g.W.Output.contents c.write_found.new.writer) (found_text l v)) c.in_ok-layout.ensures.0 c.in_ok-write_found.ensures.written in
    known_audited (g.R.Source.remaining c.args.reader.now) c.in_ok-octets.octets.items v (g.W.Output.contents c.args.writer.now) (g.W.Output.contents c.write_found.new.writer) c.in_ok-octets.ensures.whole
    (audits c.in_ok-octets.octets.items hosts book v (g.W.Output.contents c.args.writer.now) (g.W.Output.contents c.write_found.new.writer) log c.in_ok-layout.ensures.1 written)

pub returns-clause-read : goal.returns-clause-read
returns-clause-read g c = λ whole. some_log (g.R.Source.remaining c.args.reader.now) c.in_ok-octets.octets.items c.in_ok-log.log.strangers.items c.in_ok-log.log.book c.in_ok-octets.ensures.whole c.in_ok-log.ensures

pub returns-in_err-octets-clause-read : goal.returns-in_err-octets-clause-read
returns-in_err-octets-clause-read g c = λ whole.
    let same : c.from_residual.result ≡ Err c.in_err-octets.field-0.0 = search rules in
    unread (g.R.Source.remaining c.args.reader.now) c.from_residual.result c.in_err-octets.field-0.0 (g.R.Source.failed c.read_octets.new.reader) same c.in_err-octets.ensures.fault (λ e. c.in_err-octets.ensures.memory (ap Err e))
    (λ e. c.in_err-octets.ensures.failed.0 (ap Err e)) whole

pub returns-in_err-log-clause-read : goal.returns-in_err-log-clause-read
returns-in_err-log-clause-read g c = λ whole.
    let same : c.from_residual-in_err-log.result ≡ Err c.in_err-log.field-0.0 = search rules in
    unlogged (g.R.Source.remaining c.args.reader.now) c.in_ok-octets.octets.items c.from_residual-in_err-log.result
    c.in_err-log.field-0.0 c.in_ok-octets.ensures.whole same c.in_err-log.ensures

pub returns-in_err-write_found-clause-read : goal.returns-in_err-write_found-clause-read
returns-in_err-write_found-clause-read g c = λ whole.
    let same : c.from_residual-in_err-write_found.result ≡ Err fault.CannotWrite = search rules in
    unwritten (g.R.Source.remaining c.args.reader.now) c.in_ok-octets.octets.items c.in_ok-log.log.strangers.items c.in_ok-log.log.book c.from_residual-in_err-write_found.result c.in_ok-octets.ensures.whole same c.in_ok-log.ensures

pub returns-clause-kept : goal.returns-clause-kept
returns-clause-kept g c = λ whole.
    let v : Verdict = c.in_ok-layout.found in
    ends_kept (g.R.Source.remaining c.args.reader.now) v (g.W.Output.contents c.args.writer.now) (g.W.Output.contents c.write_found.new.writer) (returns-clause-says g c)

pub returns-in_err-octets-clause-kept : goal.returns-in_err-octets-clause-kept
returns-in_err-octets-clause-kept g c = λ whole.
    let same : c.from_residual.result ≡ Err c.in_err-octets.field-0.0 = search rules in
    ends_faulty (g.R.Source.remaining c.args.reader.now) c.from_residual.result c.in_err-octets.field-0.0 same (returns-in_err-octets-clause-read g c whole)

pub returns-in_err-log-clause-kept : goal.returns-in_err-log-clause-kept
returns-in_err-log-clause-kept g c = λ whole.
    let same : c.from_residual-in_err-log.result ≡ Err c.in_err-log.field-0.0 = search rules in
    ends_faulty (g.R.Source.remaining c.args.reader.now) c.from_residual-in_err-log.result c.in_err-log.field-0.0 same
    (returns-in_err-log-clause-read g c whole)

pub returns-in_err-layout-clause-read : goal.returns-in_err-layout-clause-read
returns-in_err-layout-clause-read g c = λ whole.
    let same : c.from_residual-in_err-layout.result ≡ Err fault.OutOfMemory = search rules in
    unjudged (g.R.Source.remaining c.args.reader.now) c.in_ok-octets.octets.items c.in_ok-log.log.strangers.items c.in_ok-log.log.book c.from_residual-in_err-layout.result c.in_ok-octets.ensures.whole same c.in_ok-log.ensures

pub returns-in_err-layout-clause-kept : goal.returns-in_err-layout-clause-kept
returns-in_err-layout-clause-kept g c = λ whole.
    let same : c.from_residual-in_err-layout.result ≡ Err fault.OutOfMemory = search rules in
    ends_faulty (g.R.Source.remaining c.args.reader.now) c.from_residual-in_err-layout.result fault.OutOfMemory same
    (returns-in_err-layout-clause-read g c whole)

pub returns-in_err-write_found-clause-kept : goal.returns-in_err-write_found-clause-kept
returns-in_err-write_found-clause-kept g c = λ whole.
    let same : c.from_residual-in_err-write_found.result ≡ Err fault.CannotWrite = search rules in
    ends_faulty (g.R.Source.remaining c.args.reader.now) c.from_residual-in_err-write_found.result fault.CannotWrite same (returns-in_err-write_found-clause-read g c whole)
