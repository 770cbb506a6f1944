use Rattle.std.proofs.Common.{rules, ◌≡◌, Err, IfSome, Ok, inl}
use Rattle.std.proofs.lemmas.Option.{IfSome_then}
use Rattle.replay.proofs.lemmas.{on_ok}
use Rattle.command_line.specs.declared.fault.ScriptFault.TheVariants as fault
use Rattle.session.specs.Head.{HasNoHead}
use Rattle.session.proofs.Heads.{said}
use Rattle.session.proofs.Sessions.{early_session, no_end, serving_first, whole_session}
use Rattle.session.proofs.running.run_session.Goals as goal

pub returns-in_err-flush-clause-early : goal.returns-in_err-flush-clause-early
returns-in_err-flush-clause-early g c =
    let known = g.R.Source.remaining c.args.reader.now in
    let is : c.from_residual.result ≡ Err fault.CannotWrite = search rules in
    let none : IfSome known (λ octets. HasNoHead octets fault.CannotWrite) = said known tt in
    rw is (IfSome_then known none (λ octets h. inl (h, c.flush.ensures.kept)))

pub returns-in_err-head-clause-early : goal.returns-in_err-head-clause-early
returns-in_err-head-clause-early g c =
    let is : c.from_residual-in_err-head.result ≡ Err c.in_err-head.field-0.0 = search rules in
    rw is (IfSome_then (g.R.Source.remaining c.args.reader.now) c.in_err-head.ensures.fault.2 (λ octets none. inl (none, c.flush.ensures.kept)))

pub returns-in_err-serve-clause-early : goal.returns-in_err-serve-clause-early
returns-in_err-serve-clause-early g c =
    let is : c.from_residual-in_err-serve.result ≡ Err c.in_err-serve.field-0.0 = search rules in
    let head = c.in_ok-head.ensures.head in
    rw is (early_session (g.R.Source.remaining c.args.reader.now) _ c.in_ok-head.head.items head.0 _ head.1 c.in_ok-head.ensures.hears
    c.in_err-serve.field-0.0 _ _ (serving_first _ _ _ _ _ (Err c.in_err-serve.field-0.0) c.flush.ensures.kept (rw c.deref.ensures.value at c.in_err-serve.ensures.ends)))

pub returns-clause-session : goal.returns-clause-session
returns-clause-session g c =
    let head = c.in_ok-head.ensures.head in
    on_ok c.write_end.result (λ end. whole_session (g.R.Source.remaining c.args.reader.now) c.in_ok-head.head.items head.0 _ _ _ _ head.1 c.in_ok-head.ensures.hears
    (serving_first _ _ _ _ _ (Ok tt) c.flush.ensures.kept (rw c.deref.ensures.value at c.in_ok-serve.ensures.ends)) end) c.write_end.ensures.written

pub returns-clause-early : goal.returns-clause-early
returns-clause-early g c =
    let head = c.in_ok-head.ensures.head in
    no_end (g.R.Source.remaining c.args.reader.now) _ c.in_ok-head.head.items head.0 _ head.1 c.in_ok-head.ensures.hears _ _ _ c.write_end.result
    (serving_first _ _ _ _ _ (Ok tt) c.flush.ensures.kept (rw c.deref.ensures.value at c.in_ok-serve.ensures.ends)) c.write_end.ensures.fault
