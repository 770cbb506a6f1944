use Rattle.std.proofs.Common.{rules, ◌≡◌, ◌≢◌, ◌≤◌, [], length, ap, arith, Err, inl}
use Rattle.session.specs.Hearing.{hearing}
use Rattle.session.proofs.Lines.{either_line, nothing, some_long}
use Rattle.session.proofs.Turns.{breaks_unanswered, breaks_unheard, serves_end, serves_last, stands, stands_more}
use Rattle.session.proofs.answering.answer_lines.Goals as goal

pub lines-init : goal.lines-init
lines-init g c = (
  c.requires.reads,
  c.requires.more,
  c.requires.writes,
  c.requires.handed,
  c.requires.short,
  omega arith,
  stands c.args.stage.now (hearing c.args.heard c.args.ahead.now.items (g.R.Source.remaining c.args.reader.now)) (g.W.Output.contents c.args.writer.now)
      (let short = c.requires.short in omega (arith, short)) c.opens.ensures,
)

pub returns-then-is_empty-clause-ends : goal.returns-then-is_empty-clause-ends
returns-then-is_empty-clause-ends g c =
    let none : length c.in_ok-next.next.line.items ≡ 0 = search rules in
    let short = c.in_ok-next.ensures.short in
    let end = nothing c.in_ok-next.next.ended c.in_ok-next.next.line.items _ c.in_ok-next.ensures.heard none in
    (_, serves_end c.lines.invariant.6 c.in_ok-next.ensures.hears (omega (arith, short)) end.0, end.1)

pub returns-then-not-next-clause-ends : goal.returns-then-not-next-clause-ends
returns-then-not-next-clause-ends g c =
    let some : c.in_ok-next.next.line.items ≢ [] = search rules in
    let short = c.in_ok-next.ensures.short in
    let heard = rw c.if-not-next.true at c.in_ok-next.ensures.heard in (
      _,
      serves_last c.lines.invariant.6 c.in_ok-next.ensures.hears (omega (arith, short)) c.goes_on.ensures
          (rw c.deref.ensures.value at c.in_ok-answer.ensures.answered) heard.0 some,
      heard.1,
    )

pub lines-preserved : goal.lines-preserved
lines-preserved g c =
    let heard = rw c.if-not-next.false at c.in_ok-next.ensures.heard in
    let short = c.in_ok-next.ensures.short in
    let few : c.lines.passed ≤ c.lines.so_far = c.lines.invariant.5 in
    let one : 1 ≤ length c.in_ok-next.next.line.items = some_long c.in_ok-next.next.line.items heard in
    let counted = c.in_ok-next.ensures.hears.counted in (
      search rules,
      search rules,
      search rules,
      c.in_ok-answer.ensures.handed,
      short,
      omega (arith, few, one, counted),
      stands_more c.lines.invariant.6 c.in_ok-next.ensures.hears (omega (arith, short)) c.goes_on.ensures
          (rw c.deref.ensures.value at c.in_ok-answer.ensures.answered) heard,
    )

pub returns-in_err-next-clause-ends : goal.returns-in_err-next-clause-ends
returns-in_err-next-clause-ends g c =
    let is : c.from_residual.result ≡ Err c.in_err-next.field-0.0 = search rules in
    rw is (inl (breaks_unheard c.in_err-next.field-0.0 c.lines.invariant.6 c.in_err-next.ensures.fault (λ e. c.in_err-next.ensures.too_long (ap Err e))))

pub returns-in_err-answer-clause-ends : goal.returns-in_err-answer-clause-ends
returns-in_err-answer-clause-ends g c =
    let is : c.from_residual-in_err-answer.result ≡ Err c.in_err-answer.field-0.0 = search rules in
    let short = c.in_ok-next.ensures.short in
    let whole = either_line c.in_ok-next.next.ended c.in_ok-next.next.line.items _ c.in_ok-next.ensures.heard in
    rw is (inl (breaks_unanswered c.lines.invariant.6 c.in_ok-next.ensures.hears (omega (arith, short)) c.in_err-answer.field-0.0 _ whole
    (rw c.deref.ensures.value at c.in_err-answer.ensures.cause)))
