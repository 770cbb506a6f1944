use Rattle.std.proofs.Common.{rules, ◌≡◌, ◌≢◌, ◌++◌, Err, codes, length, ap}
use Rattle.session.proofs.Heads.{hears_first, hears_more, marked, no_lines, one_more, unended, unheard}
use Rattle.session.proofs.head.read_head.Goals as goal

pub lines-init : goal.lines-init
lines-init g c = (
  c.requires.reads,
  c.requires.more,
  search rules,
  hears_first (g.R.Source.remaining c.args.reader.now) c.new-head.result.items c.args.ahead.now.items c.new-head.ensures.items c.requires.none,
  no_lines c.new-head.result.items c.new-head.ensures.items,
)

pub returns-in_err-next-clause-fault : goal.returns-in_err-next-clause-fault
returns-in_err-next-clause-fault g c =
    let is : c.from_residual.result ≡ Err c.in_err-next.field-0.0 = search rules in
    let seen : c.len.result ≡ length c.lines.head.items = search rules in
    rw is (unheard (g.R.Source.remaining c.args.reader.now) _ c.lines.head.items c.in_err-next.field-0.0 c.lines.invariant.3 c.in_err-next.ensures.fault
    (λ e. rw seen at (c.in_err-next.ensures.too_long (ap Err e))))

pub returns-then-not-next-clause-fault : goal.returns-then-not-next-clause-fault
returns-then-not-next-clause-fault g c =
    let seen : c.len.result ≡ length c.lines.head.items = search rules in
    let heard = rw c.if-not-next.true at c.in_ok-next.ensures.heard in
    unended (g.R.Source.remaining c.args.reader.now) _ _ c.lines.head.items c.in_ok-next.next.line.items c.lines.invariant.3 c.lines.invariant.4
    (rw seen at c.in_ok-next.ensures.hears) heard.0 heard.1

pub returns-then-is_word-clause-head : goal.returns-then-is_word-clause-head
returns-then-is_word-clause-head g c =
    let grown : c.extend_from_slice.new.self.items ≡ c.lines.head.items ++ c.in_ok-next.next.line.items = search rules in
    let is : c.in_ok-next.next.line.items ≡ codes "%\n" = search rules in
    (c.lines.head.items, rw grown (marked c.lines.head.items c.in_ok-next.next.line.items c.lines.invariant.4 is))

pub returns-then-is_word-clause-hears : goal.returns-then-is_word-clause-hears
returns-then-is_word-clause-hears g c =
    let grown : c.extend_from_slice.new.self.items ≡ c.lines.head.items ++ c.in_ok-next.next.line.items = search rules in
    let seen : c.len.result ≡ length c.lines.head.items = search rules in
    (hears_more _ _ _ _ _ c.lines.head.items c.in_ok-next.next.line.items c.extend_from_slice.new.self.items c.lines.invariant.3
    (rw seen at c.in_ok-next.ensures.hears) grown).1

pub returns-then-is_word-clause-short : goal.returns-then-is_word-clause-short
returns-then-is_word-clause-short g c =
    let grown : c.extend_from_slice.new.self.items ≡ c.lines.head.items ++ c.in_ok-next.next.line.items = search rules in
    let seen : c.len.result ≡ length c.lines.head.items = search rules in
    rw (← (hears_more _ _ _ _ _ c.lines.head.items c.in_ok-next.next.line.items c.extend_from_slice.new.self.items c.lines.invariant.3
    (rw seen at c.in_ok-next.ensures.hears) grown).0) c.in_ok-next.ensures.short

pub lines-preserved : goal.lines-preserved
lines-preserved g c =
    let grown : c.extend_from_slice.new.self.items ≡ c.lines.head.items ++ c.in_ok-next.next.line.items = search rules in
    let seen : c.len.result ≡ length c.lines.head.items = search rules in
    let heard = rw c.if-not-next.false at c.in_ok-next.ensures.heard in
    let other : c.in_ok-next.next.line.items ≢ codes "%\n" = search rules in
    let more = hears_more _ _ _ _ _ c.lines.head.items c.in_ok-next.next.line.items c.extend_from_slice.new.self.items c.lines.invariant.3
    (rw seen at c.in_ok-next.ensures.hears) grown in (
      search rules,
      search rules,
      rw (← more.0) c.in_ok-next.ensures.short,
      more.1,
      rw grown (one_more c.lines.head.items c.in_ok-next.next.line.items c.lines.invariant.4 heard other),
    )
