use Rattle.std.proofs.Common.{sym, ◌∙◌}
use Rattle.book_log.proofs.Named.{next_line, no_line, not_next, other_line}
use Rattle.book_log.proofs.strangers.next_stranger.Goals as goal

pub returns-in_err-line : goal.returns-in_err-line
returns-in_err-line c = rw c.from_residual.ensures (no_line c.args.last c.args.text.now c.in_err-line.ensures)

pub returns-in_err-stranger : goal.returns-in_err-stranger
returns-in_err-stranger c =
    rw c.from_residual-in_err-stranger.ensures
    (other_line c.args.last c.args.text.now c.in_ok-line.line.now c.in_ok-line.more.now c.in_ok-line.ensures.0 c.in_ok-line.ensures.1 c.in_err-stranger.ensures)

pub returns-then-follows : goal.returns-then-follows
returns-then-follows c = (
  next_line c.args.last c.args.text.now c.in_ok-line.line.now c.in_ok-line.more.now c.in_ok-stranger.stranger
      c.in_ok-line.ensures.0 c.in_ok-stranger.ensures.0,
  c.in_ok-stranger.ensures.1,
  sym c.follows.ensures ∙ c.if-follows.true,
)

pub returns-else-follows : goal.returns-else-follows
returns-else-follows c =
    not_next c.args.last c.args.text.now c.in_ok-line.line.now c.in_ok-line.more.now c.in_ok-stranger.stranger
    c.in_ok-stranger.ensures.1 c.in_ok-line.ensures.0 c.in_ok-line.ensures.1
    c.in_ok-stranger.ensures.0 (sym c.follows.ensures ∙ c.if-follows.false)
