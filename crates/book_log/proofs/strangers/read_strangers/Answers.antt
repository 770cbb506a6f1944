use Rattle.book_log.proofs.Common.{List, ap, ◌++◌, ◌∙◌, ℕ, strangers_text}
use Rattle.book_log.proofs.Memory.{if_err}
use Rattle.book_log.proofs.Named.{named_less, names, one_more}
use Rattle.book_log.proofs.strangers.read_strangers.Goals as goal

pub lines-preserved : goal.lines-preserved
lines-preserved c =
    one_more c.args.text.now c.lines.left.now c.in-Some.next.1.now c.lines.strangers.items c.push.new.self.items
    c.lines.last c.in-Some.next.0 c.lines.invariant c.in-Some.ensures.0 c.in-Some.ensures.1
    c.in-Some.ensures.2 c.in_ok-push.ensures.items

pub lines-smaller : goal.lines-smaller
lines-smaller c = named_less c.lines.left.now c.in-Some.next.1.now c.in-Some.next.0 c.in-Some.ensures.0

pub returns-clause-names : goal.returns-clause-names
returns-clause-names c =
    names c.args.text.now c.lines.left.now c.lines.strangers.items c.lines.last c.lines.invariant c.in_default.ensures

pub returns-in_err-push-clause-memory : goal.returns-in_err-push-clause-memory
returns-in_err-push-clause-memory c =
    if_err c.from_residual.result (record {
      strangers = c.lines.strangers.items;
      next = c.in-Some.next.0;
      rest = c.in-Some.next.1.now;
      parted = c.lines.invariant.parted ∙ ap (λ (t : List ℕ). strangers_text c.lines.strangers.items ++ t) c.in-Some.ensures.0;
      named = c.lines.invariant.named;
      meant = c.in-Some.ensures.1;
    })
