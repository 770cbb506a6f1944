use Rattle.std.proofs.Common.{drop, ◌++◌}
use Rattle.book_log.specs.Steps.{amount_words}
use Rattle.book_log.proofs.Cuts.{after}
use Rattle.book_log.proofs.lines.read_amount.Goals as goal

pub returns-in_err-messages : goal.returns-in_err-messages
returns-in_err-messages c = rw c.from_residual.ensures (λ y rest meant e. c.in_err-messages.ensures y.messages (drop 1 (amount_words y ++ rest)) meant.0 e)

pub returns-in_err-bits : goal.returns-in_err-bits
returns-in_err-bits c = rw c.from_residual-in_err-bits.ensures (λ y rest meant e. c.in_err-bits.ensures y.bits (drop 2 (amount_words y ++ rest)) meant.1 (after c.in_ok-messages.ensures.0 e))
