use Rattle.std.proofs.Common.{drop, ◌++◌}
use Rattle.book_log.specs.Steps.{counts_words}
use Rattle.book_log.proofs.Cuts.{after, front}
use Rattle.book_log.proofs.Reading.{after_two, no_word}
use Rattle.book_log.proofs.lines.read_counts.Goals as goal

pub returns-in_err-messages : goal.returns-in_err-messages
returns-in_err-messages c = rw c.from_residual.ensures (λ y rest meant e. c.in_err-messages.ensures y.messages (drop 1 (counts_words y ++ rest)) meant.messages e)

pub returns-in_err-bits : goal.returns-in_err-bits
returns-in_err-bits c = rw c.from_residual-in_err-bits.ensures (λ y rest meant e. c.in_err-bits.ensures y.bits (drop 2 (counts_words y ++ rest)) meant.bits (after c.in_ok-messages.ensures.0 e))

pub returns-in_err-granted : goal.returns-in_err-granted
returns-in_err-granted c = rw c.from_residual-in_err-granted.ensures (λ y rest meant e. c.in_err-granted.ensures y.granted (drop 4 (counts_words y ++ rest)) meant.granted (after c.in_ok-bits.ensures.0 (after c.in_ok-messages.ensures.0 e)))

pub returns-in_err-returned : goal.returns-in_err-returned
returns-in_err-returned c = rw c.from_residual-in_err-returned.ensures (λ y rest meant e. c.in_err-returned.ensures y.returned (drop 6 (counts_words y ++ rest)) meant.returned (after_two c.in_ok-granted.ensures.0 (after c.in_ok-bits.ensures.0 (after c.in_ok-messages.ensures.0 e))))

pub returns-in_err-state : goal.returns-in_err-state
returns-in_err-state c = rw c.from_residual-in_err-state.ensures (λ y rest meant e. absurd (no_word c.in_err-state.ensures.0 (after_two c.in_ok-returned.ensures.0 (after_two c.in_ok-granted.ensures.0 (after c.in_ok-bits.ensures.0 (after c.in_ok-messages.ensures.0 e))))))

pub returns-in_err-fate : goal.returns-in_err-fate
returns-in_err-fate c = rw c.from_residual-in_err-fate.ensures (λ y rest meant e. c.in_err-fate.ensures y.fate meant.fate (front c.in_ok-state.ensures (after_two c.in_ok-returned.ensures.0 (after_two c.in_ok-granted.ensures.0 (after c.in_ok-bits.ensures.0 (after c.in_ok-messages.ensures.0 e))))))
