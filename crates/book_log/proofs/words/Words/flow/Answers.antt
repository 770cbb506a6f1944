use Rattle.std.proofs.Common.{drop, ◌++◌}
use Rattle.book_log.specs.Steps.{flow_words}
use Rattle.book_log.proofs.Cuts.{after}
use Rattle.book_log.proofs.words.Words.flow.Goals as goal

pub returns-in_err-destination : goal.returns-in_err-destination
returns-in_err-destination c = rw c.from_residual-in_err-destination.ensures (λ y rest meant e. c.in_err-destination.ensures y.destination (drop 2 (flow_words y ++ rest)) meant.1 (after c.in_ok-source.ensures.0 e))

pub returns-in_err-octet : goal.returns-in_err-octet
returns-in_err-octet c = rw c.from_residual-in_err-octet.ensures (λ y rest meant e. c.in_err-octet.ensures y.link.0 (drop 3 (flow_words y ++ rest)) meant.2 (after c.in_ok-destination.ensures.0 (after c.in_ok-source.ensures.0 e)))
