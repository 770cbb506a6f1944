use Rattle.book_log.proofs.Common.{◌==◌, List, ap, length, ◌∙◌, Life}
use Rattle.book_log.proofs.Books.{bare_lives}
use Rattle.book_log.proofs.book.LoggedBook.has_no_life.Goals as goal

pub returns : goal.returns
returns c = c.is_empty.ensures ∙ ap (λ (xs : List Life). length xs == 0) c.lives.ensures ∙ bare_lives c.args.self.now.lives
