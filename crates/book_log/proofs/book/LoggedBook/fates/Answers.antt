use Rattle.book_log.proofs.Common.{ap, sym, ◌∙◌, seconds-zip, Book, fates_of}
use Rattle.book_log.proofs.book.LoggedBook.fates.Goals as goal

pub returns : goal.returns
returns c = c.deref.ensures.value ∙ sym (seconds-zip c.self.inside.lives.items c.self.inside.fates.items c.self.invariant) ∙ ap (λ (b : Book). fates_of b) c.self.view_is
