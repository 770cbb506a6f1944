use Rattle.book_log.proofs.Common.{ap, sym, ◌∙◌, firsts-zip, Book, lives_of}
use Rattle.book_log.proofs.book.LoggedBook.lives.Goals as goal

pub returns : goal.returns
returns c = c.deref.ensures.value ∙ sym (firsts-zip c.self.inside.lives.items c.self.inside.fates.items c.self.invariant) ∙ ap (λ (b : Book). lives_of b) c.self.view_is
