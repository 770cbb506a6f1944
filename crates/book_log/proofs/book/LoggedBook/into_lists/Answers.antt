use Rattle.book_log.proofs.Common.{ap, sym, ◌∙◌, firsts-zip, seconds-zip, Book, fates_of, lives_of}
use Rattle.book_log.proofs.book.LoggedBook.into_lists.Goals as goal

pub returns-clause-lives : goal.returns-clause-lives
returns-clause-lives c =
    sym (firsts-zip c.self.inside.lives.items c.self.inside.fates.items c.self.invariant)
    ∙ ap (λ (b : Book). lives_of b) c.self.view_is

pub returns-clause-fates : goal.returns-clause-fates
returns-clause-fates c =
    sym (seconds-zip c.self.inside.lives.items c.self.inside.fates.items c.self.invariant)
    ∙ ap (λ (b : Book). fates_of b) c.self.view_is
