use Rattle.book_judge.proofs.Common.{Option, ap, sym, ◌∙◌, suits_after, Pace, suits_begun, changes_in, owes_never}
use Rattle.book_judge.specs.Inside.Begins.{place_at}
use Rattle.book_judge.proofs.fates.Courses.suits.Goals as goal

pub returns-in-Some : goal.returns-in-Some
returns-in-Some c = λ deeds h.
    c.suits_known.ensures (place_at (changes_in owes_never deeds))
    ∙ ap (λ (o : Option Pace). suits_begun o c.in-Some.fate) (c.known.ensures deeds h)
    ∙ ap (suits_after deeds c.args.life.now) (sym c.in-Some.is)
