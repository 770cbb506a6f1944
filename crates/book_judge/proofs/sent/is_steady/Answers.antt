use Rattle.book_judge.proofs.Common.{Option, refl, subst, ArrivalOf, Arrival}
use Rattle.book_judge.proofs.Crossed.Numbered.{steady_told}
use Rattle.book_judge.proofs.sent.is_steady.Goals as goal

pub returns-in-Some : goal.returns-in-Some
returns-in-Some c = λ log arrive.
    steady_told c.args.flow.now log c.args.first c.args.number c.in-Some.arrival _
    (subst (λ (o : Option Arrival). ArrivalOf c.args.flow.now log c.args.number o) c.in-Some.is
    (c.arrival_of.ensures log arrive.0 arrive.1)) refl
