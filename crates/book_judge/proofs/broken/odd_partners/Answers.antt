use Rattle.std.proofs.Common.{ℕ, Option, subst}
use Rattle.book_judge.specs.Inside.Partners.{FoundOdds}
use Rattle.book_judge.proofs.Peace.{partners_odd, partners_safe}
use Rattle.book_judge.proofs.broken.odd_partners.Goals as goal

pub returns-in-Some : goal.returns-in-Some
returns-in-Some c = λ log are.
    (let P : Option (ℕ × ℕ) → Type 0 = λ o. FoundOdds o c.args.names.now c.args.lives.now in
    partners_odd c.args.names.now c.args.lives.now log (c.in-Some.first, c.in-Some.second) are (subst P c.in-Some.is c.in_ok-first.ensures))

pub returns-in-None : goal.returns-in-None
returns-in-None c = λ log are.
    (let P : Option (ℕ × ℕ) → Type 0 = λ o. FoundOdds o c.args.names.now c.args.lives.now in
    partners_safe c.args.names.now c.args.lives.now log are (subst P c.in-None.is c.in_ok-first.ensures))
