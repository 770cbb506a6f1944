use Rattle.book_judge.specs.Inside.Partners.{ApartFrom}
use Rattle.book_judge.proofs.partners.odds_with.Given as goal

abbrev pub invariant-loop-first : goal.invariant-loop-first
invariant-loop-first l = ApartFrom l.first l.second l.names l.lives
