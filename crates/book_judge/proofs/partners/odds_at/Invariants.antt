use Rattle.book_judge.specs.Inside.Partners.{AllApart, AreKnown}
use Rattle.book_judge.proofs.partners.odds_at.Given as goal

abbrev pub invariant-loop-second : goal.invariant-loop-second
invariant-loop-second l = AreKnown l.second l.owns l.partners l.names l.lives × AllApart l.second l.names l.lives
