use Rattle.book_judge.proofs.Common.{SoughtAt}
use Rattle.book_judge.specs.Inside.Asked.{key}
use Rattle.book_judge.proofs.Identities.Walks.{HasWalked, left_at}
use Rattle.book_judge.proofs.sought.is_found.Given as goal

abbrev pub invariant-chain : goal.invariant-chain
invariant-chain l = HasWalked (key l.asked) l.lives (SoughtAt l.sought l.asked l.life l.names l.lives) l.at

abbrev pub decreases-chain : goal.decreases-chain
decreases-chain l = left_at l.at
