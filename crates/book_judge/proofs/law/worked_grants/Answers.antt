use Rattle.book_judge.proofs.Common.{contains_none}
use Rattle.book_judge.proofs.law.worked_grants.Goals as goal

pub returns-clause-broken : goal.returns-clause-broken
returns-clause-broken c = λ b. c.worked_granted.ensures.sent b.grants.crossed

pub returns-clause-here : goal.returns-clause-here
returns-clause-here c = (
  (
    record { taken = λ x there r. absurd (contains_none x there); sent = λ x y there other m. absurd (contains_none x there) },
    λ x link there sending named. absurd (contains_none x there),
  ),
  λ first. c.worked_granted.ensures.sent first.1,
)
