use Rattle.std.proofs.Common.{◌≡◌, length}
use Rattle.imp_node.specs.Stopping.{all_handed}
use Rattle.imp_node.proofs.stopping.hand_all.Given as goal

-- the flows of the answers that are left, after those of the answers so far
abbrev pub invariant-answers : goal.invariant-answers
invariant-answers l = all_handed l.answers.items l.sources ≡ all_handed l.fn.answers.items l.fn.sources

abbrev pub decreases-answers : goal.decreases-answers
decreases-answers l = length l.answers.items
