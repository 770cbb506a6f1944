use Rattle.std.proofs.Common.{◌≡◌, length}
use Rattle.leader1822.specs.Inside.Held.{cleared}
use Rattle.leader1822.proofs.contents.forget_all.Given as goal

abbrev pub invariant-answers : goal.invariant-answers
invariant-answers l = cleared l.flows l.answers.items ≡ cleared l.fn.flows l.fn.answers.items

abbrev pub decreases-answers : goal.decreases-answers
decreases-answers l = length l.answers.items
