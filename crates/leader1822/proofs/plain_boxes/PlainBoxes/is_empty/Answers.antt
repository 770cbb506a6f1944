use Rattle.leader1822.proofs.Common.{◌≡◌, false, subst, rules, AllAnswered, Boxes}
use Rattle.leader1822.proofs.Resting.{all_answered}
use Rattle.leader1822.proofs.plain_boxes.PlainBoxes.is_empty.Goals as goal

pub returns-then-not-has_stopped-clause-answered : goal.returns-then-not-has_stopped-clause-answered
returns-then-not-has_stopped-clause-answered c = λ e.
    let goes : c.self.inside.contents.boxes.stopped ≡ false = search rules in
    subst (λ (b : Boxes). AllAnswered b) c.self.view_is (all_answered c.self.inside.contents.boxes (c.self.invariant.sound.matches goes) (c.is_empty.ensures e))
