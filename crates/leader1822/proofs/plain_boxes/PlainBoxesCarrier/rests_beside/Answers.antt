use Rattle.leader1822.proofs.Common.{◌≡◌, false, subst, rules, Boxes, BoxesRound, BoxesTake}
use Rattle.interface.specs.Rest.{RestsBeside}
use Rattle.leader1822.proofs.Resting.{boxes_rest}
use Rattle.leader1822.proofs.plain_boxes.PlainBoxesCarrier.rests_beside.Goals as goal

pub returns-then-not-has_stopped-clause-unchanged : goal.returns-then-not-has_stopped-clause-unchanged
returns-then-not-has_stopped-clause-unchanged c = λ e.
    let goes : c.self.inside.contents.boxes.stopped ≡ false = search rules in
    subst (λ (b : Boxes). RestsBeside BoxesRound BoxesTake c.args.hosts.now b) c.self.view_is
    (boxes_rest c.self.inside.contents.boxes c.args.hosts.now goes (c.is_empty_beside.ensures e))
