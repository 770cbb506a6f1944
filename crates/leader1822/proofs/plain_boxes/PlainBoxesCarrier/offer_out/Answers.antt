use Rattle.leader1822.proofs.Common.{◌≡◌, None, rules, subst, sym, Held, IsKept}
use Rattle.leader1822.specs.Boxes.{offer_refusal}
use Rattle.leader1822.proofs.Sound.{offered_sound}
use Rattle.leader1822.proofs.Index.{offered_indexed}
use Rattle.leader1822.proofs.plain_boxes.PlainBoxesCarrier.offer_out.Goals as goal

pub invariant_of-self : goal.invariant_of-self
invariant_of-self c =
    let h : Held = c.self.inside.contents in
    let kept : IsKept h = c.self.invariant in
    let none : offer_refusal h.boxes c.args.message.flow ≡ None = search rules in
    subst IsKept (sym (c.in-Ok.ensures.ok)) (record { sound = offered_sound h.boxes c.args.message kept.sound none; indexed = λ running. offered_indexed h c.args.message (kept.indexed running) none c.offer.ensures.named })
