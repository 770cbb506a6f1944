use Rattle.leader1822.proofs.Common.{Boxes, host_refusal, next_for, inbound_taken, seen_of, Held, IsKept}
use Rattle.std.proofs.Common.{◌≡◌, None, Ok, rules, subst, sym, ap, ◌∙◌}
use Rattle.interface.specs.Calls.{ShowsTake}
use Rattle.leader1822.proofs.SoundCalls.{shows_taking}
use Rattle.leader1822.proofs.Index.{taken_kept, same_boxes}
use Rattle.leader1822.proofs.plain_boxes.PlainBoxesCarrier.take_in.Goals as goal

pub invariant_of-self : goal.invariant_of-self
invariant_of-self c =
    let h : Held = c.self.inside.contents in
    let kept : IsKept h = c.self.invariant in
    let none : host_refusal h.boxes c.args.host ≡ None = search rules in
    subst IsKept (sym (c.in-Ok.ensures.ok)) (taken_kept h c.args.host kept none)

pub returns-clause-shown : goal.returns-clause-shown
returns-clause-shown c =
    let h : Held = c.self.inside.contents in
    let kept : IsKept h = c.self.invariant in
    let none : host_refusal h.boxes c.args.host ≡ None = search rules in
    let next : c.in-Ok.inbound ≡ next_for h.boxes c.args.host = c.in-Ok.ensures.next in
    let new : c.take.new.self.boxes ≡ inbound_taken h.boxes c.args.host c.in-Ok.inbound =
    ap (λ (x : Held). x.boxes) c.in-Ok.ensures.ok ∙ same_boxes h c.args.host (next_for h.boxes c.args.host) ∙ ap (inbound_taken h.boxes c.args.host) (sym next) in
    let F : Boxes → Type 0 = λ x. ShowsTake (seen_of x) c.args.host (Ok c.in-Ok.inbound) (seen_of c.take.new.self.boxes) in
    subst F c.self.view_is (shows_taking h.boxes c.take.new.self.boxes c.args.host c.in-Ok.inbound kept.sound none next new)
