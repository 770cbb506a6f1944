use Rattle.trace.proofs.Common.{◌≡◌, ◌∙◌, ◌+◌, ◌<◌, [], ap, arith, drop, length, sym, List, ℕ, slice_index_or, changed, extended}
use Rattle.trace.proofs.Changes.Changing.{member_added, member_left_out, text_there}
use Rattle.trace.proofs.members.Members.add_changed.Goals.{then-not-is_at+in_ok-text, else-not-is_at}
use Rattle.trace.proofs.members.Members.add_changed.Goals as goal

pub loop-place-preserved : goal.loop-place-preserved
loop-place-preserved c =
    let before : List (List ℕ) = c.args.before.now in
    let now : List (List ℕ) = c.args.self.now in
    let i : ℕ = c.loop-place.place in
    let member : List ℕ = c.as_slice-member.result.now in
    let whole : List ℕ = extended c.args.object.items (changed before now) in
    let within : i < length now = omega (arith, c.loop-place-test.true, c.loop-place.invariant.0) in
    let there : slice_index_or now i [] ≡ member = text_there
    (λ t. t.items) c.self.inside.texts.items now i c.index.result.now (sym c.self.view_is) within c.index.ensures
    ∙ sym c.as_slice-member.ensures.value in
    elim c.if-not-is_at.branch [
      | then-not-is_at+in_ok-text w ↦ (
        c.loop-place.invariant.0,
        member_added before now i member c.loop-place.text.items c.if-not-is_at.text.items whole within there
            (sym c.is_at.ensures ∙ w.if-not-is_at.true)
            (ap (λ t. t.items) w.text-is ∙ w.in_ok-text.ensures) c.loop-place.invariant.1,
      )
      | else-not-is_at w ↦ (
        c.loop-place.invariant.0,
        ap (λ t. extended t.items (changed (drop (i + 1) before) (drop (i + 1) now))) w.text-is
            ∙ member_left_out before now i member c.loop-place.text.items whole within there
            (sym c.is_at.ensures ∙ w.if-not-is_at.false) c.loop-place.invariant.1,
      )
    ]
