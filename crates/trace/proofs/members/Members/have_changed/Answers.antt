use Rattle.trace.proofs.Common.{◌≡◌, ◌∙◌, ◌<◌, [], arith, length, sym, slice_index_or}
use Rattle.trace.proofs.Changes.Changing.{next_same, some_changed, text_there}
use Rattle.trace.proofs.members.Members.have_changed.Goals as goal

pub returns-then-not-is_at : goal.returns-then-not-is_at
returns-then-not-is_at c =
    let now = c.args.self.now in
    let i = c.loop-place.place in
    let within : i < length now = omega (arith, c.loop-place-test.true, c.loop-place.invariant.0) in
    let there : slice_index_or now i [] ≡ c.as_slice.result.now =
    text_there (λ t. t.items) c.self.inside.texts.items now i c.index.result.now (sym c.self.view_is) within c.index.ensures ∙ sym c.as_slice.ensures.value in
    some_changed c.args.before.now now i c.as_slice.result.now within there (sym c.is_at.ensures ∙ c.if-not-is_at.true) c.loop-place.invariant.1

pub loop-place-preserved : goal.loop-place-preserved
loop-place-preserved c =
    let now = c.args.self.now in
    let i = c.loop-place.place in
    let within : i < length now = omega (arith, c.loop-place-test.true, c.loop-place.invariant.0) in
    let there : slice_index_or now i [] ≡ c.as_slice.result.now =
    text_there (λ t. t.items) c.self.inside.texts.items now i c.index.result.now (sym c.self.view_is) within c.index.ensures ∙ sym c.as_slice.ensures.value in
    (c.loop-place.invariant.0, next_same c.args.before.now now i c.as_slice.result.now within there (sym c.is_at.ensures ∙ c.if-not-is_at.false) c.loop-place.invariant.1)
