use Rattle.trace.proofs.Common.{◌++◌, ◌∙◌, List, ℕ, ap, slice_set, map-set}
use Rattle.trace.proofs.members.Members.set.Goals as goal

pub returns : goal.returns
returns c =
    map-set (λ t. t.items) c.self.inside.texts.items c.args.place c.extend_from_slice.new.self
    ∙ ap (λ (ts : List (List ℕ)). slice_set ts c.args.place c.extend_from_slice.new.self.items) c.self.view_is
    ∙ ap (λ (x : List ℕ). slice_set c.args.self.now c.args.place x) (c.in_ok-extend_from_slice.ensures.items ∙ ap (λ (xs : List ℕ). xs ++ c.args.text.now) c.clear.ensures.items)
