use Rattle.std.proofs.Common.{ap, sym, ◌∙◌}
use Rattle.std.specs.FinMap as map
use Rattle.book_judge.proofs.Identities.Placed.{get_place}
use Rattle.book_judge.proofs.places.Places.get.Goals as goal

pub returns : goal.returns
returns c = c.copied.ensures ∙ c.get.ensures.value ∙ sym (get_place c.self.inside.places.entries c.args.key) ∙ ap (λ m. map.get m c.args.key) c.self.view_is
