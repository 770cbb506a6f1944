use Rattle.std.proofs.Common.{ap, ◌∙◌}
use Rattle.std.specs.FinMap as map
use Rattle.book_judge.proofs.Identities.Placed.{place_set}
use Rattle.book_judge.proofs.places.Places.set.Goals as goal

pub returns : goal.returns
returns c =
    place_set c.self.inside.places.entries c.insert.new.self.entries c.args.key c.args.place c.in_ok-insert.ensures.updates.0
    ∙ ap (λ m. map.insert m c.args.key c.args.place) c.self.view_is
