use Rattle.std.proofs.Common.{ap, ◌∙◌}
use Rattle.std.specs.FinMap as map
use Rattle.book_judge.proofs.Ends.Keys.{key_set}
use Rattle.book_judge.proofs.fates.key_map.KeyMap.set.Goals as goal

pub returns : goal.returns
returns g c =
    key_set c.self.inside.keys.entries c.insert.new.self.entries c.args.key c.args.value
    c.in_ok-insert.ensures.updates.0
    ∙ ap (λ m. map.insert m c.args.key c.args.value) c.self.view_is
