use Rattle.std.proofs.Common.{ap, sym, ◌∙◌}
use Rattle.std.specs.FinMap as map
use Rattle.book_judge.proofs.Ends.Keys.{get_key}
use Rattle.book_judge.proofs.fates.key_map.KeyMap.get.Goals as goal

pub returns : goal.returns
returns g c =
    c.copied.ensures ∙ c.get.ensures.value ∙ sym (get_key c.self.inside.keys.entries c.args.key.now)
    ∙ ap (λ m. map.get m c.args.key.now) c.self.view_is
