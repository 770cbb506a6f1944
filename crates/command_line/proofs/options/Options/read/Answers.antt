use Rattle.std.proofs.Common.{map, ap, ◌∙◌, subst, List, ℕ}
use Rattle.command_line.specs.Options.{Asked, options_of}
use Rattle.command_line.proofs.options.Options.read.Goals as goal

pub returns : goal.returns
returns c =
    subst (λ (texts : List (List ℕ)). Asked (options_of texts) c.read_texts.result) (ap (map (λ word. word.now)) c.deref.ensures.value ∙ c.in_ok-texts.ensures) c.read_texts.ensures
