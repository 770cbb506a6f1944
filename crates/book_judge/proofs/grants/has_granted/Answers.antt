use Rattle.std.proofs.Common.{◌∙◌, sym, rules}
use Rattle.book_judge.proofs.FirstLives.Fed.{granted_by}
use Rattle.book_judge.proofs.FirstLives.Shown.{shown_granted}
use Rattle.book_judge.proofs.grants.has_granted.Goals as goal

pub returns-then-is_shown : goal.returns-then-is_shown
returns-then-is_shown c = shown_granted c.args.asked.now c.args.life.now c.args.names.now c.args.lives.now c.args.earlier
    (sym c.is_shown.ensures ∙ c.if-is_shown.true) c.requires.earlier (search rules)

pub returns : goal.returns
returns c = granted_by c.is_found.result c.args.asked.now c.args.life.now c.args.names.now c.args.lives.now c.is_found.ensures
    (sym c.receives.ensures ∙ c.if-not-receives.false) (search rules)
