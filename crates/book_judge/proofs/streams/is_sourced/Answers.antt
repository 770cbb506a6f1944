use Rattle.std.proofs.Common.{◌∙◌, Bool, List, ap, length, sym}
use Rattle.book_judge.proofs.FirstLives.Fed.{sourced_by}
use Rattle.book_judge.proofs.streams.is_sourced.Goals as goal

pub returns : goal.returns
returns c = sourced_by c.is_found.result c.args.asked.now c.args.life.now c.args.names.now c.args.lives.now c.is_found.ensures
    (sym c.receives.ensures ∙ c.if-not-receives.false) (λ e. c.if-len-eq0.false (c.len.ensures ∙ ap (λ (zs : List Bool). length zs) e))
