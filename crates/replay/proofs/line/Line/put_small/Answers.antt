use Rattle.std.proofs.Common.{ℕ, List, ◌++◌, ap, sym, ◌∙◌}
use Rattle.std.proofs.lemmas.Fmt.{decimal_digit}
use Rattle.replay.proofs.line.Line.put_small.Goals as goal

pub returns-then-number-lt10-clause-text : goal.returns-then-number-lt10-clause-text
returns-then-number-lt10-clause-text c = c.put_octet.ensures.text ∙ ap (λ (ds : List ℕ). ds ++ c.args.self.now) (sym (decimal_digit c.args.number c.if-number-lt10.true))
