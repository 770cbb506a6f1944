use Rattle.script.proofs.Common.{list_all, is_upper_digit}
use Rattle.std.proofs.Common.{◌&&◌, Bool, take, sym, ap, ◌∙◌}
use Rattle.std.proofs.lemmas.List.Folds.{list_all_more}
use Rattle.script.proofs.hexadecimal.has_upper_digits.Goals as goal

pub loop-octet-preserved : goal.loop-octet-preserved
loop-octet-preserved c =
    ap (λ (b : Bool). b && c.is_upper_digit-all.result) c.loop-octet.invariant
    ∙ ap (λ (b : Bool). list_all is_upper_digit (take c.loop-octet.octet-index c.args.word.now) && b) c.is_upper_digit-all.ensures
    ∙ sym (list_all_more is_upper_digit c.args.word.now c.loop-octet.octet-index 0 c.loop-octet-test.true)
