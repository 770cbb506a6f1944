use Rattle.book_log.proofs.Common.{◌≡◌, false, take, All, zip, Appends, Fate, Life, text_of}
use Rattle.book_log.specs.Log.{IsLife, life_line}
use Rattle.book_log.proofs.print.print_lives.Given as goal

abbrev pub invariant-loop-place : goal.invariant-loop-place
invariant-loop-place g l =
    Appends (g.W.Output.contents l.fn.writer) (g.W.Output.contents l.writer) (text_of life_line (take l.place (zip l.lives l.fates))) × (g.W.Output.failed l.writer ≡ false)
    × All (λ (p : Life × Fate). IsLife p.0) (take l.place (zip l.lives l.fates))
