use Rattle.book_log.proofs.Common.{◌≡◌, codes, rules, words_left}
use Rattle.book_log.proofs.Keywords.{no_short_operand}
use Rattle.book_log.proofs.lines.read_short.Goals as goal

pub returns-in_err-answer : goal.returns-in_err-answer
returns-in_err-answer c =
    let is : c.args.first.now ≡ codes "answer" = search rules in
    rw c.from_residual.ensures (no_short_operand (codes "answer") c.args.first.now (words_left c.args.words) is (λ z meant. c.in_err-answer.ensures z meant))
