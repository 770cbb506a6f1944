use Rattle.book_log.proofs.Cuts.{first_cut, only_word}
use Rattle.book_log.proofs.words.first_word.Goals as goal

pub returns-in-Some : goal.returns-in-Some
returns-in-Some c = first_cut c.args.text.now c.in-Some.word.now c.in-Some.more.now c.in-Some.ensures.0 c.in-Some.ensures.1

pub returns-in-None : goal.returns-in-None
returns-in-None c = only_word c.args.text.now c.in-None.ensures
