use Rattle.book_log.proofs.Numbers.{fewer}
use Rattle.book_log.proofs.words.read_place.Goals as goal

pub returns : goal.returns
returns c = rw c.ok.ensures.value (fewer c.args.word.now c.in_ok-number.number c.try_from.result c.in_ok-number.ensures.0 c.in_ok-number.ensures.1 c.try_from.ensures)
