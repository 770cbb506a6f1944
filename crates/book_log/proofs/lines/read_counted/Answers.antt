use Rattle.book_log.specs.Steps.{words_left}
use Rattle.book_log.proofs.Reading.{counted}
use Rattle.book_log.proofs.lines.read_counted.Goals as goal

pub returns : goal.returns
returns c = counted (words_left c.args.words.now) (words_left c.place.new.self) (words_left c.bits.new.self) c.in-Some.count c.bits.result c.in-Some.ensures.0 c.in-Some.ensures.1 c.bits.ensures
