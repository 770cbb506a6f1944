use Rattle.book_log.proofs.Common.{false≢true, words_left}
use Rattle.book_log.proofs.Reading.{too_long}
use Rattle.book_log.proofs.lines.read_message.Goals as goal

pub returns-in_default-new : goal.returns-in_default-new
returns-in_default-new c =
    let read = rw c.in-Some-2.is at c.in_ok-bits.ensures in
    too_long (words_left c.args.words) (words_left c.flow.new.self) (words_left c.read_counted.new.words) c.in-Some.flow c.in-Some-2.bits c.in-Some.ensures.0 read.0 read.1 (λ le. false≢true (c.in_default-new.ensures.short.1 le))
