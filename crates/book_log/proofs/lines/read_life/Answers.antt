use Rattle.book_log.specs.Steps.{words_left}
use Rattle.book_log.proofs.Reading.{no_counts, no_ends, no_life_bits}
use Rattle.book_log.proofs.lines.read_life.Goals as goal

pub returns-in_default : goal.returns-in_default
returns-in_default c = no_ends (words_left c.args.words) c.in_default.ensures

pub returns-in_default-read_counts : goal.returns-in_default-read_counts
returns-in_default-read_counts c = no_counts (words_left c.args.words) (words_left c.read_ends.new.words) c.in-Some.ends c.in-Some.ensures.0 c.in_default-read_counts.ensures

pub returns-in_default-2 : goal.returns-in_default-2
returns-in_default-2 c = no_life_bits (words_left c.args.words) (words_left c.read_ends.new.words) (words_left c.read_counts.new.words) (words_left c.bits.new.self) c.in-Some.ends c.in-Some-read_counts.counts c.in-Some.ensures.0 c.in-Some-read_counts.ensures.0 c.in-Some-read_counts.ensures.1.bits (rw c.in_default-2.is at c.in_ok-bits.ensures)
