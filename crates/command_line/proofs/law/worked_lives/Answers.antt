use Rattle.command_line.proofs.Printed.{another_book, without_the_last}
use Rattle.command_line.proofs.law.worked_lives.Goals as goal

pub returns : goal.returns
returns c = record {
  another_book = another_book;
  without_the_last = without_the_last;
}
