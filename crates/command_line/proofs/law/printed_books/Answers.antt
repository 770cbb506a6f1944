use Rattle.command_line.proofs.Replayed.AmongPrinted.{printed, printed_in_part}
use Rattle.command_line.proofs.law.printed_books.Goals as goal

pub returns-clause-whole : goal.returns-clause-whole
returns-clause-whole c = printed

pub returns-clause-part : goal.returns-clause-part
returns-clause-part c = printed_in_part
