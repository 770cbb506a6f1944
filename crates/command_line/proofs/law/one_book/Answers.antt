use Rattle.command_line.proofs.Printed.{joined_in}
use Rattle.command_line.proofs.law.one_book.Goals as goal

pub returns : goal.returns
returns c = record {
  formed = λ raw shown lives h. h.formed;
  told = λ shown lives h. h.told;
  safe = λ raw shown lives h. (h.handed, h.safe);
  joined = joined_in;
  run = λ raw shown lives h. (h.hosts, h.run);
  lived = λ raw shown lives h. h.lived;
}
