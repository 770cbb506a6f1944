use Rattle.command_line.proofs.Joins.{print_the_same, tell_the_same}
use Rattle.command_line.proofs.law.one_replay.Goals as goal

pub returns : goal.returns
returns c = record {
  options = print_the_same;
  log = tell_the_same;
}
