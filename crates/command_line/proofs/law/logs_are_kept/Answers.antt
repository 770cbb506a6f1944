use Rattle.command_line.proofs.Verdicts.MixedKept.Kept.{logged_kept}
use Rattle.command_line.proofs.law.logs_are_kept.Goals as goal

pub returns : goal.returns
returns c = logged_kept
