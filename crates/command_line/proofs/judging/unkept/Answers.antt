use Rattle.std.proofs.Common.{rules}
use Rattle.command_line.proofs.Verdicts.Named.{run_kept}
use Rattle.command_line.proofs.judging.unkept.Goals as goal

pub returns-in-None : goal.returns-in-None
returns-in-None c = run_kept c.args.log.now c.args.stray (search rules) c.requires
