use Rattle.ncp_control.proofs.Readings.{again, short, spelled_by}
use Rattle.ncp_control.proofs.law.commands.Goals as goal

pub returns-clause-again : goal.returns-clause-again
returns-clause-again c = again

pub returns-clause-spelled : goal.returns-clause-spelled
returns-clause-spelled c = λ octets command used small read. (spelled_by octets command used small read).spelled

pub returns-clause-command : goal.returns-clause-command
returns-clause-command c = λ octets command used small read. (spelled_by octets command used small read).command

pub returns-clause-short : goal.returns-clause-short
returns-clause-short c = short
