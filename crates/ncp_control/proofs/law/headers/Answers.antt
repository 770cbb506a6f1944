use Rattle.ncp_control.proofs.Headers.{header_again, header_spelled}
use Rattle.ncp_control.proofs.law.headers.Goals as goal

pub returns-clause-again : goal.returns-clause-again
returns-clause-again c = header_again

pub returns-clause-spelled : goal.returns-clause-spelled
returns-clause-spelled c = header_spelled
