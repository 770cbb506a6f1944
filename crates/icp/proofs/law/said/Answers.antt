use Rattle.icp.proofs.SocketLemmas.{said_again}
use Rattle.icp.proofs.law.said.Goals as goal

pub returns : goal.returns
returns c = said_again
