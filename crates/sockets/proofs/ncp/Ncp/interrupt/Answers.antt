use Rattle.host_pairs.specs.Asked as asked
use Rattle.sockets.specs.Requests as requests
use Rattle.sockets.proofs.CallLemmas.{ended}
use Rattle.ncp_control.specs.declared.command.Command.{Command}
use Rattle.sockets.proofs.ncp.Ncp.interrupt.Goals as goal

pub returns-clause-served : goal.returns-clause-served
unfolding requests.served requests.served_notices
returns-clause-served c = λ none. ended c.command-done.result c.end.result c.command-done.new.self c.end.new.self _ _ c.command-done.ensures (c.in_ok-peer.ensures.checked.1 (λ (what : Command). asked.commanded what)) c.end.ensures
