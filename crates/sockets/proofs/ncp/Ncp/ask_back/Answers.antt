use Rattle.host_pairs.specs.Asked as asked
use Rattle.sockets.specs.Requests as requests
use Rattle.sockets.proofs.CallLemmas.{ended}
use Rattle.ncp_control.specs.declared.command.Command.TheVariants as command
use Rattle.std.proofs.Common.{ℕ}
use Rattle.sockets.proofs.ncp.Ncp.ask_back.Goals as goal

pub returns-clause-served : goal.returns-clause-served
unfolding requests.served requests.served_notices
returns-clause-served c = λ none. ended c.command-done.result c.end.result c.command-done.new.self c.end.new.self _ _ c.command-done.ensures (c.in_ok-peer.ensures.1 (λ (link : ℕ). asked.commanded (command.Gvb link c.args.messages c.args.bits))) c.end.ensures
