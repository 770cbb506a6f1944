use Rattle.host_pairs.specs.Commands.{granted}
use Rattle.host_pairs.specs.Asked as asked
use Rattle.sockets.specs.Requests as requests
use Rattle.sockets.proofs.CallLemmas.{ended}
use Rattle.ncp_control.specs.declared.command.Command.TheVariants as command
use Rattle.std.proofs.Common.{ℕ}
use Rattle.host_pairs.specs.Pair.{PairState}
use Rattle.sockets.proofs.ncp.Ncp.grant.Goals as goal

pub returns-clause-served : goal.returns-clause-served
unfolding requests.served requests.served_notices
returns-clause-served c = λ none. ended c.grant_more-done.result c.end.result c.grant_more-done.new.self c.end.new.self _ _ c.grant_more-done.ensures (c.in_ok-peer.ensures.1 (λ (link : ℕ) (q : PairState). asked.commanded (command.All link c.args.messages c.args.bits) (asked.with_end c.args.socket (granted c.args.messages c.args.bits) q))) c.end.ensures
