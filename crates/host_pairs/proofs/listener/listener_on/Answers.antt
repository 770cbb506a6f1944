use Rattle.std.proofs.Common.{rules, sym}
use Rattle.host_pairs.proofs.ListenerLemmas.{none_listens}
use Rattle.host_pairs.proofs.listener.listener_on.Goals as goal

pub returns-then-not-listens_on : goal.returns-then-not-listens_on
returns-then-not-listens_on c = sym (none_listens c.args.socket c.args.listening.now (search rules))
