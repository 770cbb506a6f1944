use Rattle.std.proofs.Common.{rules}
use Rattle.host_pairs.proofs.FoundLemmas.{for_found}
use Rattle.host_pairs.proofs.found.receiver_on.Goals as goal

pub returns-in-Some : goal.returns-in-Some
returns-in-Some c = for_found c.args.entries.now c.in-Some.at c.found_at.result _ (search rules) c.in-Some.ensures.found c.found_at.ensures
