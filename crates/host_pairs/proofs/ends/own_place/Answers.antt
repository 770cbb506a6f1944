use Rattle.host_pairs.specs.Entries.{is_mine_on}
use Rattle.host_pairs.proofs.EntryLemmas.{found_by_place}
use Rattle.host_pairs.proofs.ends.own_place.Goals as goal

pub returns-clause-found : goal.returns-clause-found
returns-clause-found c = found_by_place (is_mine_on c.args.socket) c.args.entries.now c.first_own.result c.first_own.ensures
