use Rattle.host_pairs.specs.Entries.{is_at}
use Rattle.host_pairs.proofs.EntryLemmas.{found_by_place}
use Rattle.host_pairs.proofs.held.Ends.place.Goals as goal

pub returns-clause-found : goal.returns-clause-found
returns-clause-found c = found_by_place (is_at c.args.own c.args.foreign) c.args.self.now c.first_place.result c.first_place.ensures
