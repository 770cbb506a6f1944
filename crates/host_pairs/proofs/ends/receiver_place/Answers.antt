use Rattle.host_pairs.specs.Entries.{receives_on}
use Rattle.host_pairs.proofs.EntryLemmas.{found_by_place}
use Rattle.host_pairs.proofs.ends.receiver_place.Goals as goal

pub returns-clause-found : goal.returns-clause-found
returns-clause-found c = found_by_place (receives_on c.args.link) c.args.entries.now c.first_receiver.result c.first_receiver.ensures
