use Rattle.host_pairs.specs.Entries.{sends_on}
use Rattle.host_pairs.proofs.EntryLemmas.{found_by_place}
use Rattle.host_pairs.proofs.ends.sender_place.Goals as goal

pub returns-clause-found : goal.returns-clause-found
returns-clause-found c = found_by_place (sends_on c.args.link) c.args.entries.now c.first_sender.result c.first_sender.ensures
