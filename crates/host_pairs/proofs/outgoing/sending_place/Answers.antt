use Rattle.host_pairs.specs.Parcels.{may_send_on}
use Rattle.host_pairs.proofs.EntryLemmas.{found_by_place}
use Rattle.host_pairs.proofs.outgoing.sending_place.Goals as goal

pub returns-clause-found : goal.returns-clause-found
returns-clause-found c = found_by_place (may_send_on c.args.busy.now c.args.link) c.args.entries.now c.first_sending.result c.first_sending.ensures
