use Rattle.std.proofs.Common.{◌∙◌}
use Rattle.host_pairs.proofs.EntryLemmas.{found_some}
use Rattle.host_pairs.proofs.requests.has_end.Goals as goal

pub returns : goal.returns
returns c =
    c.is_some.ensures ∙ found_some c.args.own c.args.foreign c.args.entries.now c.place.result c.place.ensures.found
