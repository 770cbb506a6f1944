use Rattle.std.proofs.Common.{◌≡◌, drop, filter}
use Rattle.host_pairs.specs.Parcels.{lowest_link, may_send}
use Rattle.host_pairs.proofs.SendingLemmas.{lower_of}
use Rattle.host_pairs.proofs.outgoing.lowest_link.Given as goal

-- the lowest link so far, and that of the rest
abbrev pub invariant-loop-entry : goal.invariant-loop-entry
invariant-loop-entry l = lower_of l.lowest (lowest_link (filter (may_send l.busy) (drop l.entry-index l.entries))) ≡ lowest_link (filter (may_send l.busy) l.entries)
