use Rattle.std.proofs.Common.{◌≡◌, find}
use Rattle.host_pairs.proofs.LinkLemmas.{is_free}
use Rattle.host_pairs.proofs.ends.behind_ends.Given as goal

-- each link that was passed over has an end
abbrev pub invariant-loop-entry : goal.invariant-loop-entry
invariant-loop-entry l = find (is_free l.entries) l.rest ≡ find (is_free l.entries) l.links
