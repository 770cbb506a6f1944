use Rattle.std.proofs.Common.{◌≡◌, ◌++◌, take, drop, map}
use Rattle.host_pairs.specs.Entries.{must_close, closed_when}
use Rattle.host_pairs.proofs.ends.close.Given as goal

abbrev pub invariant-loop-entry : goal.invariant-loop-entry
invariant-loop-entry l = take l.entry-index l.entries ++ map (λ e. closed_when (must_close l.busy e) e) (drop l.entry-index l.entries) ≡ map (λ e. closed_when (must_close l.busy e) e) l.fn.entries
