use Rattle.std.proofs.Common.{◌≡◌, ◌≤◌, ◌++◌, drop, map, filter, length}
use Rattle.host_pairs.specs.Entries.{must_close, cls_of}
use Rattle.host_pairs.proofs.ends.queue_closings.Given as goal

abbrev pub invariant-loop-entry : goal.invariant-loop-entry
invariant-loop-entry l =
    (l.queue ++ map cls_of (filter (must_close l.busy) (drop l.entry-index l.entries)) ≡ l.fn.queue ++ map cls_of (filter (must_close l.busy) l.entries))
    × (length l.fn.queue ≤ length l.queue)
