use Rattle.std.proofs.Common.{◌≡◌, ◌≤◌, ◌++◌, drop, filter, length}
use Rattle.std.specs.List.{flat_map}
use Rattle.host_pairs.specs.Entries.{is_over, ending}
use Rattle.host_pairs.proofs.ends.tell_endings.Given as goal

abbrev pub invariant-loop-entry : goal.invariant-loop-entry
invariant-loop-entry l =
    (l.notices.items ++ flat_map (ending l.peer) (filter is_over (drop l.entry-index l.entries)) ≡ l.fn.notices.items ++ flat_map (ending l.peer) (filter is_over l.entries))
    × (length l.fn.notices.items ≤ length l.notices.items)
