use Rattle.trace.proofs.Common.{◌+◌, OnlyReached, all_members}
use Rattle.trace.proofs.Changes.Putting.{PutSoFar}
use Rattle.trace.proofs.Changes.Reached.{waiting_left}
use Rattle.trace.proofs.parts.change.Given as goal

-- the hosts that are down and what waits for the hosts so far is put in its place
abbrev pub invariant-loop-index : goal.invariant-loop-index
invariant-loop-index l =
    (r : OnlyReached l.fn.known l.event l.crossings l.boxes)
    × PutSoFar l.fn.known (all_members l.boxes) (l.index + 1) l.known l.text.items (waiting_left r.old l.hosts l.index) (waiting_left l.boxes l.hosts l.index)
