use Rattle.leader1822.proofs.Common.{◌≡◌, ◌≤◌, false, length, drop, list_any, is_rfnm_about}
use Rattle.leader1822.proofs.queues.remove_rfnm.Given as goal

abbrev pub invariant-places : goal.invariant-places
invariant-places l = (l.queue ≡ l.fn.queue) × (l.place ≤ length l.fn.queue.items) × (list_any (is_rfnm_about l.fn.flow) (drop l.place l.fn.queue.items) ≡ false)

abbrev pub decreases-places : goal.decreases-places
decreases-places l = l.place
