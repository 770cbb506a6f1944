use Rattle.subnet_trace.proofs.Common.{◌≡◌, ◌≤◌, ◌+◌, length, all_parts, parts_members, IsOnlyIn}
use Rattle.trace.proofs.lemmas.{PutSoFar}
use Rattle.subnet_trace.proofs.AllMembers.{imps_left, lines_left}
use Rattle.subnet_trace.proofs.parts.change_fixed.Given as goal

-- the IMPs so far are put in their places
abbrev pub invariant-loop-number : goal.invariant-loop-number
invariant-loop-number l =
    (r : IsOnlyIn l.scope l.fn.known l.subnet.net) × (l.number-end ≡ length l.subnet.net.imps) × (l.place ≤ l.number)
    × PutSoFar l.fn.known (parts_members l.subnet.net (all_parts l.subnet.net)) l.place l.known l.text.items (imps_left r.0 l.number) (imps_left l.subnet.net l.number)

-- and the lines
abbrev pub invariant-loop-number-2 : goal.invariant-loop-number-2
invariant-loop-number-2 l =
    (r : IsOnlyIn l.scope l.fn.known l.subnet.net) × (l.number-end ≡ length l.subnet.net.lines) × (l.place ≤ 255 + l.number)
    × PutSoFar l.fn.known (parts_members l.subnet.net (all_parts l.subnet.net)) l.place l.known l.text.items (lines_left r.0 l.number) (lines_left l.subnet.net l.number)
