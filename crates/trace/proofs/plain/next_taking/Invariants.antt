use Rattle.std.proofs.Common.{◌≡◌, drop, length}
use Rattle.trace.specs.Elements.{from_boxes, round_left, takings_from}
use Rattle.trace.proofs.plain.next_taking.Given as goal

-- nothing was left for the hosts so far
abbrev pub invariant-loop-place : goal.invariant-loop-place
invariant-loop-place l =
    (l.place-end ≡ length l.hosts) × (takings_from from_boxes l.turn.round (drop l.place l.boxes.hosts) l.times l.boxes ≡ round_left l.boxes l.turn)
