use Rattle.trace.proofs.Common.{◌≡◌, ◌++◌, drop, map, Waiting, all_members, parts_members}
use Rattle.trace.proofs.parts.all_members.Given as goal

-- with those of the hosts that are left they are all
abbrev pub invariant-loop-host : goal.invariant-loop-host
invariant-loop-host l = l.members ++ parts_members l.boxes (map (λ h. Waiting h) (drop l.host-index l.host-items)) ≡ all_members l.boxes
