use Rattle.std.proofs.Common.{◌≡◌, ◌+◌, drop}
use Rattle.command_line.specs.Audits.{place_in}
use Rattle.command_line.proofs.layout.place_in.Given as goal

-- the place among those that are left, after these
abbrev pub invariant-loop-at : goal.invariant-loop-at
invariant-loop-at l = place_in l.counted l.place ≡ l.at + place_in (drop l.at l.counted) l.left
