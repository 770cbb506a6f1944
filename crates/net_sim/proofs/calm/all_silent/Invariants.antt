use Rattle.std.proofs.Common.{ℕ, ◌<◌}
use Rattle.net_sim.specs.Silent.{IsSilentAt}
use Rattle.net_sim.proofs.calm.all_silent.Given as goal

-- the hosts so far
abbrev pub invariant-loop-at : goal.invariant-loop-at
invariant-loop-at l = (at : ℕ) → at < l.at → IsSilentAt l.seats at
