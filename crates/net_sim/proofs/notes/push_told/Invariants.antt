use Rattle.net_sim.proofs.Common.{◌≡◌, ◌++◌, map, told_at}
use Rattle.net_sim.proofs.notes.push_told.Given as goal

abbrev pub invariant-loop-notice : goal.invariant-loop-notice
invariant-loop-notice l = l.all.items ≡ l.fn.all.items ++ map (told_at l.host l.place) l.yielded
