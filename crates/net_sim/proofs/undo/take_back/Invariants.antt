use Rattle.net_sim.proofs.Common.{◌≡◌, length, all_undone}
use Rattle.net_sim.proofs.Books.Undoing.{state}
use Rattle.net_sim.proofs.undo.take_back.Given as goal

-- what is left to take back leads to what all of it leads to
abbrev pub invariant-steps : goal.invariant-steps
invariant-steps l = all_undone l.done.items (state l.lives.items l.handed.items l.fates.items) ≡ all_undone l.fn.done.items (state l.fn.lives.items l.fn.handed.items l.fn.fates.items)

abbrev pub decreases-steps : goal.decreases-steps
decreases-steps l = length l.done.items
