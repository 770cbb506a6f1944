use Rattle.net_sim.proofs.Common.{◌≡◌, Bool, List, drop, turns, GoesBack}
use Rattle.net_sim.specs.Inside.Endings.{turned}
use Rattle.net_sim.proofs.Books.Turned.{fates_at}
use Rattle.net_sim.proofs.Books.Undoing.{state}
use Rattle.net_sim.proofs.lives.turn.Given as goal

-- what is left makes of the fates what the whole does, and what was done is noted
abbrev pub invariant-loop-at : goal.invariant-loop-at
invariant-loop-at l = record {
  rest : fates_at (turns l.turn) (turned l.turn) (drop l.at-index l.places) l.lives l.fates ≡ fates_at (turns l.turn) (turned l.turn) l.places l.lives l.fn.fates;
  back : (handed : List (List Bool)) → GoesBack l.fn.done.items (state l.lives handed l.fn.fates) l.done.items (state l.lives handed l.fates);
}
