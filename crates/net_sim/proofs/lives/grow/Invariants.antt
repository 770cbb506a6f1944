use Rattle.net_sim.proofs.Common.{◌≡◌, Bool, List, drop, Fate, lives_at, grown, AreWithin, AreKept, GoesBack}
use Rattle.net_sim.proofs.Books.Places.{changed_at, where_here}
use Rattle.net_sim.proofs.Books.Undoing.{state}
use Rattle.net_sim.proofs.lives.grow.Given as goal

-- what is left makes of the lives what the whole does, each is where it was, their counts are within what the changes allow, and what was done is noted
abbrev pub invariant-loop-at : goal.invariant-loop-at
invariant-loop-at l = record {
  rest : changed_at (where_here (lives_at l.host l.socket) (grown l.growth)) (drop l.at-index l.places) l.lives ≡ changed_at (where_here (lives_at l.host l.socket) (grown l.growth)) l.places l.fn.lives;
  kept : AreKept l.fn.lives l.lives;
  within : AreWithin l.changes l.lives;
  back : (handed : List (List Bool)) (fates : List Fate) → GoesBack l.fn.done.items (state l.fn.lives handed fates) l.done.items (state l.lives handed fates);
}
