use Rattle.net_sim.proofs.Common.{◌≡◌, ℕ, Bool, List, drop, Fate, life_ended, AreWithin, ends, AreKept, GoesBack}
use Rattle.net_sim.proofs.Books.Places.{changed_at, where_here}
use Rattle.net_sim.proofs.Books.Undoing.{state}
use Rattle.net_sim.proofs.lives.end.Given as goal

-- what is left makes of the lives what the whole does, each is where it was, their counts are not greater, and what was done is noted
abbrev pub invariant-loop-at : goal.invariant-loop-at
invariant-loop-at l = record {
  rest : changed_at (where_here (ends l.ending) life_ended) (drop l.at-index l.places) l.lives ≡ changed_at (where_here (ends l.ending) life_ended) l.places l.fn.lives;
  kept : AreKept l.fn.lives l.lives;
  within : (n : ℕ) → AreWithin n l.fn.lives → AreWithin n l.lives;
  back : (handed : List (List Bool)) (fates : List Fate) → GoesBack l.fn.done.items (state l.fn.lives handed fates) l.done.items (state l.lives handed fates);
}
