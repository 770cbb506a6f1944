use Rattle.net_sim.proofs.Common.{◌≡◌, List, drop, Fate, lives_at, GoesBack}
use Rattle.net_sim.proofs.Books.Places.{handed_at}
use Rattle.net_sim.proofs.Books.Undoing.{state}
use Rattle.net_sim.proofs.lives.hand.Given as goal

-- what is left makes of the bits what the whole does, and what was done is noted
abbrev pub invariant-loop-at : goal.invariant-loop-at
invariant-loop-at l = record {
  rest : handed_at (lives_at l.host l.socket) l.bits (drop l.at-index l.places) l.lives l.handed ≡ handed_at (lives_at l.host l.socket) l.bits l.places l.lives l.fn.handed;
  back : (fates : List Fate) → GoesBack l.fn.done.items (state l.lives l.fn.handed fates) l.done.items (state l.lives l.handed fates);
}
