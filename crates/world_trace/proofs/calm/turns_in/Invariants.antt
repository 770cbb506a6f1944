use Rattle.world_trace.proofs.Rounds.Turns.{TurnsSoFar}
use Rattle.world_trace.proofs.calm.turns_in.Given as goal

-- the events so far, and those at the seats that are left
abbrev pub invariant-loop-seat : goal.invariant-loop-seat
invariant-loop-seat l = TurnsSoFar l.seats l.seat-index l.turns.items
