use Rattle.world_trace.specs.Steps.{at_host}
use Rattle.world_trace.proofs.Changing.{ChangedSoFar}
use Rattle.world_trace.proofs.texts.change_at.Given as goal

-- the texts so far are put in their places, and those that are other than before are in the object
abbrev pub invariant-loop-place : goal.invariant-loop-place
invariant-loop-place g l = ChangedSoFar (at_host g.T.Placed.place l.host) g.T.Json.text l.fn.known l.items l.place l.known l.text.items
