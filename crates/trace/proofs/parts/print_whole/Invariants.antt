use Rattle.trace.proofs.Common.{◌≡◌, ◌∷◌, false, map, take, Appends, Down, Waiting}
use Rattle.trace.specs.Joined.{begun}
use Rattle.trace.proofs.parts.print_whole.Given as goal

abbrev pub invariant-loop-host : goal.invariant-loop-host
invariant-loop-host g l =
    (g.W.Output.failed l.writer ≡ false)
    × Appends (g.W.Output.contents l.fn.writer) (g.W.Output.contents l.writer) (begun l.boxes (Down ∷ map (λ h. Waiting h) (take l.host-index l.host-items)))
