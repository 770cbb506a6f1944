use Rattle.trace.proofs.Common.{◌≡◌, ◌++◌, codes, drop, false, length, listed}
use Rattle.trace.proofs.Left.{Remains, left}
use Rattle.trace.proofs.json.print_some.Given as goal

abbrev pub invariant-loop-place : goal.invariant-loop-place
invariant-loop-place g l =
    (l.place-end ≡ length (g.L.Listed.texts l.list)) × (g.W.Output.failed l.writer ≡ false)
    × Remains (g.W.Output.contents l.fn.writer) (g.W.Output.contents l.writer) (left (codes "[") (codes "]") l.place (drop l.place (g.L.Listed.texts l.list))) (codes "[" ++ listed (codes "]") (g.L.Listed.texts l.list))
