use Rattle.subnet_trace.proofs.Common.{◌≡◌, ◌++◌, map, known_part}
use Rattle.subnet_trace.proofs.flows.parts_of.Given as goal

-- with those that are left they are all
abbrev pub invariant-loop-flow : goal.invariant-loop-flow
invariant-loop-flow g l =
    l.parts.items ++ map (known_part l.side (g.V.Known.state l.imp) g.V.Known.number) l.flow-iterator ≡ map (known_part l.side (g.V.Known.state l.imp) g.V.Known.number) l.fn.flows
