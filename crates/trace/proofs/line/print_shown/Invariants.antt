use Rattle.trace.proofs.Common.{◌≡◌, ◌≤◌, ◌++◌, false, length, Appends, shown_crossings, shown_refusal, shown_text, Sizes}
use Rattle.trace.proofs.Joined.{fronts}
use Rattle.trace.proofs.line.print_shown.Given as goal

abbrev pub invariant-loop-place : goal.invariant-loop-place
invariant-loop-place g l =
    (l.place-end ≡ length l.crossings) × (l.place ≤ l.place-end) × (g.W.Output.failed l.writer ≡ false)
    × Appends (g.W.Output.contents l.fn.writer) (g.W.Output.contents l.writer) (fronts (shown_text Sizes) l.place (shown_crossings l.crossings ++ shown_refusal l.outcome))
