use Rattle.world_replay.proofs.Common.{◌≡◌, false, take, shown_notices, Fronts}
use Rattle.world_replay.proofs.print.print_notices.Given as goal

abbrev pub invariant-loop-told : goal.invariant-loop-told
invariant-loop-told g l =
    Fronts l.detail l.fn.crossings.before l.fn.crossings.left.now (shown_notices (take l.told-index l.notices)) l.crossings.before l.crossings.left.now (g.W.Output.contents l.fn.writer) (g.W.Output.contents l.writer) × (g.W.Output.failed l.writer ≡ false)
