use Rattle.std.proofs.Common.{◌≡◌, false}
use Rattle.world_replay.proofs.News.{Reports}
use Rattle.world_replay.proofs.print.print_told.Given as goal

abbrev pub invariant-loop-reported : goal.invariant-loop-reported
invariant-loop-reported g l =
    Reports l.detail l.fn.before l.notices l.reports l.fn.crossings.before l.fn.crossings.left.now l.reported-index l.before l.waiting l.crossings.before l.crossings.left.now (g.W.Output.contents l.fn.writer) (g.W.Output.contents l.writer) × (g.W.Output.failed l.writer ≡ false)
