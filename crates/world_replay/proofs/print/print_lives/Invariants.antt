use Rattle.world_replay.proofs.Common.{◌≡◌, false, take, Appends}
use Rattle.world_replay.specs.Output.{lives_output}
use Rattle.world_replay.proofs.print.print_lives.Given as goal

abbrev pub invariant-loop-life : goal.invariant-loop-life
invariant-loop-life g l = Appends (g.W.Output.contents l.fn.writer) (g.W.Output.contents l.writer) (lives_output (take l.life-index l.lives)) × (g.W.Output.failed l.writer ≡ false)
