use Rattle.std.proofs.Common.{rules}
use Rattle.host_services.proofs.BlockLemmas.{more_deaf}
use Rattle.host_services.proofs.services.any_hears.Goals as goal

pub loop-block-preserved : goal.loop-block-preserved
loop-block-preserved c = λ n about rest.
    c.loop-block.invariant n about (more_deaf n c.args.blocks.now c.loop-block.block-index c.block-item.result (search rules) (search rules) (search rules) rest)
