use Rattle.std.proofs.Common.{take}
use Rattle.host_pairs.specs.Inside.Index.{AreIndexed}
use Rattle.host_pairs.proofs.index.index_of.Given as goal

abbrev pub invariant-loop-end : goal.invariant-loop-end
invariant-loop-end l = AreIndexed l.index (take l.end-index l.ends)
