use Rattle.world_trace.proofs.Common.{List, subst, All, Command}
use Rattle.world_trace.specs.Told.{IsCommandTold}
use Rattle.host_pairs.specs.Pair.{PairState}
use Rattle.world_trace.proofs.lasting.pair_numbers.Goals as goal

pub returns-clause-commands : goal.returns-clause-commands
returns-clause-commands c = subst (λ (q : PairState). All IsCommandTold q.queue) c.pair.view_is (subst (λ (cs : List Command). All IsCommandTold cs) c.as_slice-2.ensures.value c.all_numbers-3.ensures)
