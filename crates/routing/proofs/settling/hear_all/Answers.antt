use Rattle.std.proofs.Common.{rules}
use Rattle.std.proofs.lemmas.List.Edits.{map_over_more}
use Rattle.routing.specs.Settle.{after_round}
use Rattle.routing.proofs.settling.hear_all.Goals as goal

pub loop-table-preserved : goal.loop-table-preserved
loop-table-preserved c = search (rules, map_over_more (after_round c.args.graph.now c.args.told.now))
