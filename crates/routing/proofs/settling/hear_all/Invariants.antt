use Rattle.std.proofs.Common.{◌≡◌, ◌++◌, take, drop, map}
use Rattle.routing.specs.Settle.{after_round}
use Rattle.routing.proofs.settling.hear_all.Given as goal

-- the tables so far have heard their neighbours
abbrev pub invariant-loop-table : goal.invariant-loop-table
invariant-loop-table l = l.tables ≡ map (after_round l.graph l.told) (take l.table-index l.fn.tables) ++ drop l.table-index l.fn.tables
