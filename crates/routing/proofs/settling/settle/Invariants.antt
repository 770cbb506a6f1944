use Rattle.std.proofs.Common.{◌≡◌, map}
use Rattle.routing.specs.RouteTable.{vector_of}
use Rattle.routing.specs.Settle.{AreTablesOf, settled}
use Rattle.routing.proofs.settling.settle.Given as goal

-- the rounds so far
abbrev pub invariant-loop : goal.invariant-loop
invariant-loop l = record {
  rounds : l.tables ≡ settled l.graph l.fn.tables l.counter;
  told : l.told.items ≡ map vector_of l.tables;
  are : AreTablesOf l.graph l.tables;
}
