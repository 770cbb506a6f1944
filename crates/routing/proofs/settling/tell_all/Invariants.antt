use Rattle.std.proofs.Common.{◌≡◌, take, map, length}
use Rattle.routing.specs.RouteTable.{vector_of}
use Rattle.routing.proofs.settling.tell_all.Given as goal

-- the vectors so far
abbrev pub invariant-loop-place : goal.invariant-loop-place
invariant-loop-place l = record {
  one_each : length l.told.items ≡ length l.tables;
  told : take l.place l.told.items ≡ map vector_of (take l.place l.tables);
}
