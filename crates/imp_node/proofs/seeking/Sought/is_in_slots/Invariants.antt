use Rattle.std.proofs.Common.{◌≡◌, ◌-◌, length, drop}
use Rattle.std.specs.List.{list_any}
use Rattle.packetiser.specs.Slots.{in_some_order}
use Rattle.imp_node.proofs.Searching.{slot_is}
use Rattle.imp_node.proofs.seeking.Sought.is_in_slots.Given as goal

-- no slot so far is sought
abbrev pub invariant-slots : goal.invariant-slots
invariant-slots l = list_any (slot_is l.self) (drop l.k (in_some_order l.reassembly)) ≡ list_any (slot_is l.self) (in_some_order l.reassembly)

abbrev pub decreases-slots : goal.decreases-slots
decreases-slots l = length (in_some_order l.reassembly) - l.k
