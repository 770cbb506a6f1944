use Rattle.std.proofs.Common.{◌∙◌, ap, ℕ, List}
use Rattle.std.specs.List.{position}
use Rattle.interface.specs.Flow.{same_flow}
use Rattle.slab.specs.Slab.{get}
use Rattle.packetiser.specs.Inside.{is_there_and}
use Rattle.packetiser.specs.Slots.{SlotState}
use Rattle.packetiser.proofs.Table.{place_is}
use Rattle.packetiser.proofs.slot_table.SlotTable.place_of.Goals as goal

pub returns : goal.returns
returns c =
    rw (← c.self.view_is) (
    c.first_of.ensures
    ∙ ap (λ (keys : List ℕ). position (λ (key : ℕ). is_there_and (λ (s : SlotState). same_flow c.args.flow.now s.flow) (get c.self.inside.slots key)) keys) c.deref.ensures.value
    ∙ place_is (λ (s : SlotState). same_flow c.args.flow.now s.flow) c.self.inside.slots c.self.inside.order.items _ c.self.invariant)
