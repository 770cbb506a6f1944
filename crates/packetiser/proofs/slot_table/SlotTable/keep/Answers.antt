use Rattle.std.proofs.Common.{sym, ◌∙◌, ◌≡◌, subst, None}
use Rattle.std.specs.List.{position}
use Rattle.interface.specs.Flow.{same_flow}
use Rattle.interface.specs.declared.address.Flow.{Flow}
use Rattle.packetiser.specs.PacketFields.{flow_of}
use Rattle.packetiser.specs.Slots.{SlotState}
use Rattle.packetiser.proofs.Table.{room_free}
use Rattle.packetiser.proofs.slot_table.SlotTable.keep.Goals as goal

pub open-requires-clause-room : goal.open-requires-clause-room
open-requires-clause-room c =
    let none : position (λ (s : SlotState). same_flow (flow_of c.args.packet) s.flow) c.args.self.now ≡ None =
    subst (λ (f : Flow). position (λ (s : SlotState). same_flow f s.flow) c.args.self.now ≡ None) c.flow.ensures (sym c.place_of.ensures ∙ c.in-None.is) in
    room_free c.args.self.now (flow_of c.args.packet) none c.requires.room
