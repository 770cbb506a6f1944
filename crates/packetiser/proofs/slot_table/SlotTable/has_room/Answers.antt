use Rattle.std.proofs.Common.{◌∙◌, ap, is_some}
use Rattle.packetiser.proofs.Table.{room_then, room_else}
use Rattle.packetiser.proofs.slot_table.SlotTable.has_room.Goals as goal

pub returns-then-is_some : goal.returns-then-is_some
returns-then-is_some c = room_then c.args.self.now c.args.flow.now c.is_some.result (c.is_some.ensures ∙ ap is_some c.place_of.ensures) c.if-is_some.true

pub returns-else-is_some : goal.returns-else-is_some
returns-else-is_some c = room_else c.args.self.now c.args.flow.now c.is_some.result c.len.result (c.is_some.ensures ∙ ap is_some c.place_of.ensures) c.if-is_some.false c.len.ensures
