use Rattle.std.proofs.Common.{◌∙◌, sym}
use Rattle.packetiser.proofs.Table.{length_of}
use Rattle.packetiser.proofs.slot_table.SlotTable.len.Goals as goal

pub returns : goal.returns
returns c = rw (← c.self.view_is) (c.len.ensures ∙ c.self.inside.order.ok.0 ∙ sym (length_of c.self.inside.slots c.self.inside.order.items _ c.self.invariant))
