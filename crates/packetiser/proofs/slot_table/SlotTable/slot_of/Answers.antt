use Rattle.std.proofs.Common.{◌∙◌, sym}
use Rattle.packetiser.proofs.Table.{no_slot, slot_at_place}
use Rattle.packetiser.proofs.slot_table.SlotTable.slot_of.Goals as goal

pub returns-in_err-at : goal.returns-in_err-at
returns-in_err-at c = rw c.from_residual.ensures (sym (no_slot c.args.self.now c.args.flow.now (sym c.in_err-at.ensures)))

pub returns : goal.returns
returns c = c.get.ensures ∙ slot_at_place c.args.self.now c.args.flow.now c.in_ok-at.at (sym c.in_ok-at.ensures)
