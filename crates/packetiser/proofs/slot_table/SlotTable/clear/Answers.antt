use Rattle.std.proofs.Common.{sym, ◌∙◌}
use Rattle.packetiser.proofs.Holding.{none_taken}
use Rattle.packetiser.proofs.Table.{no_slot, without_placed}
use Rattle.packetiser.proofs.slot_table.SlotTable.clear.Goals as goal

pub returns-in-Some : goal.returns-in-Some
returns-in-Some c = c.remove.ensures ∙ without_placed c.args.self.now c.args.flow.now c.in-Some.at c.requires (sym c.place_of.ensures ∙ c.in-Some.is)

pub returns-in_default : goal.returns-in_default
returns-in_default c = sym (none_taken c.args.self.now c.args.flow.now (no_slot c.args.self.now c.args.flow.now (sym c.place_of.ensures ∙ c.in_default.is)))
