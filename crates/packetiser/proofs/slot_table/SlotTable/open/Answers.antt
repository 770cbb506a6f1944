use Rattle.std.proofs.Common.{◌∙◌}
use Rattle.packetiser.proofs.Slots.{kept_new}
use Rattle.packetiser.proofs.slot_table.SlotTable.open.Goals as goal

pub returns-clause-kept : goal.returns-clause-kept
returns-clause-kept c =
    c.insert.ensures
    ∙ kept_new c.args.self.now c.args.packet c.place_for-at.result c.number-number.result c.flow-flow.result c.in_ok-pieces.pieces.items c.requires.none
    c.flow-flow.ensures c.number-number.ensures c.in_ok-pieces.ensures c.place_for-at.ensures.place
