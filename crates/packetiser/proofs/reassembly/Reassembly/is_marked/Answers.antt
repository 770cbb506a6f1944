use Rattle.std.proofs.Common.{◌≡◌, ◌∙◌, ◌||◌, Bool, List, true, false, ap, sym}
use Rattle.std.specs.List.{list_any}
use Rattle.bit_messages.specs.Body.{has_mark}
use Rattle.packetiser.specs.PacketFields.{PacketFields}
use Rattle.packetiser.specs.Slots.{SlotState, kept_for, gathered, joined_pieces}
use Rattle.packetiser.proofs.Holding.{mark_first, mark_later}
use Rattle.packetiser.proofs.reassembly.Reassembly.is_marked.Goals as goal

pub returns-then-has_mark : goal.returns-then-has_mark
returns-then-has_mark c =
    c.if-has_mark.true ∙ sym (mark_first c.args.packet.now (kept_for c.args.self.now c.args.packet.now) (ap has_mark (sym c.bits.ensures) ∙ sym c.has_mark.ensures ∙ c.if-has_mark.true))

pub returns-else-has_mark : goal.returns-else-has_mark
returns-else-has_mark c =
    c.has_mark-else-has_mark.ensures
    ∙ ap (λ (qs : List PacketFields). list_any (λ (q : PacketFields). has_mark q.bits) qs) (c.kept_for.ensures ∙ ap (λ (slots : List SlotState). kept_for slots c.args.packet.now) c.self.view_is)
    ∙ sym (mark_later c.args.packet.now (kept_for c.args.self.now c.args.packet.now) (ap has_mark (sym c.bits.ensures) ∙ sym c.has_mark.ensures ∙ c.if-has_mark.false))
