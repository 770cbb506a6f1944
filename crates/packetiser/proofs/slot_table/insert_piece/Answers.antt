use Rattle.std.proofs.Common.{sym, ◌∙◌, ap, insert, ℕ, List, ◌≡◌, not, nat_lt}
use Rattle.std.specs.List.{position_or_len}
use Rattle.packetiser.specs.PacketFields.{PacketFields}
use Rattle.packetiser.proofs.Slots.{with_piece_is}
use Rattle.packetiser.proofs.slot_table.insert_piece.Goals as goal

pub returns-clause-inserted : goal.returns-clause-inserted
returns-clause-inserted c =
    let place : c.place_among-at.result ≡ position_or_len (λ (q : PacketFields). not (nat_lt q.place c.args.packet.place)) c.args.pieces.now.items =
    c.place_among-at.ensures.place ∙ ap (λ (ps : List PacketFields). position_or_len (λ (q : PacketFields). not (nat_lt q.place c.args.packet.place)) ps) c.deref.ensures.value in
    c.in_ok-insert.ensures.items ∙ ap (λ (k : ℕ). insert c.args.pieces.now.items k c.args.packet) place ∙ sym (with_piece_is c.args.packet c.args.pieces.now.items)
