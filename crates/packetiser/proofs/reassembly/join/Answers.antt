use Rattle.std.proofs.Common.{◌∙◌, ◌≡◌, ap, List, Bool, ◌++◌}
use Rattle.packetiser.specs.Slots.{joined_pieces}
use Rattle.packetiser.proofs.Slots.{join_is}
use Rattle.packetiser.proofs.reassembly.join.Goals as goal

pub returns-clause-joined : goal.returns-clause-joined
returns-clause-joined c =
    let front : c.append_pieces.new.bits ≡ joined_pieces c.split_at.result.0.now = c.in_ok-append_pieces.ensures ∙ ap (λ (b : List Bool). b ++ joined_pieces c.split_at.result.0.now) c.new-bits.ensures in
    let middle : c.append_bits.new.bits ≡ joined_pieces c.split_at.result.0.now ++ c.args.packet.bits =
    c.in_ok-append_bits.ensures ∙ ap (λ (b : List Bool). b ++ c.bits-2.result.now) front ∙ ap (λ (b : List Bool). joined_pieces c.split_at.result.0.now ++ b) c.bits-2.ensures in
    c.in_ok-append_pieces-2.ensures ∙ ap (λ (b : List Bool). b ++ joined_pieces c.split_at.result.1.now) middle
    ∙ join_is c.args.packet c.args.pieces.now c.split_at.result.0.now c.split_at.result.1.now c.place_among.result c.place_among.ensures.place c.split_at.ensures.front c.split_at.ensures.back
