use Rattle.std.proofs.Common.{arith, length, ◌==◌, ◌+◌, ◌≤◌}
use Rattle.packetiser.specs.PacketFields.{IsPiece}
use Rattle.packetiser.specs.Pieces.{piece, piece_count}
use Rattle.packetiser.proofs.Pieces.{piece_fits, few_pieces}
use Rattle.packetiser.proofs.cutting.piece_packet.Goals as goal

pub new-requires-clause-place : goal.new-requires-clause-place
new-requires-clause-place c = let few : piece_count c.args.body.now ≤ 8 = few_pieces c.args.body.now c.requires.size in omega arith

pub new-requires-clause-body : goal.new-requires-clause-body
new-requires-clause-body c =
    let fits : IsPiece c.args.place (c.args.place + 1 == piece_count c.args.body.now) (length (piece c.args.body.now c.args.place)) = piece_fits c.args.body.now c.args.place c.requires.size c.requires.there in
    rw (c.piece_count.ensures, c.in_ok-bits.ensures) fits
