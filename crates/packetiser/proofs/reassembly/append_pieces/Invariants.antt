use Rattle.std.proofs.Common.{◌≡◌, ◌++◌, drop}
use Rattle.packetiser.specs.Slots.{joined_pieces}
use Rattle.packetiser.proofs.reassembly.append_pieces.Given as goal

-- what is there and the bits of the rest are all of it
abbrev pub invariant-loop-piece : goal.invariant-loop-piece
invariant-loop-piece l = l.bits ++ joined_pieces (drop l.piece-index l.pieces) ≡ l.fn.bits ++ joined_pieces l.fn.pieces
