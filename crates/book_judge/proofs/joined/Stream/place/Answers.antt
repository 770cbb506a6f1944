use Rattle.book_judge.specs.Inside.Joined.{IsPiece}
use Rattle.book_judge.proofs.Crossed.Streamed.{piece_there}
use Rattle.book_judge.proofs.joined.Stream.place.Goals as goal

pub returns-in-Some : goal.returns-in-Some
returns-in-Some c = λ comes f log h.
    (let k : IsPiece comes f log c.args.number c.in-Some.piece.now =
    h.pieces c.args.number c.in-Some.piece.now
    (piece_there c.args.self.now.pieces.items c.deref.result.now c.args.number c.in-Some.piece.now
    c.deref.ensures.value c.in-Some.ensures.lookup.0 c.in-Some.ensures.lookup.1) in
    (k.within, k.here, k.next))
