use Rattle.std.proofs.Common.{ℕ, length, ap, ◌∙◌}
use Rattle.book_judge.specs.Inside.Joined.{pair}
use Rattle.book_judge.proofs.Crossed.Streamed.{mark_found, mark_last, past_end, piece_there}
use Rattle.book_judge.proofs.joined.Stream.before.Goals as goal

pub returns-in-Some : goal.returns-in-Some
returns-in-Some c = λ comes f log h. mark_found comes f log c.args.self.now h c.args.count c.in-Some.piece.now
    (piece_there c.args.self.now.pieces.items c.deref.result.now c.args.count c.in-Some.piece.now c.deref.ensures.value c.in-Some.ensures.lookup.0 c.in-Some.ensures.lookup.1)

pub returns-in-None : goal.returns-in-None
returns-in-None c = λ comes f log h.
    ap (λ (n : ℕ). pair n c.len-in-None.result) c.len.ensures ∙ ap (λ (n : ℕ). pair (length c.args.self.now.bits) n) (c.len-in-None.ensures ∙ c.args.self.now.unread.ok.0)
    ∙ mark_last comes f log c.args.self.now h c.args.count (past_end c.args.self.now.pieces.items c.deref.result.now c.args.count c.deref.ensures.value c.in-None.ensures.lookup.0)
