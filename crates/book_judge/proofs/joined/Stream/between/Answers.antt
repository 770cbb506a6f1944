use Rattle.book_judge.proofs.Common.{List, subst, Piece}
use Rattle.book_judge.specs.Inside.Joined.{IsFirstFrom}
use Rattle.book_judge.proofs.Crossed.Streamed.{counted, counted_none}
use Rattle.book_judge.proofs.joined.Stream.between.Goals as goal

pub returns-then-last-first : goal.returns-then-last-first
returns-then-last-first c = λ comes f log h.
    counted_none comes f log c.args.self.now h c.args.since c.args.until c.first_from-first.result
    c.first_from-last.result
    (subst (λ (ps : List Piece). IsFirstFrom ps c.args.since c.first_from-first.result) c.deref.ensures.value
    c.first_from-first.ensures)
    (subst (λ (ps : List Piece). IsFirstFrom ps c.args.until c.first_from-last.result) c.deref-2.ensures.value
    c.first_from-last.ensures) c.if-last-first.true

pub returns : goal.returns
returns c = λ comes f log h.
    counted comes f log c.args.self.now h c.args.since c.args.until c.first_from-first.result c.first_from-last.result
    (subst (λ (ps : List Piece). IsFirstFrom ps c.args.since c.first_from-first.result) c.deref.ensures.value
    c.first_from-first.ensures)
    (subst (λ (ps : List Piece). IsFirstFrom ps c.args.until c.first_from-last.result) c.deref-2.ensures.value
    c.first_from-last.ensures)
