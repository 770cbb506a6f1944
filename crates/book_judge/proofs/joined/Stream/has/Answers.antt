use Rattle.book_judge.proofs.Common.{ℕ, ◌+◌, List, take, ap, ◌∙◌, subst, arith, Piece}
use Rattle.book_judge.specs.Inside.Joined.{IsFirstFrom, marked, texts_by}
use Rattle.book_judge.proofs.Crossed.Streamed.{answered, not_below, too_few, unlike}
use Rattle.book_judge.proofs.joined.Stream.has.Goals as goal

pub returns-in_default : goal.returns-in_default
returns-in_default c = λ comes f log h.
    too_few comes f log c.args.self.now h c.args.since c.first_from-first.result c.args.count (subst (λ (ps : List Piece). IsFirstFrom ps c.args.since c.first_from-first.result) c.deref.ensures.value c.first_from-first.ensures) c.args.bits.now
    (omega (arith, c.len.ensures, c.args.self.now.pieces.ok.0, c.len.type_inv, not_below c.args.count 18446744073709551616 c.in_default.ensures))

pub returns-then-count-left : goal.returns-then-count-left
returns-then-count-left c = λ comes f log h.
    too_few comes f log c.args.self.now h c.args.since c.first_from-first.result c.args.count (subst (λ (ps : List Piece). IsFirstFrom ps c.args.since c.first_from-first.result) c.deref.ensures.value c.first_from-first.ensures) c.args.bits.now
    (omega (arith, c.if-count-left.true, c.len.ensures, c.args.self.now.pieces.ok.0, c.in-Ok.ensures.1))

pub returns-then-unread-unread_to : goal.returns-then-unread-unread_to
returns-then-unread-unread_to c = λ comes f log h.
    answered comes f log c.args.self.now h c.args.since c.first_from-first.result c.args.count (subst (λ (ps : List Piece). IsFirstFrom ps c.args.since c.first_from-first.result) c.deref.ensures.value c.first_from-first.ensures) c.args.bits.now (omega (arith, c.if-count-left.false, c.len.ensures, c.args.self.now.pieces.ok.0, c.in-Ok.ensures.1))
    c.before-from.result c.before-to.result (c.before-from.ensures comes f log h) (c.before-to.ensures comes f log h ∙ ap (λ (k : ℕ). marked comes (take (c.first_from-first.result + k) (texts_by comes f log))) c.in-Ok.ensures.1) c.is_slice.result c.if-unread-unread_to.true c.is_slice.ensures

pub returns-else-unread-unread_to : goal.returns-else-unread-unread_to
returns-else-unread-unread_to c = λ comes f log h.
    unlike comes f log c.args.self.now h c.args.since c.first_from-first.result c.args.count (subst (λ (ps : List Piece). IsFirstFrom ps c.args.since c.first_from-first.result) c.deref.ensures.value c.first_from-first.ensures) c.args.bits.now (omega (arith, c.if-count-left.false, c.len.ensures, c.args.self.now.pieces.ok.0, c.in-Ok.ensures.1))
    c.before-from.result c.before-to.result (c.before-from.ensures comes f log h) (c.before-to.ensures comes f log h ∙ ap (λ (k : ℕ). marked comes (take (c.first_from-first.result + k) (texts_by comes f log))) c.in-Ok.ensures.1) c.if-unread-unread_to.false
