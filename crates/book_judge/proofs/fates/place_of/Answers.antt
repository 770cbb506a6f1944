use Rattle.book_judge.proofs.Common.{inl, inr, ap, sym, refl, ◌∙◌, Change}
use Rattle.book_judge.proofs.Ends.Begun.{not_zero, place_get, place_none}
use Rattle.book_judge.proofs.fates.place_of.Goals as goal

pub returns-then-rest-eq0 : goal.returns-then-rest-eq0
returns-then-rest-eq0 c = sym (place_none c.args.changes.now c.args.rest (inl c.if-rest-eq0.true))

pub returns-then-changes-rest : goal.returns-then-changes-rest
returns-then-changes-rest c = sym (place_none c.args.changes.now c.args.rest (inr c.if-changes-rest.true))

pub returns : goal.returns
returns c =
    ap (λ (d : Change). d.place) (sym c.index-changes-changes.is)
    ∙ place_get c.args.changes.now c.args.rest _ c.index-changes-changes.result
    (not_zero c.args.rest c.if-rest-eq0.false) c.if-changes-rest.false refl c.index-changes-changes.is
