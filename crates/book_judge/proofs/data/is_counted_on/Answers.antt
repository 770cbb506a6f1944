use Rattle.book_judge.proofs.Common.{length, take, drop, ap, refl, ◌+◌, ◌∙◌, Flow, receives, texts_by}
use Rattle.book_judge.proofs.Crossed.Made.{none_counted, some_counted}
use Rattle.book_judge.proofs.data.is_counted_on.Goals as goal

pub returns-then-until-begun : goal.returns-then-until-begun
returns-then-until-begun c = λ log joined.
    none_counted log c.args.life.now c.args.link c.args.until c.max-begun.result _ c.max-begun.ensures
    c.if-until-begun.true refl

pub returns : goal.returns
returns c = λ log joined.
    some_counted log c.args.life.now c.args.link c.args.until c.max-begun.result c.between.result _ c.max-begun.ensures
    (c.between.ensures (receives c.args.life.now) log joined
    ∙ ap (λ (f : Flow). length (texts_by (receives c.args.life.now) f
    (drop (c.max-begun.result + 1) (take c.args.until log)))) c.flow_of.ensures) refl
