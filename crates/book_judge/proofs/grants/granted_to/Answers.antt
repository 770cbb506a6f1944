use Rattle.book_judge.proofs.Common.{◌∙◌, ℕ, Flow, ap, arith, sym}
use Rattle.book_judge.specs.Inside.Allocations.{by_log, capped, data_flow}
use Rattle.book_judge.proofs.Crossed.Granted.{nothing_late, sending_flow, to_life}
use Rattle.book_judge.proofs.Crossed.Supplies.{capped_nothing}
use Rattle.book_judge.proofs.grants.granted_to.Goals as goal

pub returns-then-crossed-life : goal.returns-then-crossed-life
returns-then-crossed-life c = λ log a all sending.
    c.nothing.ensures ∙ sym capped_nothing
    ∙ ap capped (sym (nothing_late c.args.life.now c.args.link log (omega (arith, all, c.if-crossed-life.true))))

pub returns : goal.returns
returns c = λ log a all sending.
    c.since.ensures log a
    ∙ ap (λ (f : Flow). capped (by_log 0 log f c.max-from.result)) (c.flow_of.ensures ∙ sending_flow c.args.life.now c.args.link sending)
    ∙ ap (λ (n : ℕ). capped (by_log 0 log (data_flow c.args.life.now.host c.args.life.now.peer c.args.link) n)) c.max-from.ensures
    ∙ ap capped (to_life c.args.life.now c.args.link log)
