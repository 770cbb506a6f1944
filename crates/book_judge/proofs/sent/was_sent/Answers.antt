use Rattle.book_judge.proofs.Common.{Option, subst, Flow, flow_of, ArrivalOf, Arrival}
use Rattle.book_judge.proofs.Crossed.Numbered.{nth_answered, nth_none}
use Rattle.book_judge.proofs.sent.was_sent.Goals as goal

pub returns-in-Some : goal.returns-in-Some
returns-in-Some c = λ log arrive.
    nth_answered log c.args.starts.now c.args.start c.args.asked.now c.args.life.now c.args.names.now c.args.lives.now
    c.args.number c.in-Some.arrival c.is_found.result
    (subst (λ (o : Option Arrival). ArrivalOf (flow_of c.args.life.now c.args.start.link) log c.args.number o) c.in-Some.is
    (subst (λ (f : Flow). ArrivalOf f log c.args.number c.arrival_of.result) c.flow_of-flow.ensures
    (c.arrival_of.ensures log arrive.0 arrive.1)))
    c.is_found.ensures

pub returns-in-None : goal.returns-in-None
returns-in-None c = λ log arrive.
    nth_none log c.args.starts.now c.args.start c.args.asked.now c.args.life.now c.args.names.now c.args.lives.now
    c.args.number
    (subst (λ (o : Option Arrival). ArrivalOf (flow_of c.args.life.now c.args.start.link) log c.args.number o) c.in-None.is
    (subst (λ (f : Flow). ArrivalOf f log c.args.number c.arrival_of.result) c.flow_of-flow.ensures
    (c.arrival_of.ensures log arrive.0 arrive.1)))
