use Rattle.book_judge.proofs.Common.{◌∙◌, ◌-◌, ap, length, take, true, subst, Flow, flow_of, texts_by}
use Rattle.book_judge.specs.Inside.Sent.{Rises}
use Rattle.book_judge.proofs.Crossed.Numbered.{count_all, each_all, each_tells, last_tells, none_sent, on_true}
use Rattle.book_judge.proofs.sent.all_sent.Goals as goal

pub returns-then-past-start : goal.returns-then-past-start
returns-then-past-start c = λ log arrive.
    each_all log c.args.starts.now c.args.start c.args.asked.now c.args.life.now c.args.names.now c.args.lives.now
    c.past_of-past.result c.between-count.result
    (count_all (flow_of c.args.life.now c.args.start.link) log (length c.args.arrivals.now) c.between-count.result
    arrive.1.counts
    (c.between-count.ensures true log arrive.0
    ∙ ap (λ (f : Flow). length (texts_by true f (take (length c.args.arrivals.now) log))) c.flow_of-flow.ensures))
    c.past_of-past.ensures.inside c.past_of-past.ensures.all
    (none_sent log c.args.starts.now c.args.start c.args.asked.now c.args.life.now c.args.names.now c.args.lives.now c.past_of-past.result c.if-past-start.true)

pub returns-then-is_steady : goal.returns-then-is_steady
returns-then-is_steady c = λ log arrive.
    last_tells log c.args.starts.now c.args.start c.args.asked.now c.args.life.now c.args.names.now c.args.lives.now
    c.past_of-past.result c.between-count.result
    (count_all (flow_of c.args.life.now c.args.start.link) log (length c.args.arrivals.now) c.between-count.result
    arrive.1.counts
    (c.between-count.ensures true log arrive.0
    ∙ ap (λ (f : Flow). length (texts_by true f (take (length c.args.arrivals.now) log))) c.flow_of-flow.ensures))
    c.past_of-past.ensures.inside c.past_of-past.ensures.all
    c.was_sent.result c.if-past-start.false
    (subst (λ (f : Flow). Rises f log c.args.start.before (c.past_of-past.result - 1)) c.flow_of-flow.ensures
    (on_true _ c.is_steady.result (c.is_steady.ensures log arrive) c.if-is_steady.true))
    (c.was_sent.ensures log arrive)

pub returns : goal.returns
returns c = λ log arrive.
    each_tells log c.args.starts.now c.args.start c.args.asked.now c.args.life.now c.args.names.now c.args.lives.now
    c.past_of-past.result c.between-count.result
    (count_all (flow_of c.args.life.now c.args.start.link) log (length c.args.arrivals.now) c.between-count.result
    arrive.1.counts
    (c.between-count.ensures true log arrive.0
    ∙ ap (λ (f : Flow). length (texts_by true f (take (length c.args.arrivals.now) log))) c.flow_of-flow.ensures))
    c.past_of-past.ensures.inside c.past_of-past.ensures.all
    c.each_sent.result (c.each_sent.ensures log arrive)
