use Rattle.book_judge.proofs.Common.{◌≡◌, ◌==◌, Bool, true, false, List, refl, ap, sym, subst, ◌∙◌, same_flow, same_host, Flow, same_flow-true, orders_of, named_in, slice_get_past}
use Rattle.book_judge.proofs.Crossed.Streamed.{named_message, nested, past_end, piece_there, unnamed_flow, unnamed_message, unnamed_place}
use Rattle.book_judge.proofs.lives.named_at.Goals as goal

pub returns-in_err-get : goal.returns-in_err-get
returns-in_err-get c = λ from to e. c.from_residual.ensures ∙ unnamed_place c.args.comes from to c.args.own c.args.foreign c.args.place c.args.log.now (slice_get_past c.args.log.now c.args.place (past_end c.args.log.now c.args.log.now c.args.place refl c.in_err-get.ensures.lookup.0))

pub returns-in_err-message : goal.returns-in_err-message
returns-in_err-message c = λ from to e.
    c.from_residual-in_err-message.ensures
    ∙ unnamed_message c.args.comes from to c.args.own c.args.foreign c.args.place c.args.log.now c.in_ok-get.field-0.now
    (piece_there c.args.log.now c.args.log.now c.args.place c.in_ok-get.field-0.now refl c.in_ok-get.ensures.lookup.0 c.in_ok-get.ensures.lookup.1) c.in_err-message.ensures

pub returns-then-eq : goal.returns-then-eq
returns-then-eq c = λ from to e.
    c.named_in.ensures ∙ ap (λ (text : List Bool). named_in c.args.own c.args.foreign (orders_of text)) c.bits.ensures.same
    ∙ named_message c.args.comes from to c.args.own c.args.foreign c.args.place c.args.log.now c.in_ok-get.field-0.now c.in_ok-message.message.now
    (piece_there c.args.log.now c.args.log.now c.args.place c.in_ok-get.field-0.now refl c.in_ok-get.ensures.lookup.0 c.in_ok-get.ensures.lookup.1) c.in_ok-message.ensures
    (let f : Flow = c.args.flow.now in
    let g : Flow = c.in_ok-message.message.now.flow in
    let same : same_flow f g ≡ true = sym (nested (same_host f.source g.source) (same_host f.destination g.destination) (f.link.0 == g.link.0)) ∙ sym c.eq.ensures ∙ c.if-eq.true in
    sym (same_flow-true f g same) ∙ e)

pub returns : goal.returns
returns c = λ from to e.
    unnamed_flow c.args.comes from to c.args.own c.args.foreign c.args.place c.args.log.now c.in_ok-get.field-0.now c.in_ok-message.message.now
    (piece_there c.args.log.now c.args.log.now c.args.place c.in_ok-get.field-0.now refl c.in_ok-get.ensures.lookup.0 c.in_ok-get.ensures.lookup.1) c.in_ok-message.ensures
    (let f : Flow = c.args.flow.now in
    let g : Flow = c.in_ok-message.message.now.flow in
    let other : same_flow f g ≡ false = sym (nested (same_host f.source g.source) (same_host f.destination g.destination) (f.link.0 == g.link.0)) ∙ sym c.eq.ensures ∙ c.if-eq.false in
    subst (λ (h : Flow). same_flow h g ≡ false) e other)
