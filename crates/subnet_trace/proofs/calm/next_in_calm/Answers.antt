use Rattle.subnet_trace.proofs.Common.{Some, sym, subst, subnet_calls, IsNext, GoesOnWith}
use Rattle.subnet_trace.specs.Elements.{calm_left, round_left}
use Rattle.subnet_trace.proofs.Onward.{calm_idle, goes_on_with, in_next_round}
use Rattle.subnet_trace.proofs.calm.next_in_calm.Goals as goal

pub returns-in-Some : goal.returns-in-Some
returns-in-Some c =
    subst (λ next. GoesOnWith subnet_calls (λ k p. calm_left k.net p) c.args.subnet.now c.args.place (Some next)) (sym c.in_round.ensures)
    (goes_on_with c.args.subnet.now c.args.place (c.in-Some.event, c.in-Some.stage) c.in-Some.ensures)

pub returns-in-Some-next_in_round : goal.returns-in-Some-next_in_round
returns-in-Some-next_in_round c =
    subst (λ next. GoesOnWith subnet_calls (λ k p. calm_left k.net p) c.args.subnet.now c.args.place (Some next)) (sym c.in_round-in-Some-next_in_round.ensures)
    (in_next_round c.args.subnet.now c.args.place (c.in-Some-next_in_round.event, c.in-Some-next_in_round.stage) c.if-place.false (subst (λ r. IsNext c.args.subnet.now.net (λ round. round_left round c.args.place.stage c.args.subnet.now.net) r) c.in_default.is c.next_in_round.ensures) c.in-Some-next_in_round.ensures)

pub returns-in-None : goal.returns-in-None
returns-in-None c =
    calm_idle c.args.subnet.now c.args.place c.if-place.false (subst (λ r. IsNext c.args.subnet.now.net (λ round. round_left round c.args.place.stage c.args.subnet.now.net) r) c.in_default.is c.next_in_round.ensures) c.in-None.ensures
