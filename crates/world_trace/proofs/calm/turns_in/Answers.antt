use Rattle.world_trace.proofs.Common.{◌∷◌, ◌++◌, [], ap, map, ◌∙◌, turn}
use Rattle.world_trace.proofs.Rounds.Turns.{all_turns, next_turn, turns_at_all}
use Rattle.world_trace.proofs.calm.turns_in.Goals as goal

pub loop-seat-init : goal.loop-seat-init
loop-seat-init c = ap (λ ts. map turn ts ++ turns_at_all c.args.seats.now)
    (c.in_ok-push.ensures.items ∙ ap (λ ts. ts ++ _ ∷ []) c.new-turns.ensures.items)

pub loop-seat-preserved : goal.loop-seat-preserved
loop-seat-preserved c =
    let l = c.loop-seat in
    next_turn c.args.seats.now l.seat-index c.seat-item.result l.turns.items c.add_turn.new.turns.items
    c.loop-seat-test.true c.seat-item.is c.in_ok-add_turn.ensures l.invariant

pub returns : goal.returns
returns c = all_turns c.args.seats.now c.loop-seat.seat-index c.loop-seat.turns.items c.loop-seat-test.false
    c.loop-seat.invariant
