use Rattle.net_sim.proofs.Common.{◌≡◌, ◌+◌, ◌<◌, ◌≤◌, true, false, List, length, Some, None, Ok, ap, sym, subst, ◌∙◌, arith, shown, WorldState, Seat, stops, Calls}
use Rattle.net_sim.proofs.Hosts.Calming.{Found, Turned, rest_runs, none_turned, one_turned, none_here, stop_turned, all_turned, as_many, stop_round, whole_round}
use Rattle.net_sim.proofs.mixed_world.MixedWorld.pass_round.Goals as goal
use Rattle.net_sim.proofs.mixed_world.MixedWorld.pass_round.Goals.{in-Some+else-stops-2, in_default}

pub returns-then-stops : goal.returns-then-stops
returns-then-stops g c =
    let calls : Calls g.row.C.Denot = shown g.C.Carrier.calls in
    let is : stops c.turn-passed.result ≡ true = sym c.stops.ensures ∙ c.if-stops.true in
    stop_round calls c.args.self.now c.turn-passed.new.self c.turn-passed.result c.turn-passed.ensures.gives is

pub loop-at-init : goal.loop-at-init
loop-at-init g c =
    let calls : Calls g.row.C.Denot = shown g.C.Carrier.calls in
    let on : stops c.turn-passed.result ≡ false = sym c.stops.ensures ∙ c.if-stops.false in
    none_turned calls c.turn-passed.new.self (c.seats-seats.ensures.once (rest_runs calls c.args.self.now c.turn-passed.result c.turn-passed.new.self on c.turn-passed.ensures.gives))

pub returns-then-stops-2 : goal.returns-then-stops-2
returns-then-stops-2 g c =
    let calls : Calls g.row.C.Denot = shown g.C.Carrier.calls in
    let on : stops c.turn-passed.result ≡ false = sym c.stops.ensures ∙ c.if-stops.false in
    let is : stops c.take_turn-answer.result ≡ true = sym c.stops-in-Some.ensures ∙ c.if-stops-2.true in
    let many : length c.seats.result.now ≡ length c.loop-at.self.seats = ap (λ (xs : List Seat). length xs) c.seats.ensures.value in
    let first : length c.seats-seats.result.now ≡ length c.turn-passed.new.self.seats = ap (λ (xs : List Seat). length xs) c.seats-seats.ensures.value in
    let still : length c.loop-at.self.seats ≡ length c.turn-passed.new.self.seats = as_many calls c.turn-passed.new.self c.loop-at.self c.loop-at.at c.loop-at.invariant in
    let lt : c.loop-at.at < length c.loop-at.self.seats = omega (arith, first, still, c.loop-at-test.true) in
    let found : Found calls c.loop-at.self.seats c.loop-at.at (Some c.in-Some.host) = subst (λ (xs : List Seat). Found calls xs c.loop-at.at (Some c.in-Some.host)) c.seats.ensures.value c.in-Some.ensures in
    whole_round calls c.args.self.now c.turn-passed.new.self c.take_turn-answer.new.self c.turn-passed.result c.take_turn-answer.result c.turn-passed.ensures.gives on
    (stop_turned calls c.turn-passed.new.self c.loop-at.self c.take_turn-answer.new.self c.loop-at.at c.in-Some.host c.take_turn-answer.result lt c.loop-at.invariant found c.take_turn-answer.ensures is)

pub loop-at-preserved : goal.loop-at-preserved
loop-at-preserved g c =
    let calls : Calls g.row.C.Denot = shown g.C.Carrier.calls in
    let many : length c.seats.result.now ≡ length c.loop-at.self.seats = ap (λ (xs : List Seat). length xs) c.seats.ensures.value in
    let first : length c.seats-seats.result.now ≡ length c.turn-passed.new.self.seats = ap (λ (xs : List Seat). length xs) c.seats-seats.ensures.value in
    let still : length c.loop-at.self.seats ≡ length c.turn-passed.new.self.seats = as_many calls c.turn-passed.new.self c.loop-at.self c.loop-at.at c.loop-at.invariant in
    let lt : c.loop-at.at < length c.loop-at.self.seats = omega (arith, first, still, c.loop-at-test.true) in
    let seats : c.seats.result.now ≡ c.loop-at.self.seats = c.seats.ensures.value in
    let Next : WorldState g.row.C.Denot → Type 0 = λ w. Turned calls c.turn-passed.new.self (c.loop-at.at + 1) w in
    elim c.match-up_here.branch [
      | in-Some+else-stops-2 w ↦ subst Next (sym w.self-is)
          (one_turned calls c.turn-passed.new.self c.loop-at.self w.take_turn-answer.new.self c.loop-at.at w.in-Some.host w.take_turn-answer.result lt c.loop-at.invariant
          (subst (λ (xs : List Seat). Found calls xs c.loop-at.at (Some w.in-Some.host)) seats w.in-Some.ensures) w.take_turn-answer.ensures (sym w.stops-in-Some.ensures ∙ w.if-stops-2.false))
      | in_default w ↦ subst Next (sym w.self-is)
          (none_here calls c.turn-passed.new.self c.loop-at.self c.loop-at.at lt c.loop-at.invariant (subst (λ (xs : List Seat). Found calls xs c.loop-at.at None) seats w.in_default.ensures))
    ]

pub returns : goal.returns
returns g c =
    let calls : Calls g.row.C.Denot = shown g.C.Carrier.calls in
    let on : stops c.turn-passed.result ≡ false = sym c.stops.ensures ∙ c.if-stops.false in
    let first : length c.seats-seats.result.now ≡ length c.turn-passed.new.self.seats = ap (λ (xs : List Seat). length xs) c.seats-seats.ensures.value in
    let le : length c.turn-passed.new.self.seats ≤ c.loop-at.at = omega (arith, first, c.loop-at-test.false) in
    whole_round calls c.args.self.now c.turn-passed.new.self c.loop-at.self c.turn-passed.result (Ok tt) c.turn-passed.ensures.gives on (all_turned calls c.turn-passed.new.self c.loop-at.self c.loop-at.at le c.loop-at.invariant)
