use Rattle.net_sim.proofs.Common.{rules, ◌≡◌, shown, world_ended, running, runs_out, EventGives, WorldState, Calls}
use Rattle.net_sim.specs.Inside.Held.{IsHeld, among}
use Rattle.net_sim.proofs.Books.Held.{core_live, turn_goes, turn_held}
use Rattle.net_sim.proofs.mixed_world.MixedWorld.turn_near.Goals as goal

pub follow_near-done-requires : goal.follow_near-done-requires
follow_near-done-requires g c = record {
  live = core_live g.C.Carrier.calls.seen c.args.self.now (search rules) (search rules) c.self.inside.hosts.seats (search rules);
}

pub invariant_of-self : goal.invariant_of-self
invariant_of-self g c =
    let calls : Calls g.row.C.Denot = g.C.Carrier.calls in
    let old : WorldState g.row.C.Denot = c.args.self.now in
    let new : WorldState g.row.C.Denot = world_ended c.follow_near-done.new.carrier c.follow_near-done.new.hosts.seats c.follow_near-done.new.hosts.services c.follow_near-done.new.hosts.book c.follow_near-done.result in
    let held : IsHeld g.C.Carrier.calls.seen c.args.self.now = search rules in
    let stop : c.runs_out-self-inside.result ≡ runs_out c.follow_near-done.result = search rules in
    let strangers : c.self.inside.strangers.items ≡ c.args.self.now.strangers = search rules in
    let gives : EventGives (shown calls) (running old.carrier old.seats old.services old.kept) c.args.event.now c.follow_near-done.result new = search rules in
    rw (stop, strangers) (turn_held calls old (among old.strangers new) c.follow_near-done.result held c.log.ensures.run c.args.event.now c.is_named.ensures
    (turn_goes (shown calls) c.args.event.now old c.follow_near-done.result new (search rules) gives))

pub returns : goal.returns
returns g c =
    let calls : Calls g.row.C.Denot = g.C.Carrier.calls in
    let old : WorldState g.row.C.Denot = c.args.self.now in
    let new : WorldState g.row.C.Denot = world_ended c.follow_near-done.new.carrier c.follow_near-done.new.hosts.seats c.follow_near-done.new.hosts.services c.follow_near-done.new.hosts.book c.follow_near-done.result in
    let stop : c.runs_out-self-inside.result ≡ runs_out c.follow_near-done.result = search rules in
    let strangers : c.self.inside.strangers.items ≡ c.args.self.now.strangers = search rules in
    let gives : EventGives (shown calls) (running old.carrier old.seats old.services old.kept) c.args.event.now c.follow_near-done.result new = search rules in
    rw (stop, strangers) (turn_goes (shown calls) c.args.event.now old c.follow_near-done.result new (search rules) gives)
