use Rattle.net_sim.proofs.Common.{rules, runs_out, ◌≡◌, shown, world_ended, running, WorldState, Calls}
use Rattle.net_sim.specs.Inside.Held.{IsHeld, among}
use Rattle.net_sim.specs.Steps.{AmongGives}
use Rattle.net_sim.proofs.Books.Held.{core_live, step_goes, step_held}
use Rattle.net_sim.proofs.mixed_world.MixedWorld.step.Goals as goal

pub follow_among-done-requires : goal.follow_among-done-requires
follow_among-done-requires g c = record {
  live = core_live g.C.Carrier.calls.seen c.args.self.now (search rules) (search rules) c.self.inside.hosts.seats (search rules);
}

pub invariant_of-self : goal.invariant_of-self
invariant_of-self g c =
    let calls : Calls g.row.C.Denot = g.C.Carrier.calls in
    let old : WorldState g.row.C.Denot = c.args.self.now in
    let new : WorldState g.row.C.Denot = among old.strangers (world_ended c.follow_among-done.new.carrier c.follow_among-done.new.hosts.seats c.follow_among-done.new.hosts.services c.follow_among-done.new.hosts.book c.follow_among-done.result) in
    let held : IsHeld g.C.Carrier.calls.seen c.args.self.now = search rules in
    let stop : c.runs_out-self-inside.result ≡ runs_out c.follow_among-done.result = search rules in
    let strangers : c.self.inside.strangers.items ≡ c.args.self.now.strangers = search rules in
    let gives : AmongGives (shown calls) (among old.strangers (running old.carrier old.seats old.services old.kept)) c.args.event c.follow_among-done.result new = search rules in
    rw (stop, strangers) (step_held calls old new c.follow_among-done.result held c.log.ensures.run c.args.event c.is_named.ensures
    (step_goes (shown calls) c.args.event old c.follow_among-done.result new (search rules) gives))
