use Rattle.std.proofs.Common.{◌≡◌, false, rules, true}
use Rattle.interface.specs.Calls.{Calls}
use Rattle.command_line.specs.Events.{are_some}
use Rattle.session.proofs.Sessions.{ends_as}
use Rattle.session.proofs.Strangers.{among_prints, raw_prints, refused, world_prints}
use Rattle.session.proofs.running.serve_over.Goals as goal

pub returns-then-raw-clause-ends : goal.returns-then-raw-clause-ends
returns-then-raw-clause-ends g c =
    let calls : Calls g.row.C.Denot = g.C.Carrier.calls in
    rw c.if-raw.true (ends_as _ (record {
      prints = λ script said short h. raw_prints calls c.args.carrier c.args.strangers.now c.requires.unused script said h.0.carrier
          (record { events = h.1.events; asked = h.1.asked; replayed = h.1.replayed });
      refuses = λ script number short bad. bad;
    }) _ _ c.answer_lines.result c.answer_lines.ensures.ends)

pub returns-in_ok-world-clause-ends : goal.returns-in_ok-world-clause-ends
returns-in_ok-world-clause-ends g c =
    let calls : Calls g.row.C.Denot = g.C.Carrier.calls in
    let none : are_some c.args.strangers.now ≡ false = search rules in
    rw c.if-raw.false (ends_as _ (record {
      prints = λ script said short h. world_prints calls c.args.carrier c.args.strangers.now none c.in_ok-world.world c.in_ok-world.ensures script said h;
      refuses = λ script number short bad. refused calls c.args.carrier c.args.strangers.now false none script number bad;
    }) _ _ c.answer_lines-then-is_empty.result c.answer_lines-then-is_empty.ensures.ends)

pub returns-in-Ok-clause-ends : goal.returns-in-Ok-clause-ends
returns-in-Ok-clause-ends g c =
    let calls : Calls g.row.C.Denot = g.C.Carrier.calls in
    let some : are_some c.args.strangers.now ≡ true = search rules in
    rw c.if-raw.false (ends_as _ (record {
      prints = λ script said short h. among_prints calls c.args.carrier c.args.strangers.now some c.in-Ok.world c.in-Ok.ensures.1 script said h;
      refuses = λ script number short bad. refused calls c.args.carrier c.args.strangers.now true some script number bad;
    }) _ _ c.answer_lines-else-is_empty.result c.answer_lines-else-is_empty.ensures.ends)
