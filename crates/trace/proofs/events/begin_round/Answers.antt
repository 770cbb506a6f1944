use Rattle.trace.proofs.Common.{◌≡◌, length, rules, sym, ap, ◌∙◌, Calls}
use Rattle.std.proofs.lemmas.List.{length-reverse}
use Rattle.trace.proofs.events.begin_round.Goals as goal

pub returns-clause-begun : goal.returns-clause-begun
returns-clause-begun g c =
    let calls : Calls g.row.C.Denot = g.C.Carrier.calls in
    let parts : g.C.Inspect.inside.members c.args.carrier.now ≡ c.in_ok-parts.parts = search rules in
    (parts, sym (length-reverse (calls.seen c.args.carrier.now).log) ∙ ap length (sym c.log.ensures.value))
