use Rattle.std.proofs.Common.{reverse, sym, ◌∙◌}
use Rattle.std.specs.List.{slice_get}
use Rattle.net_sim.specs.Inside.Audit.{handed_at, is_fed}
use Rattle.std.proofs.lemmas.Bool.{and_left, and_right}
use Rattle.net_sim.proofs.Audits.Streams.{fed_more, fed_stops}
use Rattle.net_sim.proofs.auditing.streams.unfed_at.Goals.{then-not-is_fed-via-then-not-is_fed, then-not-is_fed-via-else-not-is_fed+then-not-is_handed_at}
use Rattle.net_sim.proofs.auditing.streams.unfed_at.Goals as goal

pub returns-then-not-is_fed : goal.returns-then-not-is_fed
returns-then-not-is_fed c =
    let fed = is_fed (reverse c.args.log.now) c.args.lives.now c.index-lives-place.result in
    let handed = handed_at c.index-lives-place.result (slice_get c.args.handed.now c.loop-place.place) in
    fed_stops (reverse c.args.log.now) c.args.lives.now c.args.handed.now c.loop-place.place c.index-lives-place.result c.loop-place-test.true c.index-lives-place.is
    (elim c.then-not-is_fed.branch [
      | then-not-is_fed-via-then-not-is_fed w ↦ and_left fed handed (sym c.is_fed.ensures ∙ w.if-not-is_fed.true)
      | then-not-is_fed-via-else-not-is_fed+then-not-is_handed_at w ↦ and_right fed handed (sym w.is_handed_at.ensures ∙ w.if-not-is_handed_at.true)
    ])
    c.loop-place.invariant

pub loop-place-preserved : goal.loop-place-preserved
loop-place-preserved c =
    fed_more (reverse c.args.log.now) c.args.lives.now c.args.handed.now c.loop-place.place c.index-lives-place.result c.is_fed.result c.is_handed_at.result c.loop-place-test.true
    c.index-lives-place.is c.is_fed.ensures c.is_handed_at.ensures c.if-not-is_fed.false c.if-not-is_handed_at.false c.loop-place.invariant
