use Rattle.std.proofs.Common.{reverse, length, refl}
use Rattle.std.proofs.lemmas.Option.{slice_get_read}
use Rattle.net_sim.proofs.Audits.Shown.{with_none, with_some}
use Rattle.net_sim.proofs.auditing.findings.with_match.Goals as goal

pub returns-in-Some : goal.returns-in-Some
returns-in-Some c =
    with_some (reverse c.args.log.now) c.args.lives.now c.args.place c.in-Some.other c.index-lives-place.result
    (slice_get_read c.args.lives.now (length c.args.lives.now) c.args.place c.index-lives-place.result refl c.requires c.index-lives-place.is) c.in-Some.ensures

pub returns-in-None : goal.returns-in-None
returns-in-None c =
    with_none (reverse c.args.log.now) c.args.lives.now c.args.place c.index-lives-place.result
    (slice_get_read c.args.lives.now (length c.args.lives.now) c.args.place c.index-lives-place.result refl c.requires c.index-lives-place.is) c.in-None.ensures
