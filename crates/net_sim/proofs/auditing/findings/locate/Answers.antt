use Rattle.net_sim.proofs.Common.{◌≡◌, MatchOption, rules, subst, sym, Says, Shows, Audit}
use Rattle.std.proofs.Common.{reverse}
use Rattle.net_sim.specs.declared.auditing.said.Audit.TheVariants as audit
use Rattle.net_sim.specs.declared.auditing.said.Part.TheVariants as part
use Rattle.net_sim.proofs.Audits.Shown.{shown_streams}
use Rattle.net_sim.proofs.auditing.findings.locate.Goals as goal

pub returns-in-Broken-Streams : goal.returns-in-Broken-Streams
returns-in-Broken-Streams c =
    let same : c.args.said ≡ audit.Broken part.Streams = search rules in
    let says = subst (λ (a : Audit). Says a (reverse c.args.log.now) c.args.lives.now c.args.handed.now) same c.requires in
    subst (λ (a : Audit). MatchOption c.broken_streams.result (a ≡ audit.Kept) (λ found. Shows a found (reverse c.args.log.now) c.args.lives.now c.args.handed.now)) (sym same)
    (shown_streams (reverse c.args.log.now) c.args.lives.now c.args.handed.now c.broken_streams.result says c.broken_streams.ensures)
