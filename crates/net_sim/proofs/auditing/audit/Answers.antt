use Rattle.net_sim.proofs.Common.{◌≡◌, sym, subst, ◌↔◌, Says, Audit}
use Rattle.std.proofs.Common.{reverse}
use Rattle.net_sim.proofs.Audits.Judged.{judged_says}
use Rattle.net_sim.proofs.auditing.audit.Goals as goal

pub returns : goal.returns
returns c = λ said.
    let P : Audit → Type 0 = λ a. (a ≡ said) ↔ Says said (reverse c.args.log.now) c.args.lives.now c.args.handed.now in
    subst P (sym c.judged.ensures) (judged_says (reverse c.args.log.now) c.args.lives.now c.args.handed.now said)
