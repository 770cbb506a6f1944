use Rattle.std.proofs.Common.{◌≡◌, true, false, refl}
use Rattle.world_keeps_lives.proofs.Rows.{row_early, row_granted}
use Rattle.world_keeps_lives.proofs.law.worked_ends.Goals as goal

pub returns-clause-fresh : goal.returns-clause-fresh
returns-clause-fresh c = λ f. (refl, refl)

pub returns-clause-early : goal.returns-clause-early
returns-clause-early c = row_early

pub returns-clause-granted : goal.returns-clause-granted
returns-clause-granted c = row_granted

pub returns-clause-mine : goal.returns-clause-mine
returns-clause-mine c = refl

pub returns-clause-refusing : goal.returns-clause-refusing
returns-clause-refusing c = ((λ f. refl), ((λ f. absurd (let q : true ≡ false = f in cc)), tt))

pub returns-clause-kept : goal.returns-clause-kept
returns-clause-kept c = λ h. absurd (let q : false ≡ true = h.0 refl in cc)
