use Rattle.net_sim.proofs.Common.{[], ◌∷◌, refl, subst, arith, Life, SafePartners, AreAtPeace}
use Rattle.net_sim.proofs.Common.{crossings, giver, taker}
use Rattle.std.proofs.lemmas.Option.{same_Some}
use Rattle.net_sim.specs.Findings.{ShowsTwo}
use Rattle.net_sim.specs.declared.auditing.findings.Finding.TheVariants as finding
use Rattle.net_sim.proofs.Audits.Elements.{contains_head, contains_tail}
use Rattle.net_sim.proofs.Books.SafeRow.{partners}
use Rattle.net_sim.proofs.Books.Unsafe.{one_there}
use Rattle.net_sim.proofs.worked_findings.odd_pairs.Goals as goal

-- two that are the same have their requests in common
at_odds : SafePartners crossings (taker ∷ taker ∷ []) → ⊥
at_odds s = s.own_once taker taker ([], [], [], refl) refl

at_odds_after : SafePartners crossings (giver ∷ taker ∷ taker ∷ []) → ⊥
at_odds_after s = s.own_once taker taker (giver ∷ [], [], [], refl) refl

at_peace : AreAtPeace crossings (giver ∷ []) taker
at_peace x there =
    subst (λ (z : Life). SafePartners crossings (z ∷ taker ∷ [])) (one_there giver x there) partners

no_peace : AreAtPeace crossings (giver ∷ taker ∷ []) taker → ⊥
no_peace peace = at_odds (peace taker (contains_tail giver (taker ∷ []) taker (contains_head taker [])))

not_sender : ShowsTwo (finding.Lives 0 2) crossings (giver ∷ taker ∷ taker ∷ []) → ⊥
not_sender (ends, (y, is, less, (peace, odds))) =
    odds (subst (λ (z : Life). AreAtPeace crossings (giver ∷ []) z) (same_Some taker y is) at_peace)

pub returns-clause-twice : goal.returns-clause-twice
returns-clause-twice c = ((partners, at_odds_after), (taker, refl, omega arith, (at_peace, no_peace)))

pub returns-clause-sender : goal.returns-clause-sender
returns-clause-sender c = not_sender
