use Rattle.net_sim.proofs.Common.{◌≡◌, true, false, List, [], ◌∷◌, refl, ap, ◌∙◌, arith, Crossing, Life}
use Rattle.net_sim.proofs.Common.{AreUnmatched, Match, receives, crossings, giver, taker}
use Rattle.std.proofs.lemmas.Option.{same_Some}
use Rattle.net_sim.specs.Findings.{WithMatch}
use Rattle.net_sim.specs.declared.auditing.findings.Finding.TheVariants as finding
use Rattle.net_sim.proofs.Audits.Elements.{contains_head, contains_none}
use Rattle.net_sim.proofs.worked_findings.matched_lives.Goals as goal

matches : Match crossings taker giver
matches = record {
  receiving = refl;
  sending = refl;
  peers = (refl, refl);
  sockets = (refl, refl);
  asked = refl;
  answered = refl;
}

not_named : (log : List Crossing) (y : Life) → WithMatch (finding.Lives 0 1) 0 log (giver ∷ y ∷ []) → ⊥
not_named log y (at, (x, is, less, (before, matched))) =
    matched (λ z there m. absurd (let sends : false ≡ true = ap receives (same_Some giver x is) ∙ m.receiving in cc))

first_match : WithMatch (finding.Lives 1 0) 1 crossings (giver ∷ taker ∷ [])
first_match =
    let none : AreUnmatched crossings [] taker = λ y there. absurd (contains_none y there) in
    (refl, (taker, refl, omega arith, (none, λ none. none giver (contains_head giver []) matches)))

pub returns-clause-receiver : goal.returns-clause-receiver
returns-clause-receiver c = first_match

pub returns-clause-sender : goal.returns-clause-sender
returns-clause-sender c = not_named
