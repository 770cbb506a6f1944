use Rattle.std.proofs.Common.{◌≡◌, true, false, [], ◌∷◌, refl, ap, arith}
use Rattle.ncp_control.specs.declared.allocation.Allocation.{Allocation}
use Rattle.stream_law.specs.Words.{All}
use Rattle.stream_law.specs.Example.{two}
use Rattle.stream_law.proofs.law.worked_within.Goals as goal

pub returns-clause-waiting : goal.returns-clause-waiting
returns-clause-waiting c left = left.data_none 1 1 two refl

pub returns-clause-unclosed : goal.returns-clause-unclosed
returns-clause-unclosed c left = let both : false ≡ true = left.sender_closed 1 refl in absurd (cc)

pub returns-clause-waits : goal.returns-clause-waits
returns-clause-waits c = (
  (λ rest. (let e : two ∷ [] ≡ [] = rest.box in absurd (cc))),
  (λ agreed. (let e : [] ≡ two ∷ [] = agreed.taken in absurd (cc))),
)

pub returns-clause-transit : goal.returns-clause-transit
returns-clause-transit c = (
  (λ rest. (let e : All 1 1 3 ∷ [] ≡ [] = rest.to_sender in absurd (cc))),
  (λ agreed. (let e : 1 ≡ 2 = ap (λ (a : Allocation). a.messages) agreed.allocation in absurd (omega (arith, e)))),
)

pub returns-clause-closing : goal.returns-clause-closing
returns-clause-closing c rest = let e : false ≡ true = rest.receives in absurd (cc)

pub returns-clause-late_disagrees : goal.returns-clause-late_disagrees
returns-clause-late_disagrees c agreed = let e : 0 ≡ 2 = ap (λ (a : Allocation). a.messages) agreed.allocation in absurd (omega (arith, e))

pub returns-clause-late_prompt : goal.returns-clause-late_prompt
returns-clause-late_prompt c prompt = let e : false ≡ true = prompt.1.0 in absurd (cc)
