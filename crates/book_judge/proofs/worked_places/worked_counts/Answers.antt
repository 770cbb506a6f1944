use Rattle.std.proofs.Common.{◌≡◌, inl, inr, arith}
use Rattle.book_judge.proofs.worked_places.worked_counts.Goals as goal

pub returns-clause-later_life : goal.returns-clause-later_life
returns-clause-later_life c = λ x log h. elim h [
  | inl few ↦ (let same : 1 ≡ 0 = few.1 in omega (arith, same))
  | inr as_many ↦ (let same : 1 ≡ 0 = as_many.0 in omega (arith, same))
]

pub returns-clause-earlier_life : goal.returns-clause-earlier_life
returns-clause-earlier_life c = λ x y bits log h. elim h [
  | inl few ↦ (let same : 0 ≡ 1 = few.1 in omega (arith, same))
  | inr as_many ↦ (let same : 2 ≡ 1 = as_many.0 in omega (arith, same))
]

pub returns-clause-later_list : goal.returns-clause-later_list
returns-clause-later_list c = λ bits log h. (let same : 1 ≡ 0 = h.1 in omega (arith, same))
