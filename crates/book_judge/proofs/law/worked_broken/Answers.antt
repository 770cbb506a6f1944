use Rattle.book_judge.proofs.Common.{◌≡◌, [], ◌∷◌, Some, None, refl, arith, inl, inr, AreTwo, Life, contains_none}
use Rattle.book_judge.proofs.law.worked_broken.Goals as goal

no_two : (x y : Life) → AreTwo [] x y → ⊥
no_two x y ([], between, rest, e) = absurd (cc)
no_two x y (z ∷ front, between, rest, e) = absurd (cc)

pub returns-clause-whole : goal.returns-clause-whole
returns-clause-whole c = record {
  formed = record { counts = refl; stamped = λ x there. absurd (contains_none x there) };
  partners = record {
    own_once = λ x y two e. no_two x y two;
    partner_once = λ x y name two e f. no_two x y two;
    named = λ x there. absurd (contains_none x there);
    peers = λ x y there other e. absurd (contains_none x there);
    both_ways = λ x y there other e. absurd (contains_none x there);
  };
  streams = record { source = λ x there r some. absurd (contains_none x there); sent = refl };
  grants = record {
    counted = record { taken = λ x there r. absurd (contains_none x there); sent = λ x y there other m. absurd (contains_none x there) };
    crossed = λ x link there sending named. absurd (contains_none x there);
  };
  sent = λ x place m there receiving crossed counted. absurd (contains_none x there);
  closes = record { took_sent = λ x y beside there m. absurd beside; took_handed = λ x y text beside there m. absurd beside };
}

pub returns-clause-list : goal.returns-clause-list
returns-clause-list c = λ h. record { formed = (omega arith, refl); partners = refl; streams = refl; grants = refl; sent = refl; closes = refl }

pub returns-clause-no_life : goal.returns-clause-no_life
returns-clause-no_life c = λ h n b. elim b.formed [
  | inl few ↦ (let less = few.0 in omega (arith, less))
  | inr at ↦ (let same = at.0 in omega (arith, same))
]

pub returns-clause-not_whole : goal.returns-clause-not_whole
returns-clause-not_whole c = λ h b. (let same = b.formed.counts in omega (arith, same))

pub returns-clause-no_part : goal.returns-clause-no_part
returns-clause-no_part c = λ h found b. (let none : Some found ≡ None = b.grants in absurd (cc))
