use Rattle.book_judge.proofs.Common.{◌≤◌, ◌+◌, true, false, [], ◌∷◌, refl, arith, append-nil, IsPrefix}
use Rattle.book_judge.proofs.FirstLives.Strangers.{of_stranger, untoward_here, with_program}
use Rattle.book_judge.proofs.law.worked_toward.Goals as goal

pub returns-clause-owner : goal.returns-clause-owner
returns-clause-owner c =
    λ strange x text e. untoward_here strange 0 (x ∷ []) (text ∷ []) x text refl refl tt (of_stranger strange x text e)

pub returns-clause-among : goal.returns-clause-among
returns-clause-among c = λ strange x text own peer. (with_program strange x text own peer, tt)

pub returns-clause-granted : goal.returns-clause-granted
returns-clause-granted c = λ strange text apart. (
  record {
    owner = apart.0;
    taken = λ peer comes. record { messages = omega arith; bits = omega arith };
    handed = λ peer goes. absurd (cc);
  },
  tt,
)

pub returns-clause-bits : goal.returns-clause-bits
returns-clause-bits c =
    λ strange text apart all. (let over : 2 + 0 ≤ 1 = (all.0.taken apart.1 refl).bits in omega (arith, over))

pub returns-clause-messages : goal.returns-clause-messages
returns-clause-messages c =
    λ strange text apart all. (let over : 1 + 0 ≤ 0 = (all.0.taken apart.1 refl).messages in omega (arith, over))

pub returns-clause-handed : goal.returns-clause-handed
returns-clause-handed c = λ strange text apart. (
  record {
    owner = apart.0;
    taken = λ peer comes. absurd (cc);
    handed = λ peer goes. ([], append-nil text);
  },
  tt,
)

pub returns-clause-other : goal.returns-clause-other
returns-clause-other c = λ strange apart all. no_prefix (all.0.handed apart.1 refl)
  where
    no_prefix : IsPrefix (true ∷ []) (false ∷ []) → ⊥
    no_prefix (rest, e) = absurd (cc)

pub returns-clause-less : goal.returns-clause-less
returns-clause-less c = λ strange apart. record {
  owner = apart.0;
  taken = λ peer comes. absurd (cc);
  handed = λ peer goes. (false ∷ [], refl);
}

pub returns-clause-more : goal.returns-clause-more
returns-clause-more c = λ strange apart it. no_prefix (it.handed apart.1 refl)
  where
    no_prefix : IsPrefix (true ∷ false ∷ []) (true ∷ []) → ⊥
    no_prefix (rest, e) = absurd (cc)

pub returns-clause-second : goal.returns-clause-second
returns-clause-second c = λ x y strange own peer e. untoward_here strange 1 (x ∷ y ∷ []) ([] ∷ [] ∷ []) y [] refl refl
    (with_program strange x [] own peer, tt) (of_stranger strange y [] e)

pub returns-clause-later : goal.returns-clause-later
returns-clause-later c = λ strange x y text more e named. of_stranger strange x text e named.0.0
