use Rattle.book_log.proofs.Common.{[], ◌∷◌, refl, All-cons, All-head, All-nil, IsHost, false≢true}
use Rattle.std.specs.Fmt.{digits}
use Rattle.book_log.proofs.law.worked_strangers.Goals as goal

pub returns-clause-two : goal.returns-clause-two
unfolding digits
returns-clause-two c = refl

pub returns-clause-by_imp : goal.returns-clause-by_imp
returns-clause-by_imp c = record {
  valid = All-cons IsHost (record { host = 1; imp = 2 }) (record { host = 0; imp = 13 } ∷ []) refl (All-cons IsHost (record { host = 0; imp = 13 }) [] refl (All-nil IsHost));
  rising = (refl, tt);
}

pub returns-clause-by_number : goal.returns-clause-by_number
returns-clause-by_number c = record {
  valid = All-cons IsHost (record { host = 0; imp = 2 }) (record { host = 1; imp = 2 } ∷ []) refl (All-cons IsHost (record { host = 1; imp = 2 }) [] refl (All-nil IsHost));
  rising = (refl, tt);
}

pub returns-clause-falling : goal.returns-clause-falling
returns-clause-falling c = λ are. false≢true are.rising.0

pub returns-clause-falling_number : goal.returns-clause-falling_number
returns-clause-falling_number c = λ are. false≢true are.rising.0

pub returns-clause-twice : goal.returns-clause-twice
returns-clause-twice c = λ are. false≢true are.rising.0

pub returns-clause-no_host : goal.returns-clause-no_host
returns-clause-no_host c = λ are. not_there (All-head IsHost (record { host = 4; imp = 2 }) [] are.valid)
  where
    not_there : IsHost (record { host = 4; imp = 2 }) → ⊥
    not_there e = absurd (cc)
