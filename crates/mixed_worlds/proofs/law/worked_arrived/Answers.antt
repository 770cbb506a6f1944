use Rattle.mixed_worlds.proofs.Common.{◌≡◌, true, false, List, [], ◌∷◌, ◌++◌, refl, ap, ◌∙◌, arith, Flow, Crossing, on_link, second, third, first, ArrivedAmong}
use Rattle.interface.specs.declared.crossing.Answer.TheVariants as answer
use Rattle.interface.specs.declared.crossing.Crossing.TheVariants as crossing
use Rattle.mixed_worlds.specs.Worked.{is_third}
use Rattle.mixed_worlds.proofs.law.worked_arrived.Goals as goal

-- RFNM of this flow is all that crossed
only : (f g : Flow) (newer older : List Crossing)
    → (crossing.Answer answer.Rfnm f ∷ []) ≡ newer ++ crossing.Answer answer.Rfnm g ∷ older → f ≡ g
only f g [] older is = cc
only f g (d ∷ []) older is = absurd (cc)
only f g (d ∷ e ∷ newer) older is = absurd (cc)

-- a stranger is at one of its ends
of_stranger : (f : Flow) → ((g : Flow) → f ≡ g → is_third g.source ≡ false → is_third g.destination ≡ false → ⊥)
    → ArrivedAmong is_third [] (crossing.Answer answer.Rfnm f ∷ []) [] []
of_stranger f none = record {
  all = λ x i kind. absurd i;
  closed = λ x y own i going there m. absurd i;
  answered = λ newer older g is off source destination. absurd (none g (only f g newer older is) source destination);
}

pub returns-clause-destination : goal.returns-clause-destination
returns-clause-destination c = of_stranger (on_link second third 2)
    (λ g is source destination.
    let no : true ≡ false = ap (λ (f : Flow). is_third f.destination) is ∙ destination in cc)

pub returns-clause-source : goal.returns-clause-source
returns-clause-source c = of_stranger (on_link third second 2)
    (λ g is source destination. let no : true ≡ false = ap (λ (f : Flow). is_third f.source) is ∙ source in cc)

pub returns-clause-unsent : goal.returns-clause-unsent
returns-clause-unsent c arrived =
    let there = (arrived.answered [] [] (on_link first second 2) refl refl refl refl).there in
    absurd (omega (arith, there.1))

pub returns-clause-as_any : goal.returns-clause-as_any
returns-clause-as_any c = record {
  any = λ strange contacts log lives fates book. record {
    all = book.all;
    closed = book.closed;
    answered = λ newer older f is off source destination. book.answered newer older f is off;
  };
  nobody = λ contacts log lives fates among. record {
    all = among.all;
    closed = among.closed;
    answered = λ newer older f is off. among.answered newer older f is off refl refl;
  };
}
