use Rattle.trace.proofs.Common.{◌≡◌, List, [], ◌∷◌, refl, sym, ◌∙◌, empty, Host}
use Rattle.leader1822.specs.Boxes.{for_host, with_queue}
use Rattle.interface.specs.declared.crossing.Answer.TheVariants as answer
use Rattle.trace.specs.Worked.{first, flow, short, third}
use Rattle.trace.proofs.Queues.{for_here, none_for}
use Rattle.trace.proofs.worked.worked_names.Goals as goal

-- a queue that something was put into is not empty
some : {A : Type 0} (h : Host) (x : A) → for_host (with_queue (empty {X = List A}) h (x ∷ [])) h ≡ for_host (empty {X = List A}) h → ⊥
some {A} h x same =
    let none : (x ∷ []) ≡ [] = sym (for_here empty h (x ∷ [])) ∙ same ∙ none_for {A = A} h in
    absurd (cc)

pub returns-clause-other_down : goal.returns-clause-other_down
returns-clause-other_down c same = let none : (first ∷ []) ≡ [] = same in absurd (cc)

pub returns-clause-other_messages : goal.returns-clause-other_messages
returns-clause-other_messages c same = some third short same.0

pub returns-clause-other_answers : goal.returns-clause-other_answers
returns-clause-other_answers c same = some first (answer.Rfnm, flow) same.1
