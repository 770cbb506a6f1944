use Rattle.session.proofs.Common.{IsLine}
use Rattle.std.proofs.lemmas.List.Elements.{All-cons, All-nil}
use Rattle.std.proofs.Common.{◌≡◌, ◌==◌, ℕ, zero, suc, List, [], ◌∷◌, codes, false, inl, ap, sym, ◌∙◌, refl, take}
use Rattle.session.specs.Laws.{Echoes, two}
use Rattle.session.specs.Turns.{Turn, answers_of, script_of}
use Rattle.session.proofs.Turns.{take_none}
use Rattle.session.proofs.law.worked_sessions.Goals as goal

abbrev IsOther : ℕ → Type 0
IsOther x = (x == 10) ≡ false

one : (x : ℕ) → IsOther x → IsLine (x ∷ [])
one x other = All-cons (λ y. (y == 10) ≡ false) x [] other (All-nil (λ y. (y == 10) ≡ false))

-- a line that is answered by itself
abbrev turn : List ℕ → Turn
turn line = record { line = line; answer = line }

each : (n : ℕ) → Echoes (script_of (take n (two (codes "a\n") (codes "b\n")))) (answers_of (take n (two (codes "a\n") (codes "b\n"))))
each zero = refl
each (suc zero) = refl
each (suc (suc n)) = ap (λ (us : List Turn). answers_of (turn (codes "a\n") ∷ turn (codes "b\n") ∷ us)) (take_none n)
    ∙ sym (ap (λ (us : List Turn). script_of (turn (codes "a\n") ∷ turn (codes "b\n") ∷ us)) (take_none n))

pub returns-clause-in_turn : goal.returns-clause-in_turn
returns-clause-in_turn c = record {
  lines = ((codes "a", one 97 refl, refl), inl (codes "b", one 98 refl, refl));
  in_turn = each;
}

pub returns-clause-withheld : goal.returns-clause-withheld
returns-clause-withheld c = λ h. (let e : [] ≡ codes "a\n" = h.in_turn 1 in cc)

pub returns-clause-joined : goal.returns-clause-joined
returns-clause-joined c = λ h. (let e : [] ≡ codes "a\n" = h.in_turn 1 in cc)

pub returns-clause-early : goal.returns-clause-early
returns-clause-early c = λ h. (let e : codes "a\nb\n" ≡ codes "a\n" = h.in_turn 1 in cc)

pub returns-clause-empty_line : goal.returns-clause-empty_line
returns-clause-empty_line c = λ h. (let e : codes "a\n\n" ≡ codes "a\n" = h.in_turn 1 in cc)
