use Rattle.book_judge.proofs.Common.{◌≡◌, ◌≤◌, [], ◌∷◌, false, length, inl, inr, sym, subst, ◌∙◌, refl, arith, Life, before, gave, sent_log, took}
use Rattle.promise.specs.Ends.{Going, Over, Stopped, stage}
use Rattle.promise.specs.Formed.{IsFormed, link_of, texts_on}
use Rattle.book_judge.specs.Lives.{IsMade}
use Rattle.bit_messages.specs.Octets.{octets_of}
use Rattle.ncp_control.specs.Reading.{command_of, read_of}
use Rattle.host_pairs.specs.Control.{orders_of}
use Rattle.book_judge.specs.WorkedLives.{stopped_log}
use Rattle.book_judge.proofs.Crossed.Made.{made_formed, none_made}
use Rattle.book_judge.proofs.Identities.Named.{contains_cases}
use Rattle.book_judge.proofs.Worked.{gave_goes, took_goes}
use Rattle.book_judge.proofs.law.worked_lives.Goals as goal
use Rattle.interface.proofs.lemmas.{contains_head, contains_none}

going_made : (x : Life) → stage [] x sent_log ≡ Going false false → IsFormed sent_log x → IsMade sent_log x
going_made x goes f = record {
  formed = f;
  within = λ cause place is. absurd (let no : Going false false ≡ Over cause place = sym goes ∙ is in cc);
}

pub returns-clause-made : goal.returns-clause-made
returns-clause-made c = λ x there.
    elim (contains_cases took (gave ∷ []) x there) [
      | inl e ↦ subst (λ (y : Life). IsMade sent_log y) e (going_made took took_goes c.worked_formed.ensures.took)
      | inr more ↦ elim (contains_cases gave [] x more) [
        | inl e ↦ subst (λ (y : Life). IsMade sent_log y) e (going_made gave gave_goes c.worked_formed.ensures.gave)
        | inr none ↦ absurd (contains_none x none)
      ]
    ]

pub returns-clause-formed : goal.returns-clause-formed
returns-clause-formed c = made_formed

-- when the host stops sixteen messages and answers have crossed
stops : stage [] took stopped_log ≡ Over Stopped 16
unfolding octets_of orders_of read_of command_of
stops = refl

none_before : length (texts_on took (link_of stopped_log took) (before 16 stopped_log)) ≡ 0
unfolding octets_of orders_of read_of command_of
none_before = refl

pub returns-clause-late : goal.returns-clause-late
returns-clause-late c = λ made.
    (let enough : 1 ≤ length (texts_on took (link_of stopped_log took) (before 16 stopped_log)) =
    (made took (contains_head took [])).within Stopped 16 stops in
    let none : length (texts_on took (link_of stopped_log took) (before 16 stopped_log)) ≡ 0 = none_before in
    omega (arith, enough, none))

pub returns-clause-nothing : goal.returns-clause-nothing
returns-clause-nothing c = λ x. none_made x

pub returns-clause-none : goal.returns-clause-none
returns-clause-none c = λ x there. absurd (contains_none x there)

pub returns-clause-no_made : goal.returns-clause-no_made
returns-clause-no_made c = λ unmade. unmade.1 (λ x there.
    (let P : Life → Type 0 = λ y. IsMade sent_log y in
    elim (contains_cases took [] x there) [
      | inl e ↦ subst P e (going_made took took_goes c.worked_formed.ensures.took)
      | inr none ↦ absurd (contains_none x none)
    ]))

pub returns-clause-no_later : goal.returns-clause-no_later
returns-clause-no_later c = λ x y unmade. (none_made x).1 unmade.0
