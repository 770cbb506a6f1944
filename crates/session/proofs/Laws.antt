-- A session is what is printed of its script.
use Rattle.std.proofs.lemmas.Grind.{flat_map-append}
use Rattle.std.proofs.Common.{◌≡◌, ◌++◌, ◌∙◌, ℕ, List, ap, arith, drop, length, subst, sym, take}
use Rattle.std.proofs.lemmas.List.{take-append-drop, take_all}
use Rattle.session.specs.Laws.{PrintsOnce}
use Rattle.session.specs.Turns.{AnswersInTurn, Turn, answers_of, script_of}

module _ (Prints : List ℕ → List ℕ → Type 0) (turns : List Turn) (h : AnswersInTurn Prints turns) where
  pub all_printed : Prints (script_of turns) (answers_of turns)
  all_printed = subst (λ (us : List Turn). Prints (script_of us) (answers_of us)) (take_all (length turns) turns (omega arith)) (h.in_turn (length turns))

  pub first_printed : PrintsOnce Prints → (n : ℕ) (out whole : List ℕ) → Prints (script_of (take n turns)) out
      → Prints (script_of turns) whole → (rest : List ℕ) × (whole ≡ out ++ rest)
  first_printed once n out whole first all =
      let parts : answers_of turns ≡ answers_of (take n turns) ++ answers_of (drop n turns) =
      ap answers_of (sym (take-append-drop n turns)) ∙ flat_map-append (λ (t : Turn). t.answer) (take n turns) (drop n turns) in (
        answers_of (drop n turns),
        once (script_of turns) whole (answers_of turns) all all_printed ∙ parts
            ∙ ap (λ xs. xs ++ answers_of (drop n turns)) (once (script_of (take n turns)) (answers_of (take n turns)) out (h.in_turn n) first),
      )
