use Rattle.std.proofs.Common.{◌≡◌, ℕ, ◌+◌, true, false, not, List, [], ◌∷◌, ◌++◌, if◌then◌else◌, sym, ap, ◌∙◌, ◌≤◌, ◌<◌, arith, length, refl}
use Rattle.std.proofs.lemmas.List.{append_assoc, append-nil}
use Rattle.script.specs.Script.{is_passed_over, lines_of, lines_after}
use Rattle.trace.specs.Traces.{asking_from}
use Rattle.script.proofs.lemmas.{drop_next, length_next, line_count}
use Rattle.trace.proofs.numbers.event_lines.Goals as goal
use Rattle.trace.proofs.numbers.event_lines.Goals.{then-not-is_passed_over+in_ok-push, else-not-is_passed_over}

asking_past : (numbers : List ℕ) (n : ℕ) (line : List ℕ) (lines : List (List ℕ)) → is_passed_over line ≡ true → numbers ++ asking_from n (line ∷ lines) ≡ numbers ++ asking_from (n + 1) lines
asking_past numbers n line lines passed = ap (λ p. numbers ++ ((if not p then n ∷ [] else []) ++ asking_from (n + 1) lines)) passed

asking_next : (numbers : List ℕ) (n : ℕ) (line : List ℕ) (lines : List (List ℕ)) → is_passed_over line ≡ false → numbers ++ asking_from n (line ∷ lines) ≡ (numbers ++ n ∷ []) ++ asking_from (n + 1) lines
asking_next numbers n line lines asked =
    ap (λ p. numbers ++ ((if not p then n ∷ [] else []) ++ asking_from (n + 1) lines)) asked ∙ sym (append_assoc numbers (n ∷ []) (asking_from (n + 1) lines))

pub lines-init : goal.lines-init
lines-init c = (refl, ap (λ xs. xs ++ asking_from 1 (lines_of c.args.script.now)) c.new-numbers.ensures.items, c.requires)

pub overflow_add-passed : goal.overflow_add-passed
overflow_add-passed c =
    let before : c.lines.passed < length (lines_of c.args.script.now) = length_next c.lines.passed (lines_of c.args.script.now) (lines_after c.first_line.result.1) c.first_line.result.0.now (c.lines.invariant.0 ∙ ap lines_after c.in-Some.is ∙ c.first_line.ensures.lines) in
    let most : length (lines_of c.args.script.now) ≤ length c.args.script.now + 1 = line_count c.args.script.now in
    let few : length c.args.script.now ≤ 268435456 = c.lines.invariant.2 in
    omega arith

pub overflow_add-passed-in-Some : goal.overflow_add-passed-in-Some
overflow_add-passed-in-Some c =
    let before : c.lines.passed < length (lines_of c.args.script.now) = length_next c.lines.passed (lines_of c.args.script.now) (lines_after c.first_line.result.1) c.first_line.result.0.now (c.lines.invariant.0 ∙ ap lines_after c.in-Some.is ∙ c.first_line.ensures.lines) in
    let most : length (lines_of c.args.script.now) ≤ length c.args.script.now + 1 = line_count c.args.script.now in
    let few : length c.args.script.now ≤ 268435456 = c.lines.invariant.2 in
    omega arith

pub lines-preserved : goal.lines-preserved
lines-preserved c =
    let later = lines_after c.first_line.result.1 in
    let line = c.first_line.result.0.now in
    let here = ap (λ ls. c.lines.numbers.items ++ asking_from (c.lines.passed + 1) ls) (sym (ap lines_after c.in-Some.is ∙ c.first_line.ensures.lines)) ∙ c.lines.invariant.1 in (
      drop_next c.lines.passed (lines_of c.args.script.now) later line (c.lines.invariant.0 ∙ ap lines_after c.in-Some.is ∙ c.first_line.ensures.lines),
      elim c.if-not-is_passed_over.branch [
        | then-not-is_passed_over+in_ok-push w ↦ ap (λ v. v.items ++ asking_from (c.lines.passed + 1 + 1) later) w.numbers-is ∙ ap (λ xs. xs ++ asking_from (c.lines.passed + 1 + 1) later) w.in_ok-push.ensures.items ∙ sym (asking_next c.lines.numbers.items (c.lines.passed + 1) line later (sym c.is_passed_over.ensures ∙ w.if-not-is_passed_over.true)) ∙ here
        | else-not-is_passed_over w ↦ ap (λ v. v.items ++ asking_from (c.lines.passed + 1 + 1) later) w.numbers-is ∙ sym (asking_past c.lines.numbers.items (c.lines.passed + 1) line later (sym c.is_passed_over.ensures ∙ w.if-not-is_passed_over.false)) ∙ here
      ],
      c.lines.invariant.2,
    )

pub returns : goal.returns
returns c = sym (append-nil c.lines.numbers.items) ∙ ap (λ ls. c.lines.numbers.items ++ asking_from (c.lines.passed + 1) ls) (sym (ap lines_after c.in_default.is)) ∙ c.lines.invariant.1
