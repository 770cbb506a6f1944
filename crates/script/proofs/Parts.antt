-- Going through the lines of an input up to its mark.
use Rattle.script.proofs.Common.{All-append, All-cons, All-nil, All, flat_map, ended_line, IsParted}
use Rattle.std.proofs.Common.{◌≡◌, ◌≢◌, ℕ, ◌+◌, List, [], ◌∷◌, ◌++◌, length, take, codes, Option, Some, None, Bor, refl, sym, ap, ◌∙◌, inl, inr, MatchOption, ◌⊎◌}
use Rattle.std.proofs.lemmas.List.{append_assoc, append-nil, take_at, length-append}
use Rattle.std.proofs.lemmas.Grind.{flat_map-append}
use Rattle.script.specs.Script.{lines_of, lines_after}

-- what was passed of an input: whole lines that aren't the mark
pub record Passed (input : List ℕ) (passed : ℕ) (rest : Option (Bor (List ℕ))) : Type 0 where
  pub before : List (List ℕ)
  pub unmarked : All (λ line. line ≢ codes "%") before
  pub lines : lines_of input ≡ before ++ lines_after rest
  pub whole : MatchOption rest (Unit {0}) (λ left. (input ≡ flat_map ended_line before ++ left.now) × (passed ≡ length (flat_map ended_line before)))

pub none_passed : (input : Bor (List ℕ)) → Passed input.now 0 (Some input)
none_passed input = record { before = []; unmarked = All-nil (λ line. line ≢ codes "%"); lines = refl; whole = (refl, refl) }

-- the prefix with one more line
front_more : (before : List (List ℕ)) (line : List ℕ) → flat_map ended_line (before ++ line ∷ []) ≡ flat_map ended_line before ++ (line ++ 10 ∷ [])
front_more before line = flat_map-append ended_line before (line ∷ []) ∙ ap (λ xs. flat_map ended_line before ++ xs) (append-nil (line ++ 10 ∷ []))

still_whole : (input : List ℕ) (passed : ℕ) (before : List (List ℕ)) (left line : List ℕ) (more : Option (Bor (List ℕ))) → input ≡ flat_map ended_line before ++ left → passed ≡ length (flat_map ended_line before) → MatchOption more (left ≡ line) (λ m. left ≡ line ++ 10 ∷ m.now) → MatchOption more (Unit {0}) (λ m. (input ≡ flat_map ended_line (before ++ line ∷ []) ++ m.now) × (passed + (length line + 1) ≡ length (flat_map ended_line (before ++ line ∷ []))))
still_whole input passed before left line None is count whole = tt
still_whole input passed before left line (Some m) is count whole = (
  is ∙ ap (λ xs. flat_map ended_line before ++ xs) (whole ∙ sym (append_assoc line (10 ∷ []) m.now)) ∙ sym (append_assoc (flat_map ended_line before) (line ++ 10 ∷ []) m.now) ∙ ap (λ xs. xs ++ m.now) (sym (front_more before line)),
  ap (λ n. n + (length line + 1)) count ∙ ap (λ n. length (flat_map ended_line before) + n) (sym (length-append line (10 ∷ []))) ∙ sym (length-append (flat_map ended_line before) (line ++ 10 ∷ [])) ∙ ap length (sym (front_more before line)),
)

-- one more line is passed
pub pass_line : (input : List ℕ) (passed : ℕ) (left : Bor (List ℕ)) (line : List ℕ) (more : Option (Bor (List ℕ))) → Passed input passed (Some left) → line ≢ codes "%" → lines_of left.now ≡ line ∷ lines_after more → MatchOption more (left.now ≡ line) (λ m. left.now ≡ line ++ 10 ∷ m.now) → Passed input (passed + (length line + 1)) more
pass_line input passed left line more p differs lines whole = record {
  before = p.before ++ line ∷ [];
  unmarked = All-append (λ l. l ≢ codes "%") p.before (line ∷ []) p.unmarked (All-cons (λ l. l ≢ codes "%") line [] differs (All-nil (λ l. l ≢ codes "%")));
  lines = p.lines ∙ ap (λ ls. p.before ++ ls) lines ∙ sym (append_assoc p.before (line ∷ []) (lines_after more));
  whole = still_whole input passed p.before left.now line more p.whole.0 p.whole.1 whole;
}

script_lines : (input : List ℕ) (before : List (List ℕ)) (line script : List ℕ) (more : Option (Bor (List ℕ))) → lines_of input ≡ before ++ line ∷ lines_after more → line ≡ codes "%" → MatchOption more (script ≡ []) (λ m. script ≡ m.now) → (lines_of input ≡ before ++ codes "%" ∷ lines_of script) ⊎ ((lines_of input ≡ before ++ codes "%" ∷ []) × (script ≡ []))
script_lines input before line script None all is behind = inr (all ∙ ap (λ l. before ++ l ∷ []) is, behind)
script_lines input before line script (Some m) all is behind = inl (all ∙ ap (λ l. before ++ l ∷ lines_of m.now) is ∙ ap (λ text. before ++ codes "%" ∷ lines_of text) (sym behind))

-- the mark parts the input
pub parted : (input : List ℕ) (passed : ℕ) (left : Bor (List ℕ)) (line script : List ℕ) (more : Option (Bor (List ℕ))) → Passed input passed (Some left) → line ≡ codes "%" → lines_of left.now ≡ line ∷ lines_after more → MatchOption more (script ≡ []) (λ m. script ≡ m.now) → IsParted input (take passed input) script
parted input passed left line script more p is lines behind = record {
  before = p.before;
  front = ap (take passed) p.whole.0 ∙ take_at (flat_map ended_line p.before) left.now passed (sym p.whole.1);
  unmarked = p.unmarked;
  lines = script_lines input p.before line script more (p.lines ∙ ap (λ ls. p.before ++ ls) lines) is behind;
}
