use Rattle.book_judge.proofs.Common.{◌≡◌, ◌<◌, ℕ, List, [], ◌∷◌, Some, None, length, refl, sym, ap, ◌∙◌, arith, Life}
use Rattle.std.specs.List.{slice_get}
use Rattle.book_judge.proofs.worked_places.worked_places.Goals as goal

none_past : (xs : List Life) → slice_get xs (length xs) ≡ None
none_past [] = refl
none_past (x ∷ xs) = none_past xs

not_past : (xs : List Life) (at : ℕ) (x : Life) → length xs ≡ at → slice_get xs at ≡ Some x → ⊥
not_past xs at x is there = let bad : None ≡ Some x = sym (none_past xs) ∙ ap (slice_get xs) is ∙ there in cc

pub returns-clause-crossing : goal.returns-clause-crossing
returns-clause-crossing c = λ n xs log hs fs b. b.streams.at

pub returns-clause-list : goal.returns-clause-list
returns-clause-list c = λ n xs log hs fs b. b.grants.at

pub returns-clause-past : goal.returns-clause-past
returns-clause-past c = λ xs log hs fs b. not_past xs b.closes.place b.closes.at.1.0 b.closes.at.0 b.closes.at.1.1

pub returns-clause-match_past : goal.returns-clause-match_past
returns-clause-match_past c = λ xs log hs fs b. (let less : length xs < length xs = b.streams.at.1.2 in omega (arith, less))
