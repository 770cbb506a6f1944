-- The lines of what users are notified of, put together from their ends.
use Rattle.std.proofs.Common.{◌≡◌, ℕ, ◌++◌, List, [], ◌∷◌, append_assoc}
use Rattle.script.specs.Input.{ended_line}
use Rattle.world_replay.specs.Printed.{words}

pub three_words : (a b c : List ℕ) → a ++ 32 ∷ (b ++ 32 ∷ (c ++ 10 ∷ [])) ≡ ended_line (words (a ∷ b ∷ c ∷ []))
three_words a b c = simp append_assoc

pub four_words : (a b c d : List ℕ) → a ++ 32 ∷ (b ++ 32 ∷ (c ++ 32 ∷ (d ++ 10 ∷ []))) ≡ ended_line (words (a ∷ b ∷ c ∷ d ∷ []))
four_words a b c d = simp append_assoc

pub five_words : (a b c d e : List ℕ) → a ++ 32 ∷ (b ++ 32 ∷ (c ++ 32 ∷ (d ++ 32 ∷ (e ++ 10 ∷ [])))) ≡ ended_line (words (a ∷ b ∷ c ∷ d ∷ e ∷ []))
five_words a b c d e = simp append_assoc
