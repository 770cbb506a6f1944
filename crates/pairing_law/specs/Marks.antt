-- What the two ends of a connection say to one another: a request, RTS or STR, and a CLS (NIC 8246). A word is all that one of
-- them said, the newest first.
use Rattle.std.specs.Prelude.{◌≡◌, ◌⊎◌, ℕ, ◌+◌, List, [], ◌∷◌, ◌++◌}

-- a request is given by the place where the message that carries it went out
pub data Mark : Type 0 where
  Ask : (place : ℕ) → Mark
  Close : Mark

-- how often a connection was closed: each CLS ends one, as far as its sender goes
abbrev pub closes : List Mark → ℕ
closes [] = 0
closes (Ask p ∷ word) = closes word
closes (Close ∷ word) = closes word + 1

-- the request of connection `k`, counted from 0, is the one that went out at place `p`
abbrev pub Asks : ℕ → ℕ → List Mark → Type 0
Asks k p [] = ⊥
Asks k p (Ask q ∷ word) = ((p ≡ q) × (k ≡ closes word)) ⊎ Asks k p word
Asks k p (Close ∷ word) = Asks k p word

-- what was heard is what was said first
abbrev pub IsOlder : List Mark → List Mark → Type 0
IsOlder heard said = (new : List Mark) × (said ≡ new ++ heard)
