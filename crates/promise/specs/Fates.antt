-- How far the lives of a book are, and that an orderly close loses nothing (NIC 8246, CLS).
use Rattle.std.specs.Prelude.{◌≡◌, ◌⊎◌, Bool, true, false, List, [], ◌∷◌}
use Rattle.std.specs.List.{Contains}
use Rattle.interface.specs.declared.crossing.Crossing.{Crossing}
use Rattle.promise.specs.Safe.{Match}
use Rattle.promise.specs.declared.life.Fate.{Fate}
use Rattle.promise.specs.declared.life.Fate.TheVariants as fate
use Rattle.promise.specs.declared.life.Life.{Life}

-- a life with this fate is over
abbrev pub is_over : Fate → Bool
is_over fate.Open = false
is_over fate.Closing = false
is_over f = true

-- there is one fate for each life, and it says whether the life is over
abbrev pub AreFated : List Life → List Fate → Type 0
AreFated [] fates = fates ≡ []
AreFated (x ∷ lives) [] = ⊥
AreFated (x ∷ lives) (f ∷ fates) = (x.ended ≡ is_over f) × AreFated lives fates

-- a life, and what another list has at the same place
abbrev pub IsBeside : {A : Type 0} → Life → A → List Life → List A → Type 0
IsBeside x a [] others = ⊥
IsBeside x a (y ∷ lives) [] = ⊥
IsBeside x a (y ∷ lives) (b ∷ others) = ((x ≡ y) × (a ≡ b)) ⊎ IsBeside x a lives others

-- a receiving life that is over by CLS, and that nobody at its host had closed, took all that the life which it matches sent, and all that was handed over
-- there
pub record ClosesWhole (log : List Crossing) (lives : List Life) (handed : List (List Bool)) (fates : List Fate) : Type 0 where
  pub took_sent : (receiver sender : Life) → IsBeside receiver fate.Ended lives fates → Contains lives sender → Match log receiver sender → (receiver.bits ≡ sender.bits) × (receiver.messages ≡ sender.messages)
  pub took_handed : (receiver sender : Life) (text : List Bool) → IsBeside receiver fate.Ended lives fates → IsBeside sender text lives handed → Match log receiver sender → receiver.bits ≡ text
