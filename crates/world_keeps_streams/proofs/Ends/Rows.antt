-- Books of one life.
use Rattle.world_keeps_streams.proofs.Common.{◌≡◌, inl, inr, List, [], ◌∷◌, sym, subst, Crossing, Called, Fate, CountNothingLater, CountsBefore}
use Rattle.promise.specs.Ends.{Over, Stage, stage, AreLeft, IsLeft}
use Rattle.promise.specs.declared.life.Life.{Life}
use Rattle.world_keeps_streams.proofs.Lives.Lists.{IsOf, is_of}

pub one_left : (contacts : List Called) (log : List Crossing) (x : Life) (f : Fate) → IsLeft contacts log x f
    → AreLeft contacts log (x ∷ []) (f ∷ [])
one_left contacts log x f left y g (inl e) =
    subst (λ (h : Fate). IsLeft contacts log y h) (sym e.1) (subst (λ (z : Life). IsLeft contacts log z f)
    (sym e.0) left)
one_left contacts log x f left y g (inr none) = absurd none

-- where a life of this stage is over, it counts no more than crossed before that
abbrev pub CountsBy : List Crossing → Life → Stage → Type 0
CountsBy log x (Over cause place) = CountsBefore log place x
CountsBy log x s = Unit {0}

pub one_counts : (contacts : List Called) (log : List Crossing) (x : Life) → CountsBy log x (stage contacts x log)
    → CountNothingLater contacts log (x ∷ [])
one_counts contacts log x counts y cause place there over = by (is_of y (x ∷ []) there) where
  by : IsOf y (x ∷ []) → CountsBefore log place y
  by (inl e) =
      subst (λ (z : Life). CountsBefore log place z) (sym e)
      (subst (λ (s : Stage). CountsBy log x s)
      (subst (λ (z : Life). stage contacts z log ≡ Over cause place) e over) counts)
  by (inr none) = absurd none
