-- What is promised of the ends that two hosts opened: no request opens two ends of one sort, and partners are partners both ways.
use Rattle.std.specs.Prelude.{◌≡◌, ◌≢◌, ◌⊎◌, ℕ, List, [], ◌∷◌, Some}
use Rattle.pairing_law.specs.Ends.{End}
use Rattle.pairing_law.specs.Sides.{Life, Both}

-- no life of these has this own request, or this request of a partner
abbrev pub NoneOwns : ℕ → List Life → Type 0
NoneOwns p [] = Unit {0}
NoneOwns p (x ∷ lives) = (x.own ≢ p) × NoneOwns p lives

abbrev pub NoneTook : ℕ → List Life → Type 0
NoneTook p [] = Unit {0}
NoneTook p (x ∷ lives) = (x.partner ≢ p) × NoneTook p lives

-- no two lives of a host have one own request
abbrev pub OwnOnce : List Life → Type 0
OwnOnce [] = Unit {0}
OwnOnce (x ∷ lives) = NoneOwns x.own lives × OwnOnce lives

-- no two lives of a host have one request of a partner
abbrev pub PartnerOnce : List Life → Type 0
PartnerOnce [] = Unit {0}
PartnerOnce (x ∷ lives) = NoneTook x.partner lives × PartnerOnce lives

-- a life is one of these
abbrev pub IsIn : Life → List Life → Type 0
IsIn x [] = ⊥
IsIn x (y ∷ lives) = (x ≡ y) ⊎ IsIn x lives

-- where the partner's request of one is another's own, the reverse holds too
abbrev pub AreBoth : List Life → List Life → Type 0
AreBoth lives others = (x y : Life) → IsIn x lives → IsIn y others → x.partner ≡ y.own → y.partner ≡ x.own

pub record SafePartners (b : Both) : Type 0 where
  pub own_once : OwnOnce b.one.lives × OwnOnce b.two.lives
  pub partner_once : PartnerOnce b.one.lives × PartnerOnce b.two.lives
  pub both_ways : AreBoth b.one.lives b.two.lives × AreBoth b.two.lives b.one.lives

-- an end is open where its own request went out and it took its partner's: these
abbrev pub IsOpen : ℕ → ℕ → End → Type 0
IsOpen own partner e = (e.asked ≡ Some own) × (e.partner ≡ Some partner)
