-- What may be asked of the lives in a log toward strangers, who keep no log and need not keep to any rule.
use Rattle.std.specs.Prelude.{◌≡◌, ℕ, Bool, true, false, List, [], ◌∷◌, length, take}
use Rattle.interface.specs.Host.{Host}
use Rattle.net_sim.specs.Findings.{EndsAt}
use Rattle.promise.specs.Safe.{IsGranted, IsPrefix, receives, sends}
use Rattle.promise.specs.declared.life.Life.{Life}

-- a life, and what was handed over in it: it is of a host with a program; and if its peer is a stranger, what it took
-- is within what it granted, and what it sent is a prefix of what was handed over
pub record IsToward (strange : Host → Bool) (x : Life) (text : List Bool) : Type 0 where
  pub owner : strange x.host ≡ false
  pub taken : strange x.peer ≡ true → receives x ≡ true → IsGranted x x.messages (length x.bits)
  pub handed : strange x.peer ≡ true → sends x ≡ true → IsPrefix x.bits text

-- each life, with what was handed over in it
abbrev pub AreToward : (Host → Bool) → List Life → List (List Bool) → Type 0
AreToward strange [] handed = Unit {0}
AreToward strange (x ∷ lives) [] = Unit {0}
AreToward strange (x ∷ lives) (text ∷ handed) = IsToward strange x text × AreToward strange lives handed

-- the place of the first that isn't so
abbrev pub UntowardAt : (Host → Bool) → List Life → List (List Bool) → ℕ → Type 0
UntowardAt strange lives handed place = EndsAt (λ n. AreToward strange (take n lives) (take n handed)) place
