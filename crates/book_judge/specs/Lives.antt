-- Where lives of a log aren't made of the messages that crossed before their ends. What a life is made of, `Formed` of
-- `promise` says, and by what it is over, `Ends`.
use Rattle.std.specs.Prelude.{◌≡◌, ℕ, ◌≤◌, List, [], length, take}
use Rattle.std.specs.List.{Contains}
use Rattle.interface.specs.declared.crossing.Crossing.{Crossing}
use Rattle.net_sim.specs.Findings.{EndsAt}
use Rattle.promise.specs.Ends.{Cause, Over, stage}
use Rattle.promise.specs.Formed.{IsFormed, link_of, texts_on}
use Rattle.promise.specs.Safe.{before}
use Rattle.promise.specs.declared.life.Life.{Life}

-- a life is made of the first messages on its link; and where it is over, as many as it counts crossed before that
pub record IsMade (log : List Crossing) (x : Life) : Type 0 where
  pub formed : IsFormed log x
  pub within : (cause : Cause) (place : ℕ) → stage [] x log ≡ Over cause place
      → x.messages ≤ length (texts_on x (link_of log x) (before place log))

abbrev pub AreMade : List Crossing → List Life → Type 0
AreMade log lives = (x : Life) → Contains lives x → IsMade log x

-- the place of the first life that isn't
abbrev pub UnmadeAt : List Crossing → List Life → ℕ → Type 0
UnmadeAt log lives place = EndsAt (λ n. AreMade log (take n lives)) place
