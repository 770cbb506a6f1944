-- What holds of a host that is up and one peer of it, and of the boxes of its messages for that peer.
use Rattle.std.specs.Prelude.{◌≡◌, ◌≢◌, ◌⊎◌, ℕ, Bool, true, false, Option, Some, None, is_some}
use Rattle.ncp_control.specs.declared.phase.Phase.{Phase}
use Rattle.ncp_control.specs.declared.phase.Phase.TheVariants.{Closed, Want, Gone, Heard, Ready}
use Rattle.reset_law.specs.Boxes.{Box, Empty, Waiting, Taken}
use Rattle.reset_law.specs.Pairs.{Kind, Rst, Rrp, Plain, kind_of, Pair, IsFreePair}
use Rattle.reset_law.specs.Monitor.{Monitor, Unsent, OnItsWay, Received}

-- what is outstanding by a box
abbrev pub kind_in : Box → Option Kind
kind_in Empty = None
kind_in (Waiting place m) = Some (kind_of m)
kind_in (Taken place m) = Some (kind_of m)

abbrev pub is_signal : Option Kind → Bool
is_signal None = false
is_signal (Some Rst) = true
is_signal (Some Rrp) = true
is_signal (Some Plain) = false

-- what is outstanding, in any phase
pub record Outstanding (p : Pair) (m : Monitor) (boxes : ℕ → Box) : Type 0 where
  pub boxed : (k : ℕ) → p.out k ≡ kind_in (boxes k)
  pub owes : m.owed ≡ p.owed
  -- RST and RRP are sent on link 0, and nothing is outstanding beside them
  pub on_zero : (k : ℕ) → is_signal (p.out k) ≡ true → k ≡ 0
  pub alone : is_signal (p.out 0) ≡ true → (k : ℕ) → k ≢ 0 → p.out k ≡ None
  -- while an RRP is owed or outstanding nothing has been said on connections
  pub owing : p.owed ≡ true → p.begun ≡ false
  pub replying : p.out 0 ≡ Some Rrp → p.begun ≡ false

-- in each phase, what the clean points' monitor knows and what is outstanding
pub record InClosed (m : Monitor) (begun : Bool) (out : ℕ → Option Kind) : Type 0 where
  pub idle : m.pending ≡ false
  pub silent : begun ≡ false
  pub no_rst : out 0 ≢ Some Rst

pub record InWant (m : Monitor) (begun : Bool) (out : ℕ → Option Kind) : Type 0 where
  pub pending : m.pending ≡ true
  pub silent : begun ≡ false
  pub none_after : (k : ℕ) → m.after k ≡ false
  pub stage : (m.stage ≡ Unsent) ⊎ ((m.stage ≡ Received) × (m.early ≡ true) × IsFreePair out)

pub record InGone (remembered : Bool) (m : Monitor) (begun : Bool) (out : ℕ → Option Kind) : Type 0 where
  pub pending : m.pending ≡ true
  pub silent : begun ≡ false
  pub none_after : (k : ℕ) → m.after k ≡ false
  pub stage : m.stage ≡ OnItsWay
  pub early : m.early ≡ remembered
  pub rst : out 0 ≡ Some Rst

pub record InHeard (m : Monitor) (begun : Bool) (out : ℕ → Option Kind) : Type 0 where
  pub pending : m.pending ≡ true
  pub silent : begun ≡ false
  pub stage : m.stage ≡ Received
  pub on_time : m.early ≡ false
  pub after : (k : ℕ) → m.after k ≡ is_some (out k)
  pub no_rst : out 0 ≢ Some Rst
  pub no_plain : (k : ℕ) → out k ≢ Some Plain

pub record InReady (m : Monitor) (out : ℕ → Option Kind) : Type 0 where
  pub idle : m.pending ≡ false
  pub point : ℕ
  pub clean : m.clean ≡ Some point
  pub no_rst : out 0 ≢ Some Rst

abbrev pub Shape : Phase → Monitor → Bool → (ℕ → Option Kind) → Type 0
Shape Closed m begun out = InClosed m begun out
Shape Want m begun out = InWant m begun out
Shape (Gone early) m begun out = InGone early m begun out
Shape Heard m begun out = InHeard m begun out
Shape Ready m begun out = InReady m out

pub record Sound (p : Pair) (m : Monitor) (boxes : ℕ → Box) : Type 0 where
  pub outstanding : Outstanding p m boxes
  pub shape : Shape p.phase m p.begun p.out
