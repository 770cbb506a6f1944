-- Which fates what crossed leaves the lives of a log. How far a life is by that, and how it is over, `Ends` of
-- `promise` says.
use Rattle.std.specs.Prelude.{◌≡◌, ℕ, ◌≤◌, not, Bool, true, false, List, [], ◌∷◌, length, take}
use Rattle.interface.specs.declared.crossing.Crossing.{Crossing}
use Rattle.net_sim.specs.Findings.{EndsAt}
use Rattle.promise.specs.Ends.{Asking, Cause, Closed, Dropped, Going, Over, Stage, Stopped, course, crosses, stage}
use Rattle.promise.specs.Fates.{IsBeside}
use Rattle.promise.specs.declared.life.Fate.{Fate}
use Rattle.promise.specs.declared.life.Fate.TheVariants as fate
use Rattle.promise.specs.declared.life.Life.{Life}

-- the fates of a life that continues, by what crossed. A contact of its host doesn't cross, so it may have been reset
-- by one
abbrev pub suits_going : Fate → Bool
suits_going fate.Open = true
suits_going fate.Closing = true
suits_going fate.Closed = false
suits_going fate.Ended = false
suits_going fate.Reset = true
suits_going fate.Stopped = false

-- and of one that is over by this; a contact may have come before that. One whose own CLS was the first was closed by a
-- user of its host; and where that went out last, no contact had come, or an RST would have gone out
abbrev pub suits_cause : Cause → Fate → Bool
suits_cause Dropped fate.Reset = true
suits_cause Dropped f = false
suits_cause Stopped fate.Stopped = true
suits_cause Stopped fate.Reset = true
suits_cause Stopped f = false
suits_cause (Closed own_first) fate.Closed = true
suits_cause (Closed own_first) fate.Ended = not own_first
suits_cause (Closed own_first) fate.Reset = own_first
suits_cause (Closed own_first) f = false

-- a stage leaves a fate. Of a life whose requests haven't crossed nothing is said here
abbrev pub suits : Stage → Fate → Bool
suits (Asking own partner) f = true
suits (Going own partner) f = suits_going f
suits (Over cause place) f = suits_cause cause f

abbrev pub is_begun : Stage → Bool
is_begun (Asking own partner) = false
is_begun s = true

-- a life that begins does so where nothing ends it between its two requests, and has a fate that what crossed leaves it
pub record IsSuited (log : List Crossing) (x : Life) (f : Fate) : Type 0 where
  pub begins : is_begun (stage [] x log) ≡ true → (course [] x log).early ≡ false
  pub fate : suits (stage [] x log) f ≡ true

-- ---- contacts

-- how much had crossed when a life was over; all of as much as crossed, where it continues
abbrev pub over_at : ℕ → Stage → ℕ
over_at all (Over cause place) = place
over_at all s = all

-- a life that is `reset`, though nothing that crossed dropped its connections: a contact did
abbrev pub was_contacted : Stage → Bool
was_contacted (Asking own partner) = false
was_contacted (Going own partner) = true
was_contacted (Over Dropped place) = false
was_contacted (Over Stopped place) = true
was_contacted (Over (Closed own_first) place) = true

-- no CLS has crossed
abbrev pub reopened : Stage → Stage
reopened (Asking own partner) = Asking own partner
reopened (Going own partner) = Going false false
reopened (Over Dropped place) = Over Dropped place
reopened (Over Stopped place) = Over Stopped place
reopened (Over (Closed own_first) place) = Going false false

-- how far a life would be if nobody closed it: its connections are cut once they are dropped, or its host stops. One crossing
-- has the CLS of one side only, so none closes it at once
abbrev pub unclosed : Life → List Crossing → Stage
unclosed x [] = Asking false false
unclosed x (c ∷ log) = reopened (crosses x (length log) c (record (course [] x log) { stage = unclosed x log })).stage

-- where the connections of a life are cut first after it has begun, whether or not it was over before
abbrev pub cut_at : List Crossing → Life → ℕ
cut_at log x = over_at (length log) (unclosed x log)

-- of two lives of one host with one peer that begin between the same two cuts, a contact reset one, and the other is over
-- after it, or with it: two ends at one place are of one message, or of one stop
pub record Outlasts (log : List Crossing) (x y : Life) : Type 0 where
  pub host : x.host ≡ y.host
  pub peer : x.peer ≡ y.peer
  pub stretch : cut_at log x ≡ cut_at log y
  pub contact : was_contacted (stage [] x log) ≡ true
  pub begun : is_begun (stage [] y log) ≡ true
  pub later : over_at (length log) (stage [] x log) ≤ over_at (length log) (stage [] y log)

-- each life has a fate that what crossed leaves it; and a contact that reset one life reset all that it would have ended.
-- It drops all connections with the peer, and after it an RST goes out first, which cuts them. So what begins later does
-- so after that cut, and what isn't `reset` was over before the contact, which came before the life that it reset was
-- over by what crossed
pub record AreSuited (log : List Crossing) (lives : List Life) (fates : List Fate) : Type 0 where
  pub each : (x : Life) (f : Fate) → IsBeside x f lives fates → IsSuited log x f
  pub contact : (x y : Life) (f : Fate) → IsBeside x fate.Reset lives fates → IsBeside y f lives fates
      → Outlasts log x y → f ≡ fate.Reset

-- the place of the first life with which they aren't so
abbrev pub UnsuitedAt : List Crossing → List Life → List Fate → ℕ → Type 0
UnsuitedAt log lives fates place = EndsAt (λ n. AreSuited log (take n lives) fates) place
