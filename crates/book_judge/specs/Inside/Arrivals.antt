-- How many messages had gone out before each one came in. No public clause cites this file.
use Rattle.std.specs.Prelude.{◌≡◌, ℕ, ◌<◌, ◌≤◌, ◌+◌, ◌-◌, ◌==◌, ◌&&◌, if◌then◌else◌, nat_lt, true, false, List, length, take, slice_get, Option, Some, None}
use Rattle.interface.specs.declared.address.Flow.{Flow}
use Rattle.interface.specs.declared.crossing.Crossing.{Crossing}
use Rattle.book_judge.specs.Inside.Joined.{IsNth, texts_by}
use Rattle.book_judge.specs.declared.arrivals.Arrival.{Arrival}

-- how many messages of a flow had gone out before a place. The log is the oldest first
abbrev pub sent_by : Flow → List Crossing → ℕ → ℕ
sent_by f log place = length (texts_by false f (take place log))

-- of the messages of a flow that came in: from one on up to another, before which that many had gone out, one more had gone
-- out before each next one
abbrev pub IsSteady : Flow → List Crossing → ℕ → ℕ → ℕ → Type 0
IsSteady f log n sent since =
    (i place : ℕ) → since ≤ i → i < n → IsNth true f log i place → sent_by f log place + (n - i) ≡ sent

abbrev pub IsArrival : Flow → List Crossing → ℕ → ℕ → Arrival → Type 0
IsArrival f log n place e = (e.sent ≡ sent_by f log place) × IsSteady f log n e.sent e.since

-- the message that came in at a place, whichever flow and number it has
abbrev pub IsArrivalAt : List Crossing → ℕ → Arrival → Type 0
IsArrivalAt log place e = (f : Flow) (n : ℕ) → IsNth true f log n place → IsArrival f log n place e

-- of the first places
pub record AreArrivals (n : ℕ) (arrivals : List Arrival) (log : List Crossing) : Type 0 where
  pub counts : length arrivals ≡ n
  pub each : (place : ℕ) (e : Arrival) → slice_get arrivals place ≡ Some e → IsArrivalAt log place e

-- what is known of the one at a place
abbrev pub found_in : List Arrival → Option ℕ → Option Arrival
found_in arrivals None = None
found_in arrivals (Some place) = slice_get arrivals place

-- from which message on it is so up to another, before which that many had gone out: from as far as up to the last before it,
-- if one more had
abbrev pub risen : Arrival → ℕ → ℕ → ℕ
risen e n sent = if nat_lt e.sent sent && (sent - e.sent) == 1 then e.since else n

-- of the message of a flow that came in with a number, or that that many didn't
abbrev pub ArrivalOf : Flow → List Crossing → ℕ → Option Arrival → Type 0
ArrivalOf f log n None = (place : ℕ) → IsNth true f log n place → ⊥
ArrivalOf f log n (Some e) = (place : ℕ) × IsNth true f log n place × IsArrival f log n place e
