-- The tests by which it is judged which message of its partner each one is that a receiving life counts. No public clause
-- cites this file.
use Rattle.std.specs.Prelude.{◌≡◌, ℕ, ◌<◌, ◌≤◌, ◌+◌, ◌-◌, Bool, true, List, MatchBool, length, slice_get, Option, Some}
use Rattle.interface.specs.declared.address.Flow.{Flow}
use Rattle.interface.specs.declared.crossing.Crossing.{Crossing}
use Rattle.promise.specs.Formed.{flow_of}
use Rattle.promise.specs.Safe.{Name, receives}
use Rattle.promise.specs.declared.life.Life.{Life}
use Rattle.book_judge.specs.Inside.Arrivals.{AreArrivals, IsSteady, sent_by}
use Rattle.book_judge.specs.Inside.Chains.{fits}
use Rattle.book_judge.specs.Inside.Joined.{AreJoined, IsNth}
use Rattle.book_judge.specs.Inside.Starts.{counts_of}
use Rattle.book_judge.specs.declared.arrivals.Arrival.{Arrival}
use Rattle.book_judge.specs.declared.joined.Joined.{Joined}
use Rattle.book_judge.specs.declared.starts.Start.{Start}
use Rattle.book_judge.specs.declared.starts.Taking.{Taking}

-- what came in is joined, and it is known of each message. The log is the oldest first
abbrev pub ArriveIn : List Crossing → Joined → List Arrival → Type 0
ArriveIn log into arrivals = AreJoined true log into × AreArrivals (length log) arrivals log

-- a message of a flow with this number came in; and from an earlier one up to it one more had gone out before each next one
abbrev pub Rises : Flow → List Crossing → ℕ → ℕ → Type 0
Rises f log first n = (place : ℕ) × IsNth true f log n place × IsSteady f log n (sent_by f log place) first

-- a sending life at a place fits a receiving one, and counts a message as that does
abbrev pub SenderAt : List (Option Start) → Taking → Name → Life → List Name → List Life → ℕ → Type 0
SenderAt starts t a x names lives i =
    (b : Name) × (y : Life) × (slice_get names i ≡ Some b) × (slice_get lives i ≡ Some y) × (fits a x b y ≡ true)
    × (counts_of (slice_get starts i) y t ≡ true)

-- a message that came in at a place with a number on a life's flow, as the life takes it
abbrev pub taking_at : List Crossing → Start → Life → ℕ → ℕ → Taking
taking_at log s x n place = record { link = s.link; nth = n - s.before; sent = sent_by (flow_of x s.link) log place }

-- the message that came in with a number on a receiving life's flow went out as the one of its number of a life that it
-- matches
abbrev pub SentNth : List Crossing → List (Option Start) → Start → Name → Life → List Name → List Life → ℕ → Type 0
SentNth log starts s a x names lives n = (place : ℕ) → IsNth true (flow_of x s.link) log n place
    → (i : ℕ) × SenderAt starts (taking_at log s x n place) a x names lives i

abbrev pub EachSent : List Crossing → List (Option Start) → Start → Name → Life → List Name → List Life → ℕ → Type 0
EachSent log starts s a x names lives past =
    (n : ℕ) → s.before ≤ n → n < past → SentNth log starts s a x names lives n

-- all that it counts
abbrev pub AllSent : List Crossing → List (Option Start) → Start → Name → Life → List Name → List Life → Type 0
AllSent log starts s a x names lives = EachSent log starts s a x names lives (s.before + x.messages)

-- an answer says whether that is so
abbrev pub Tells : List Crossing → List (Option Start) → Start → Name → Life → List Name → List Life → Bool → Type 0
Tells log starts s a x names lives b =
    MatchBool b (AllSent log starts s a x names lives) (AllSent log starts s a x names lives → ⊥)

-- what is promised of the messages that the life at a place counts
abbrev pub SentAt : List Crossing → List (Option Start) → List Name → List Life → ℕ → Type 0
SentAt log starts names lives i = (a : Name) (x : Life) (s : Start) → slice_get names i ≡ Some a → slice_get lives i ≡ Some x
    → slice_get starts i ≡ Some (Some s) → receives x ≡ true → AllSent log starts s a x names lives
