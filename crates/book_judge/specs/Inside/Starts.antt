-- Where the messages of lives begin, and the tests by which it is judged which message of its partner each one is that a
-- receiving life counts. No public clause cites this file.
use Rattle.std.specs.Prelude.{◌≡◌, ℕ, ◌<◌, ◌+◌, ◌-◌, ◌==◌, ◌&&◌, nat_lt, Bool, true, false, List, length, reverse, take, slice_get, Option, Some, None}
use Rattle.interface.specs.declared.crossing.Crossing.{Crossing}
use Rattle.promise.specs.Formed.{flow_of, link_of}
use Rattle.promise.specs.Safe.{receives}
use Rattle.promise.specs.declared.life.Life.{Life}
use Rattle.book_judge.specs.Inside.Joined.{texts_by}
use Rattle.book_judge.specs.Inside.Made.{since}
use Rattle.book_judge.specs.declared.starts.Start.{Start}
use Rattle.book_judge.specs.declared.starts.Taking.{Taking}

-- how many messages of a life's flow had crossed when both its requests had; nothing where none names its link. The log
-- is the oldest first
abbrev pub IsStart : List Crossing → Life → Option Start → Type 0
IsStart log x None = link_of (reverse log) x ≡ None
IsStart log x (Some s) =
    (link_of (reverse log) x ≡ Some s.link)
    × (s.before ≡ length (texts_by (receives x) (flow_of x s.link) (take (since x) log)))

-- of the first lives
pub record AreStarts (n : ℕ) (starts : List (Option Start)) (lives : List Life) (log : List Crossing) : Type 0 where
  pub counts : length starts ≡ n
  pub each : (i : ℕ) (x : Life) → i < n → slice_get lives i ≡ Some x
      → (o : Option Start) × (slice_get starts i ≡ Some o) × IsStart log x o

abbrev pub start_at : Option (Option Start) → Option Start
start_at None = None
start_at (Some o) = o

-- the last message that went out before one came in is a life's, with the number that the one has for its receiver
abbrev pub counts : Start → Life → Taking → Bool
counts s y t = s.link == t.link && nat_lt s.before t.sent && (t.sent - s.before - 1) == t.nth && nat_lt t.nth y.messages

abbrev pub counts_of : Option (Option Start) → Life → Taking → Bool
counts_of None y t = false
counts_of (Some None) y t = false
counts_of (Some (Some s)) y t = counts s y t
