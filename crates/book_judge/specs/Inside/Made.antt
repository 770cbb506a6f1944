-- The tests by which a life is judged. No public clause cites this file.
use Rattle.std.specs.Prelude.{◌≡◌, ℕ, ◌+◌, ◌≤◌, max, drop, take, Bool, true, false, length}
use Rattle.std.specs.Prelude.{List, MatchBool, Option, Some, None}
use Rattle.ncp_control.specs.DataHeader.{data_bits, header_of}
use Rattle.ncp_control.specs.declared.data_header.DataHeader.{DataHeader}
use Rattle.interface.specs.declared.crossing.Crossing.{Crossing}
use Rattle.promise.specs.Formed.{IsFormed, flow_of, link_of, texts_on}
use Rattle.promise.specs.Safe.{before, receives}
use Rattle.promise.specs.declared.life.Life.{Life}
use Rattle.book_judge.specs.Inside.{same_bit}
use Rattle.book_judge.specs.Inside.Joined.{IsFirst, texts_by}

-- where the data of a text end
abbrev pub end_by : Option DataHeader → Option ℕ
end_by None = None
end_by (Some h) = Some (40 + data_bits h)

abbrev pub end_of : Bool → List Bool → Option ℕ
end_of true text = end_by (header_of text)
end_of false text = Some (length text)

abbrev pub same_found : Option Bool → Option Bool → Bool
same_found None found = false
same_found (Some x) None = false
same_found (Some x) (Some y) = same_bit x y

-- where the first crossing after both of a life's requests is
abbrev pub since : Life → ℕ
since x = max x.own_stamp x.partner_stamp + 1

-- a life's bits are the data of its first messages on a link
abbrev pub HasBits : List Crossing → Life → ℕ → Type 0
HasBits log x link = IsFirst (receives x) (flow_of x link) log (since x) x.messages x.bits

-- as many of them as it counts crossed before a place
abbrev pub HasEnough : List Crossing → Life → ℕ → ℕ → Type 0
HasEnough log x link until =
    x.messages ≤ length (texts_by (receives x) (flow_of x link) (drop (since x) (take until log)))

-- an answer says whether that is so
abbrev pub Counts : List Crossing → Life → ℕ → ℕ → Bool → Type 0
Counts log x link until b = MatchBool b (HasEnough log x link until) (HasEnough log x link until → ⊥)

abbrev pub IsMadeOn : List Crossing → Life → ℕ → ℕ → Type 0
IsMadeOn log x link until = HasBits log x link × HasEnough log x link until

abbrev pub Makes : List Crossing → Life → ℕ → ℕ → Bool → Type 0
Makes log x link until b = MatchBool b (IsMadeOn log x link until) (IsMadeOn log x link until → ⊥)

-- a life is formed, and as many messages as it counts crossed before a place; the log is the newest first
abbrev pub IsMadeBy : List Crossing → ℕ → Life → Type 0
IsMadeBy log until x = IsFormed log x × (x.messages ≤ length (texts_on x (link_of log x) (before until log)))

-- bits are those of a text from a place on up to another
abbrev pub IsSlice : List Bool → List Bool → ℕ → ℕ → Type 0
IsSlice bits text from to = (from ≤ to) × (to ≤ length text) × (drop from (take to text) ≡ bits)
