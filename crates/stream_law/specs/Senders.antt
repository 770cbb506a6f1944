-- The host that sends on a link.
use Rattle.std.specs.Prelude.{◌≡◌, ℕ, ◌==◌, Bool, true, false, not, ◌&&◌, List, [], ◌∷◌, ◌++◌, length, Option, Some, None, is_some, if◌then◌else◌}
use Rattle.ncp_control.specs.Allocation as counters
use Rattle.ncp_control.specs.declared.allocation.Allocation.{Allocation}
use Rattle.stream_law.specs.Words.{Word, Rts, Str, All, Gvb, Ret, Cls, for, covers}

pub record Sender : Type 0 where
  -- the connection whose end has the link, since its RTS was heard; whether that end has opened, and whether the receiver's CLS was heard
  pub end : Option ℕ
  pub opened : Bool
  pub shut : Bool
  -- what that end may still send
  pub allocation : Allocation
  -- of each connection: the byte size in its STR; whether its CLS is said, which it may be before its RTS is heard
  pub size : ℕ → Option ℕ
  pub closed : ℕ → Bool
  -- the messages that were sent in it, the oldest first
  pub sent : ℕ → List (List Bool)

abbrev pub opening_sender : Sender
opening_sender = record { end = None; opened = false; shut = false; allocation = counters.nothing; size = λ c. None; closed = λ c. false; sent = λ c. [] }

abbrev pub is_open : ℕ → Sender → Bool
is_open c s = s.opened && not s.shut && not (s.closed c)

-- ---- what it does

pub data Move : Type 0 where
  -- it asks for a connection, whatever its link will be, and says its byte size
  Ask : (connection size : ℕ) → Move
  -- its end opens
  Open : (connection : ℕ) → Move
  -- a message of data goes out
  Send : (connection size : ℕ) → (bits : List Bool) → Move
  -- it closes a connection: that on the link, or one whose RTS it hasn't heard
  Close : (connection : ℕ) → Move
  -- it hears what the receiver said
  Hear : (word : Word) → Move
  -- it is informed that its message was taken
  Told : Move

-- what is returned where parts of the allocation are asked back
abbrev pub returns : ℕ → ℕ → Option ℕ → Sender → Option Word
returns messages bits None s = None
returns messages bits (Some c) s =
    if is_open c s then Some (Ret c (counters.share s.allocation.messages messages) (counters.share s.allocation.bits bits)) else None

-- what it says by it
abbrev pub says : Move → Sender → Option Word
says (Ask c size) s = Some (Str c size)
says (Close c) s = Some (Cls c)
says (Hear (Gvb c messages bits)) s = returns messages bits s.end s
says m s = None

-- a request on a link that an end has would be an error
abbrev pub begins : ℕ → Option ℕ → Sender → Sender
begins c None s = record s { end = Some c; opened = false; shut = false; allocation = counters.nothing }
begins c (Some other) s = s

abbrev pub with_allocation : Option ℕ → (Allocation → Allocation) → Sender → Sender
with_allocation None change s = s
with_allocation (Some c) change s = if is_open c s then record s { allocation = change s.allocation } else s

-- an end goes when a CLS was said and one was heard
abbrev pub shuts : ℕ → Option ℕ → Sender → Sender
shuts c None s = s
shuts c (Some own) s = if own == c then (if s.closed c then record s { end = None } else record s { shut = true }) else s

abbrev pub hears : Word → Sender → Sender
hears (Rts c) s = begins c s.end s
hears (All c messages bits) s = with_allocation s.end (λ a. counters.granted a messages bits) s
hears (Gvb c messages bits) s = with_allocation s.end (λ a. counters.given_back a messages bits) s
hears (Cls c) s = shuts c s.end s
hears w s = s

abbrev pub goes : ℕ → Bool → Option ℕ → Option ℕ
goes c shut None = None
goes c shut (Some own) = if own == c && shut then None else Some own

abbrev pub moved : Move → Sender → Sender
moved (Ask c size) s = record s { size = for c (Some size) s.size }
moved (Open c) s = record s { opened = true }
moved (Send c size bits) s = record s { allocation = counters.spent s.allocation (length bits); sent = for c (s.sent c ++ bits ∷ []) s.sent }
moved (Close c) s = record s { end = goes c s.shut s.end; closed = for c true s.closed }
moved (Hear w) s = hears w s
moved Told s = s

-- ---- what it may do by its own rules

-- it asks once for each connection; it sends at an open end, in bytes of the size that it announced, no more than it was granted; and it closes once
abbrev pub May : Move → Sender → Type 0
May (Ask c size) s = s.size c ≡ None
May (Open c) s = (s.end ≡ Some c) × (is_some (s.size c) ≡ true)
May (Send c size bits) s = (s.end ≡ Some c) × (is_open c s ≡ true) × (s.size c ≡ Some size) × (covers s.allocation (length bits) ≡ true)
May (Close c) s = s.closed c ≡ false
May (Hear w) s = Unit {0}
May Told s = Unit {0}
