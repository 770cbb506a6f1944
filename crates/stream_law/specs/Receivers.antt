-- The host that receives on a link.
use Rattle.std.specs.Prelude.{◌≡◌, ℕ, suc, ◌+◌, ◌≤◌, ◌-◌, Bool, true, false, not, ◌&&◌, List, [], ◌∷◌, ◌++◌, length, Option, Some, None, is_some, if◌then◌else◌}
use Rattle.ncp_control.specs.Allocation as counters
use Rattle.ncp_control.specs.declared.allocation.Allocation.{Allocation}
use Rattle.stream_law.specs.Words.{Word, Rts, Str, All, Gvb, Ret, Cls, for, covers, holds, is_size}

pub record Receiver : Type 0 where
  -- the connection whose end has the link; whether that end has opened, and whether its CLS is said
  pub end : Option ℕ
  pub opened : Bool
  pub closed : Bool
  -- what that end may still take
  pub allocation : Allocation
  -- of each connection: whether it was asked for on this link; the byte size in its STR; whether its CLS was heard; and whether the own
  -- CLS was said before that
  pub asked : ℕ → Bool
  pub size : ℕ → Option ℕ
  pub over : ℕ → Bool
  pub first : ℕ → Bool
  -- and what was granted in it and what was returned; the messages that were taken, the oldest first; and how many came, taken or dropped
  pub granted : ℕ → Allocation
  pub returned : ℕ → Allocation
  pub taken : ℕ → List (List Bool)
  pub came : ℕ → ℕ

abbrev pub opening_receiver : Receiver
opening_receiver = record {
  end = None;
  opened = false;
  closed = false;
  allocation = counters.nothing;
  asked = λ c. false;
  size = λ c. None;
  over = λ c. false;
  first = λ c. false;
  granted = λ c. counters.nothing;
  returned = λ c. counters.nothing;
  taken = λ c. [];
  came = λ c. 0;
}

-- the end of this connection is open: it has opened, and no CLS was said or heard
abbrev pub is_open : ℕ → Receiver → Bool
is_open c r = r.opened && not r.closed && not (r.over c)

-- ---- what it does

pub data Move : Type 0 where
  -- it asks for a connection on the link
  Ask : (connection : ℕ) → Move
  -- its end opens
  Open : (connection : ℕ) → Move
  -- its user grants, or asks back parts of what it granted, in 128ths
  Grant : (connection messages bits : ℕ) → Move
  AskBack : (connection messages bits : ℕ) → Move
  -- it closes its end
  Close : (connection : ℕ) → Move
  -- its end goes, and the link is free
  Free : (connection : ℕ) → Move
  -- it hears what the sender said
  Hear : (word : Word) → Move
  -- it takes a message of data with bytes of this size, or drops it
  Take : (size : ℕ) → (bits : List Bool) → Move

-- what it says by it
abbrev pub says : Move → Option Word
says (Ask c) = Some (Rts c)
says (Grant c messages bits) = Some (All c messages bits)
says (AskBack c messages bits) = Some (Gvb c messages bits)
says (Close c) = Some (Cls c)
says m = None

abbrev pub asks : ℕ → Receiver → Receiver
asks c r = record r { end = Some c; opened = false; closed = false; allocation = counters.nothing; asked = for c true r.asked }

-- it says its CLS: before it heard the sender's, or after
abbrev pub closes : ℕ → Receiver → Receiver
closes c r = record r { closed = true; first = if r.over c then r.first else for c true r.first }

abbrev pub grants : ℕ → ℕ → ℕ → Receiver → Receiver
grants c messages bits r = record r {
  allocation = counters.granted r.allocation messages bits;
  granted = for c (counters.added (r.granted c) messages bits) r.granted;
}

-- an open end takes what is returned to it, if there is this much; all else is an error, or comes too late
abbrev pub takes_back : ℕ → ℕ → Option ℕ → Receiver → Receiver
takes_back messages bits None r = r
takes_back messages bits (Some c) r =
    if is_open c r && holds r.allocation messages bits
    then record r {
      allocation = record { messages = r.allocation.messages - messages; bits = r.allocation.bits - bits };
      returned = for c (counters.added (r.returned c) messages bits) r.returned;
    } else r

abbrev pub hears : Word → Receiver → Receiver
hears (Str c size) r = record r { size = for c (Some size) r.size }
hears (Ret c messages bits) r = takes_back messages bits r.end r
hears (Cls c) r = record r { over = for c true r.over }
hears w r = r

-- an open end takes a message of its byte size that it granted
abbrev pub takes : ℕ → List Bool → Option ℕ → Receiver → Receiver
takes size bits None r = r
takes size bits (Some c) r =
    if is_open c r && is_size size (r.size c) && covers r.allocation (length bits)
    then record r { allocation = counters.spent r.allocation (length bits); taken = for c (r.taken c ++ bits ∷ []) r.taken }
    else r

-- a message that comes is one of the connection whose end has the link
abbrev pub one_more : Option ℕ → (ℕ → ℕ) → ℕ → ℕ
one_more None came = came
one_more (Some c) came = for c (suc (came c)) came

abbrev pub moved : Move → Receiver → Receiver
moved (Ask c) r = asks c r
moved (Open c) r = record r { opened = true }
moved (Grant c messages bits) r = grants c messages bits r
moved (AskBack c messages bits) r = r
moved (Close c) r = closes c r
moved (Free c) r = record r { end = None }
moved (Hear w) r = hears w r
moved (Take size bits) r = record (takes size bits r.end r) { came = one_more r.end r.came }

-- ---- what it may do by its own rules

-- it asks on a free link, once for each connection. It grants and asks back at an open end, no more than its counters hold. Its end goes
-- when a CLS has passed both ways
abbrev pub May : Move → Receiver → Type 0
May (Ask c) r = (r.end ≡ None) × (r.asked c ≡ false)
May (Open c) r = (r.end ≡ Some c) × (is_some (r.size c) ≡ true)
May (Grant c messages bits) r = (r.end ≡ Some c) × (is_open c r ≡ true) × (r.allocation.messages + messages ≤ 65535) × (r.allocation.bits + bits ≤ 4294967295)
May (AskBack c messages bits) r = (r.end ≡ Some c) × (is_open c r ≡ true)
May (Close c) r = (r.end ≡ Some c) × (r.closed ≡ false)
May (Free c) r = (r.end ≡ Some c) × (r.closed ≡ true) × (r.over c ≡ true)
May (Hear w) r = Unit {0}
May (Take size bits) r = Unit {0}
