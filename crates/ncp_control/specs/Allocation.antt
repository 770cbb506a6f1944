-- The counters of a connection's allocation, and the runs of acts on them.
use Rattle.std.specs.Prelude.{ℕ, ◌+◌, ◌-◌, ◌*◌, ◌/◌, ◌<◌, ◌≤◌, ◌==◌, min, if◌then◌else◌, List, [], ◌∷◌}
use Rattle.ncp_control.specs.declared.allocation.Allocation.{Allocation}

-- at first nothing is granted
abbrev pub nothing : Allocation
nothing = record { messages = 0; bits = 0 }

-- a grant adds, and a counter stays at the greatest number that its field can hold: 65535 messages, 4294967295 bits
abbrev pub granted : Allocation → ℕ → ℕ → Allocation
granted a messages bits = record { messages = min (a.messages + messages) 65535; bits = min (a.bits + bits) 4294967295 }

-- the least of three: the queued bytes, those that the granted bits allow, and those that one message holds in its 8023
-- bits of data; none without a message
abbrev pub may_send : Allocation → ℕ → ℕ → ℕ
may_send a size bytes = if a.messages == 0 then 0 else min bytes (min (a.bits / size) (8023 / size))

-- a message takes itself and its bits of data
abbrev pub spent : Allocation → ℕ → Allocation
spent a bits = record { messages = a.messages - 1; bits = a.bits - bits }

-- this many 128ths of a counter, rounded down; a fraction above 128 counts as the whole
abbrev pub share : ℕ → ℕ → ℕ
share counter fraction = counter * min fraction 128 / 128

-- each counter loses its own fraction
abbrev pub given_back : Allocation → ℕ → ℕ → Allocation
given_back a message_fraction bit_fraction =
    record { messages = a.messages - share a.messages message_fraction; bits = a.bits - share a.bits bit_fraction }

-- what becomes of an allocation
pub data Act : Type 0 where
  Grant : (messages : ℕ) → (bits : ℕ) → Act
  Spend : (bits : ℕ) → Act
  GiveBack : (message_fraction : ℕ) → (bit_fraction : ℕ) → Act

-- the counters after an act
abbrev pub allocation_after : Allocation → Act → Allocation
allocation_after a (Grant messages bits) = granted a messages bits
allocation_after a (Spend bits) = spent a bits
allocation_after a (GiveBack message_fraction bit_fraction) = given_back a message_fraction bit_fraction

-- the counters after these acts, the newest first
abbrev pub counters : List Act → Allocation
counters [] = nothing
counters (act ∷ earlier) = allocation_after (counters earlier) act

-- a spend takes no more than there is
abbrev pub CanBe : Allocation → Act → Type 0
CanBe a (Grant messages bits) = Unit {0}
CanBe a (Spend bits) = (0 < a.messages) × (bits ≤ a.bits)
CanBe a (GiveBack message_fraction bit_fraction) = Unit {0}

-- a run of acts, the newest first
abbrev pub IsRun : List Act → Type 0
IsRun [] = Unit {0}
IsRun (act ∷ earlier) = CanBe (counters earlier) act × IsRun earlier

-- counters with this many messages and bits more
abbrev pub added : Allocation → ℕ → ℕ → Allocation
added a messages bits = record { messages = a.messages + messages; bits = a.bits + bits }

-- all that was granted
abbrev pub all_granted : List Act → Allocation
all_granted [] = nothing
all_granted (Grant messages bits ∷ earlier) = added (all_granted earlier) messages bits
all_granted (Spend bits ∷ earlier) = all_granted earlier
all_granted (GiveBack message_fraction bit_fraction ∷ earlier) = all_granted earlier

-- all that was spent
abbrev pub all_spent : List Act → Allocation
all_spent [] = nothing
all_spent (Grant messages bits ∷ earlier) = all_spent earlier
all_spent (Spend bits ∷ earlier) = added (all_spent earlier) 1 bits
all_spent (GiveBack message_fraction bit_fraction ∷ earlier) = all_spent earlier

-- all that was given back
abbrev pub all_returned : List Act → Allocation
all_returned [] = nothing
all_returned (Grant messages bits ∷ earlier) = all_returned earlier
all_returned (Spend bits ∷ earlier) = all_returned earlier
all_returned (GiveBack message_fraction bit_fraction ∷ earlier) =
    added (all_returned earlier) (share (counters earlier).messages message_fraction) (share (counters earlier).bits bit_fraction)

-- what was spent, what was given back and what is left are together at most what was granted
pub record IsWithinGranted (acts : List Act) : Type 0 where
  pub in_messages : (all_spent acts).messages + (all_returned acts).messages + (counters acts).messages ≤ (all_granted acts).messages
  pub in_bits : (all_spent acts).bits + (all_returned acts).bits + (counters acts).bits ≤ (all_granted acts).bits
