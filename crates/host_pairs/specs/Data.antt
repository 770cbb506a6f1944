-- A message of data on a connection's link (NIC 8246, message format; ALL).
use Rattle.std.specs.Prelude.{ℕ, ◌+◌, ◌&&◌, Bool, nat_lt, nat_le, if◌then◌else◌, List, [], ◌∷◌, ◌++◌, take, drop, Option, Some, None}
use Rattle.bit_messages.specs.Octets.{octets_of}
use Rattle.ncp_control.specs.Allocation as counters
use Rattle.ncp_control.specs.DataHeader.{header_of, data_bits, header_bits}
use Rattle.ncp_control.specs.declared.allocation.Allocation.{Allocation}
use Rattle.ncp_control.specs.declared.data_header.DataHeader.{DataHeader}
use Rattle.host_pairs.specs.Commands.{Found, Unconnected, Ending, Open, receiver_on, changed}
use Rattle.host_pairs.specs.Control.{error, ERRONEOUS, NOT_CONNECTED}
use Rattle.host_pairs.specs.Entries.{is_size, receives_on}
use Rattle.host_pairs.specs.Desk.{DeskState, command_queued, desk_told}
use Rattle.host_pairs.specs.declared.entry.Entry.{Entry}
use Rattle.host_pairs.specs.declared.notice.Notice.TheVariants as notice

-- ---- taking

-- what is left of an allocation after a message with these bits
abbrev pub spent : ℕ → Entry → Entry
spent bits e = record e { allocation = counters.spent e.allocation bits }

-- a message costs one message and its bits of data
abbrev pub is_covered : ℕ → Allocation → Bool
is_covered bits a = nat_lt 0 a.messages && nat_le bits a.bits

-- the data of a text are after its header; what follows them is ignored
abbrev pub data_of : ℕ → List Bool → List Bool
data_of bits text = drop 40 (take (40 + bits) text)

-- a message is acceptable where its bytes have the connection's size and what was granted covers it
abbrev pub is_acceptable : Entry → DataHeader → Bool
is_acceptable e h = is_size h.size e.size && is_covered (data_bits h) e.allocation

abbrev pub arrived : ℕ → Entry → ℕ → List Bool → DeskState → DeskState
arrived link e bits text d = desk_told (notice.Arrived e.own (data_of bits text) ∷ []) (changed (receives_on link) (spent bits) d)

-- an ERR about a whole message quotes its text
abbrev pub text_faulted : ℕ → List Bool → DeskState → DeskState
text_faulted code text d = command_queued (error code (octets_of text)) d

abbrev pub arrived_if : ℕ → Entry → List Bool → Option DataHeader → DeskState → DeskState
arrived_if link e text None d = text_faulted ERRONEOUS text d
arrived_if link e text (Some h) d = if is_acceptable e h then arrived link e (data_bits h) text d else text_faulted ERRONEOUS text d

abbrev pub data_found : ℕ → List Bool → Found → DeskState → DeskState
data_found link text Unconnected d = text_faulted NOT_CONNECTED text d
data_found link text Ending d = d
data_found link text (Open e) d = arrived_if link e text (header_of text) d

-- a message of data on a link
abbrev pub data_taken : ℕ → List Bool → DeskState → DeskState
data_taken link text d = data_found link text (receiver_on link d) d

-- ---- sending

-- the text of a message of this many bytes of this size, with these bits
abbrev pub data_text : ℕ → ℕ → List Bool → List Bool
data_text size count bits = header_bits (record { size = size; count = count }) ++ bits
