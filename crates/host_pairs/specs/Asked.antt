-- What a request of the user does to a pair (NIC 8246: RTS, STR, CLS, ALL, GVB, INR, INS, ECO and RST go out by them).
use Rattle.std.specs.Prelude.{ℕ, ◌+◌, ◌%◌, ◌==◌, ◌||◌, Bool, false, nat_lt, if◌then◌else◌, List, [], ◌∷◌, ◌++◌, Option, Some, None}
use Rattle.interface.specs.Host.{Host}
use Rattle.ncp_control.specs.declared.allocation.Allocation.{Allocation}
use Rattle.ncp_control.specs.declared.command.Command.{Command}
use Rattle.ncp_control.specs.declared.command.Command.TheVariants as command
use Rattle.host_pairs.specs.Entries.{is_receiving, changed_first, is_mine_on, receiving_end, called_off}
use Rattle.host_pairs.specs.Pair.{PairState}
use Rattle.host_pairs.specs.Desk.{DeskState, desk_of, settled}
use Rattle.ncp_control.specs.Phases.{is_ready}
use Rattle.host_pairs.specs.Parcels.{link_of}
use Rattle.host_pairs.specs.declared.entry.Entry.{Entry}
use Rattle.host_pairs.specs.declared.notice.Notice.{Notice}
use Rattle.host_pairs.specs.declared.notice.Notice.TheVariants as notice
use Rattle.ncp_control.specs.declared.phase.Phase.{Phase}
use Rattle.ncp_control.specs.declared.phase.Phase.TheVariants as phase

-- ---- refusals, in their order

-- this many bits are whole bytes of a size
abbrev pub are_bytes : ℕ → Option ℕ → Bool
are_bytes bits None = false
are_bytes bits (Some size) = bits % size == 0

-- what is granted at a time stays within 65535 messages and 4294967295 bits
abbrev pub passes : Allocation → ℕ → ℕ → Bool
passes a messages bits = nat_lt 65535 (a.messages + messages) || nat_lt 4294967295 (a.bits + bits)

-- ---- what they do

-- all that was with the peer is gone, and an RST will go out
abbrev pub contacted : PairState → PairState
contacted q = record q { phase = phase.Want; entries = []; queue = [] }

-- a new end, and its request
abbrev pub requested : Entry → Command → PairState → PairState
requested e c q = record q { entries = q.entries ++ e ∷ []; queue = q.queue ++ c ∷ [] }

abbrev pub receiver_requested : ℕ → ℕ → Option ℕ → PairState → PairState
receiver_requested own foreign None q = q
receiver_requested own foreign (Some link) q = requested (receiving_end own foreign link) (command.Rts own foreign link) q

-- this host's own end on a socket is changed
abbrev pub with_end : ℕ → (Entry → Entry) → PairState → PairState
with_end socket change q = record q { entries = changed_first (is_mine_on socket) change q.entries }

-- a command is queued
abbrev pub commanded : Command → PairState → PairState
commanded c q = record q { queue = q.queue ++ c ∷ [] }

abbrev pub with_more_bits : List Bool → Entry → Entry
with_more_bits bits e = record e { bits = e.bits ++ bits }

abbrev pub interrupt_of : Entry → Command
interrupt_of e = if is_receiving e then command.Inr (link_of e.link) else command.Ins (link_of e.link)

-- the end closes, at once or when it is drained
abbrev pub settled_pair : PairState → DeskState → PairState
settled_pair q d = record q { entries = d.entries; queue = d.queue }

abbrev pub closed_end : ℕ → PairState → PairState
closed_end socket q = settled_pair q (settled q.busy (desk_of (with_end socket called_off q) []))

-- a contact with an opened pair is notified of, since all its connections are gone
abbrev pub contact_notices : Host → Phase → List Notice
contact_notices peer p = if is_ready p then notice.PairReset peer ∷ [] else []
