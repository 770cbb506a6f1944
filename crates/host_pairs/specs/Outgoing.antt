-- What goes out next, as the program names it: an end by its place.
use Rattle.std.specs.Prelude.{◌≡◌, ℕ, ◌*◌, ◌<◌, ◌≤◌, List, length, slice_index_or}
use Rattle.ncp_control.specs.Packing.{packed_count}
use Rattle.ncp_control.specs.declared.command.Command.{Command}
use Rattle.host_pairs.specs.Entries.{new_entry}
use Rattle.host_pairs.specs.Parcels.{Parcel, Reset, Reply, Commands, Bytes}
use Rattle.host_pairs.specs.declared.entry.Entry.{Entry}
use Rattle.host_pairs.specs.declared.outgoing.Outgoing.{Outgoing}
use Rattle.host_pairs.specs.declared.outgoing.Outgoing.TheVariants as outgoing

-- the end at a place
abbrev pub end_at : List Entry → ℕ → Entry
end_at entries at = slice_index_or entries at (new_entry 0 0)

abbrev pub parcel_of : List Entry → Outgoing → Parcel
parcel_of entries outgoing.Reset = Reset
parcel_of entries outgoing.Reply = Reply
parcel_of entries (outgoing.Commands count) = Commands count
parcel_of entries (outgoing.Bytes at size count) = Bytes (end_at entries at) size count

-- the end that it names is there
abbrev pub IsThere : List Entry → Outgoing → Type 0
IsThere entries outgoing.Reset = Unit {0}
IsThere entries outgoing.Reply = Unit {0}
IsThere entries (outgoing.Commands count) = Unit {0}
IsThere entries (outgoing.Bytes at size count) = at < length entries

-- one message holds it: as many commands as have room together, and no more bits than wait and than one message has room for
abbrev pub HasRoom : List Entry → List Command → Outgoing → Type 0
HasRoom entries queue outgoing.Reset = Unit {0}
HasRoom entries queue outgoing.Reply = Unit {0}
HasRoom entries queue (outgoing.Commands count) = count ≡ packed_count queue
HasRoom entries queue (outgoing.Bytes at size count) = (size * count ≤ 8023) × (size * count ≤ length (end_at entries at).bits)
