-- A program with one open end, for worked rows.
use Rattle.std.specs.Prelude.{[], ◌∷◌}
use Rattle.host_pairs.specs.Commands.{asked_with_size}
use Rattle.host_pairs.specs.Entries.{receiving_end}
use Rattle.host_pairs.specs.Pair.{opening_pair}
use Rattle.host_pairs.specs.Parcels.{asked_at}
use Rattle.host_pairs.specs.declared.entry.Entry.{Entry}
use Rattle.ncp_control.specs.declared.phase.Phase.TheVariants as phase
use Rattle.sockets.specs.Pairs.{NcpState, opening_state}
use Rattle.sockets.specs.Worked.{first, second}

-- it receives on socket 16: its RTS went out at place 6, and the STR was taken at place 10
abbrev pub worked_end : Entry
worked_end = asked_with_size 10 8 (asked_at 6 (receiving_end 16 33 5))

abbrev pub with_one : NcpState
with_one = record (opening_state first) { peers = record { host = second; pair = record opening_pair { phase = phase.Ready; entries = worked_end ∷ [] } } ∷ [] }
