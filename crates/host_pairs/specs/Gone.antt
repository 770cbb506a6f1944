-- A pair once something of it has gone out.
use Rattle.std.specs.Prelude.{ℕ, ◌++◌}
use Rattle.interface.specs.Host.{Host}
use Rattle.host_pairs.specs.Turn.{TurnState}
use Rattle.host_pairs.specs.Desk.{DeskState, desk_of}
use Rattle.host_pairs.specs.Parcels.{Parcel, parcel_gone, pair_after, signal_gone, with_connections}

-- its connections once this parcel has gone out
abbrev pub desk_after : Host → ℕ → Parcel → TurnState → DeskState
desk_after peer stamp parcel t = parcel_gone peer stamp t.pair.busy parcel (desk_of t.pair t.listening)

-- the reset and the connections, but not the link
abbrev pub left_with : Parcel → TurnState → DeskState → TurnState
left_with parcel t d = record t { pair = with_connections (signal_gone parcel t.pair) d; notices = t.notices ++ d.notices }

-- the reset, the connections and the link
abbrev pub gone_with : Parcel → TurnState → DeskState → TurnState
gone_with parcel t d = record t { pair = pair_after parcel t.pair d; notices = t.notices ++ d.notices }
