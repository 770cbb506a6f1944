-- Hosts that have nothing to say.
use Rattle.std.specs.Prelude.{◌≡◌, ◌<◌, ℕ, List, length, Some, None, slice_get}
use Rattle.sockets.specs.Pairs.{NcpState}
use Rattle.sockets.specs.Sending.{next_out}
use Rattle.net_sim.specs.World.{Seat}

-- a host is down, or has nothing to say
abbrev pub IsSilent : Seat → Type 0
IsSilent seat = (s : NcpState) → seat.program ≡ Some s → next_out s ≡ None

-- the same of the host whose seat is at this place
abbrev pub IsSilentAt : List Seat → ℕ → Type 0
IsSilentAt seats at = (seat : Seat) → slice_get seats at ≡ Some seat → IsSilent seat

-- and of each host
abbrev pub AllSilent : List Seat → Type 0
AllSilent seats = (at : ℕ) → at < length seats → IsSilentAt seats at
