-- The parts of a calm: what one host does in a round, one round, and hosts that have no part in it.
use Rattle.std.specs.Prelude.{◌≡◌, ◌<◌, ℕ, List, length, IfSome, Some, Result, slice_get}
use Rattle.std.specs.Bool.{MatchBool}
use Rattle.interface.specs.Host.{Host}
use Rattle.interface.specs.Rest.{RefusesOffer}
use Rattle.sockets.specs.Pairs.{NcpState}
use Rattle.sockets.specs.Sending.{next_out}
use Rattle.net_sim.specs.World.{Seat, WorldState, WorldFault, Quiet, Offer, Take, TurnGives, Repeats, TurnsOf, stops, up_in}
use Rattle.interface.specs.Calls.{Calls}

-- a host takes up to 16 times, and then offers up to 32 times
abbrev pub CalmTurn : {C : Type 0} → Calls C → Host → WorldState C → Result (Unit {0}) WorldFault → WorldState C → Type 0
CalmTurn {C} calls h old r new =
    (first : Result (Unit {0}) WorldFault) × (taken : WorldState C) × Repeats calls (Take h) 16 old first taken
    × MatchBool (stops first) ((r ≡ first) × (new ≡ taken)) (Repeats calls (Offer h) 32 taken r new)

-- a quiet round, and then each host that is up has its turn
abbrev pub Round : {C : Type 0} → Calls C → WorldState C → Result (Unit {0}) WorldFault → WorldState C → Type 0
Round {C} calls old r new =
    (first : Result (Unit {0}) WorldFault) × (quiet : WorldState C) × TurnGives calls old Quiet first quiet
    × MatchBool (stops first) ((r ≡ first) × (new ≡ quiet)) (TurnsOf calls (up_in quiet.seats) quiet r new)

-- a host is down, has nothing to say, or is refused what it has to say
abbrev pub OffersNothing : {C : Type 0} → Calls C → C → Seat → Type 0
OffersNothing calls c seat = (s : NcpState) → seat.program ≡ Some s → IfSome (next_out s) (λ m. RefusesOffer calls.offers c m)

-- the same of the host whose seat is at this place
abbrev pub OffersNothingAt : {C : Type 0} → Calls C → C → List Seat → ℕ → Type 0
OffersNothingAt calls c seats at = (seat : Seat) → slice_get seats at ≡ Some seat → OffersNothing calls c seat

-- and of each host
abbrev pub AllOfferNothing : {C : Type 0} → Calls C → C → List Seat → Type 0
AllOfferNothing calls c seats = (at : ℕ) → at < length seats → OffersNothingAt calls c seats at
