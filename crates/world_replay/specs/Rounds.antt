-- A round of a calm: its events in their order, whatever each of them shows.
use Rattle.std.specs.Prelude.{◌≡◌, ◌⊎◌, ℕ, zero, suc, Bool, true, List, [], ◌∷◌, ◌++◌, length, nat_lt}
use Rattle.std.specs.Bool.{MatchBool}
use Rattle.std.specs.List.{flat_map}
use Rattle.interface.specs.Host.{Host}
use Rattle.net_sim.specs.World.{WorldState, up_in}
use Rattle.net_sim.specs.declared.event.Event.{Event}
use Rattle.net_sim.specs.declared.event.Event.TheVariants.{Offer, Quiet, Take}
use Rattle.net_sim.specs.declared.seat.Seat.{Seat}
use Rattle.replay.specs.InTurn.{EndsInTurn, Happening, InTurn}

-- something crosses from one world to another: the book of the later one has more crossings
abbrev pub crosses : {C : Type 0} → WorldState C → WorldState C → Bool
crosses old new = nat_lt (length old.kept.book.crossings) (length new.kept.book.crossings)

-- an event again and again, at most this many times, until nothing crosses by it
abbrev pub Repeated : {C : Type 0} {L : Type 0} → Happening (WorldState C) Event L → Event → ℕ → WorldState C → WorldState C → List L → Type 0
Repeated Happens e zero old new shown = (new ≡ old) × (shown ≡ [])
Repeated {C} {L} Happens e (suc times) old new shown =
    (mid : WorldState C) × (first : List L) × (rest : List L) × Happens old e mid first
    × MatchBool (crosses old mid) (Repeated Happens e times mid new rest) ((new ≡ mid) × (rest ≡ [])) × (shown ≡ first ++ rest)

-- the event with its number
abbrev pub Again : {C : Type 0} {L : Type 0} → Happening (WorldState C) Event L → Happening (WorldState C) (Event × ℕ) L
Again Happens old e new shown = Repeated Happens e.0 e.1 old new shown

-- the last of them went as is said, and those before it happened
abbrev pub EndsRepeated : {C : Type 0} {L : Type 0} → Happening (WorldState C) Event L → Happening (WorldState C) Event L → Event → ℕ → WorldState C → WorldState C → List L → Type 0
EndsRepeated Happens Goes e zero old new shown = ⊥
EndsRepeated {C} {L} Happens Goes e (suc times) old new shown =
    Goes old e new shown
    ⊎ ((mid : WorldState C) × (first : List L) × (rest : List L) × Happens old e mid first × (crosses old mid ≡ true) × EndsRepeated Happens Goes e times mid new rest × (shown ≡ first ++ rest))

abbrev pub EndsAgain : {C : Type 0} {L : Type 0} → Happening (WorldState C) Event L → Happening (WorldState C) Event L → Happening (WorldState C) (Event × ℕ) L
EndsAgain Happens Goes old e new shown = EndsRepeated Happens Goes e.0 e.1 old new shown

-- ---- the events of a round

-- a host takes up to 16 times, and then offers up to 32 times
abbrev pub turn_of : Host → List (Event × ℕ)
turn_of h = (Take h, 16) ∷ (Offer h, 32) ∷ []

-- a quiet round of the network, and then each host that is up
abbrev pub turns_in : List Seat → List (Event × ℕ)
turns_in seats = (Quiet, 1) ∷ flat_map turn_of (up_in seats)

-- the events of a round, one after another. A quiet round changes no seat, so that the hosts that are up before it are up after it
abbrev pub RoundOf : {C : Type 0} {L : Type 0} → Happening (WorldState C) Event L → WorldState C → WorldState C → List L → Type 0
RoundOf Happens old new shown = InTurn (Again Happens) old (turns_in old.seats) new shown

-- one of them went as is said, and those before it happened
abbrev pub EndsRound : {C : Type 0} {L : Type 0} → Happening (WorldState C) Event L → Happening (WorldState C) Event L → WorldState C → WorldState C → List L → Type 0
EndsRound Happens Goes old new shown = EndsInTurn (Again Happens) (EndsAgain Happens Goes) old (turns_in old.seats) new shown
