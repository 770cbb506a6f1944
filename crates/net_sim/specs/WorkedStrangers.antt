-- A small world with a stranger: words for worked examples. Hosts `first` and `second` run the program, and `third` runs anything.
use Rattle.std.specs.Prelude.{◌≡◌, ◌⊎◌, ℕ, true, false, List, [], ◌∷◌, None, Some, Ok, Err, Result}
use Rattle.std.specs.Bool.{MatchBool}
use Rattle.interface.specs.Calls.{Calls, Seen, ShowsTake}
use Rattle.interface.specs.Host.{Host, same_host}
use Rattle.interface.specs.declared.crossing.Crossing.TheVariants as crossing
use Rattle.interface.specs.declared.crossing.Inbound.{Inbound}
use Rattle.net_sim.specs.Steps.{StepGives, OpensAmong, StrangersFault, opening_mixed}
use Rattle.net_sim.specs.declared.strangers.StrangersFault.TheVariants as absent
use Rattle.net_sim.specs.Worked.{accepting_carrier, any_carrier, message}
use Rattle.net_sim.specs.World.{CalmGives, Event, Out, WorldFault, WorldState}
use Rattle.sockets.specs.Worked.{first, second, third}

-- hosts that aren't there
abbrev pub fourth : Host
fourth = record { imp = 4; host = 0 }

abbrev pub fifth : Host
fifth = record { imp = 5; host = 0 }

-- the network of three hosts
abbrev pub three_seen : Seen
three_seen = record { hosts = first ∷ second ∷ third ∷ []; log = []; stopped = false }

abbrev pub beside_third : WorldState Seen
beside_third = opening_mixed any_carrier three_seen (third ∷ [])

-- and with no stranger
abbrev pub beside_nobody : WorldState Seen
beside_nobody = opening_mixed any_carrier three_seen []

-- a carrier that has something for the third host whenever it takes, and nothing for any other
abbrev pub waiting_carrier : Calls Seen
waiting_carrier = record any_carrier {
  takes = λ old h r new. MatchBool (same_host h third) ((i : Inbound) × (r ≡ Ok (Some i))) (r ≡ Ok None)
      × ShowsTake old h r new;
}

-- where these are named as strangers there is no world, for want of this host
abbrev pub IsRefusedNaming : List Host → Host → Type 0
IsRefusedNaming named h = (r : Result (WorldState Seen) StrangersFault) → OpensAmong any_carrier three_seen named r → r ≡ Err (absent.NoSuch h)

-- or it is this one, unless memory is wanting
abbrev pub IsMadeNaming : List Host → WorldState Seen → Type 0
IsMadeNaming named s = (r : Result (WorldState Seen) StrangersFault) → OpensAmong any_carrier three_seen named r → (r ≡ Ok s) ⊎ (r ≡ Err absent.OutOfMemory)

-- memory has run out
abbrev pub spent : WorldState Seen
spent = record beside_third { stopped = true }

-- an event is refused for this, and changes nothing
abbrev pub IsRefusedThere : WorldState Seen → Event → WorldFault → Type 0
IsRefusedThere s e f = (r : Result (Unit {0}) WorldFault) (new : WorldState Seen) → StepGives any_carrier s e r new → (r ≡ Err f) × (new ≡ s)

-- what a stranger says to a carrier that takes each message is written down, and nobody is notified, until memory runs out
abbrev pub IsWritten : Type 0
IsWritten =
    (r : Result (Unit {0}) WorldFault) (new : WorldState Seen) → StepGives accepting_carrier beside_third (Out (message third first 2)) r new → new.stopped ≡ false
    → (new.kept.book.crossings ≡ crossing.Out (message third first 2) ∷ []) × (new.kept.book.notices ≡ [])

-- a calm of this many rounds is refused for this, and changes nothing
abbrev pub IsCalmRefused : WorldState Seen → ℕ → WorldFault → Type 0
IsCalmRefused s rounds f =
    (r : Result (Unit {0}) WorldFault) (new : WorldState Seen) → CalmGives any_carrier rounds s r new
    → (r ≡ Err f) × (new ≡ s)
