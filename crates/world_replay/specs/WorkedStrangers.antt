-- Words for worked examples of a replay with a stranger: hosts `first` and `second` run the program, and `third` runs anything.
use Rattle.std.specs.Prelude.{◌≡◌, List, [], ◌∷◌}
use Rattle.interface.specs.Calls.{Calls, Seen, crossing_of}
use Rattle.interface.specs.declared.crossing.Answer.TheVariants as answer
use Rattle.interface.specs.declared.crossing.Crossing.TheVariants as crossing
use Rattle.interface.specs.declared.crossing.Inbound.{Inbound}
use Rattle.interface.specs.declared.message.HostMessage.{HostMessage}
use Rattle.host_pairs.specs.declared.notice.Notice.TheVariants as notice
use Rattle.net_sim.specs.WorkedStrangers.{beside_third}
use Rattle.net_sim.specs.World.{WorldState}
use Rattle.sockets.specs.Worked.{control, first, third}
use Rattle.world_replay.specs.Output.{Crossed, Noticed, Shown}
use Rattle.world_replay.specs.Replay.{Happens, Replays}
use Rattle.world_script.specs.declared.event.WorldEvent.{WorldEvent}

-- the stranger says RST to the first host
abbrev pub hail : HostMessage
hail = control third first (12 ∷ [])

-- these events may show these lines, over this carrier
abbrev pub MayShow : Calls Seen → List WorldEvent → List Shown → Type 0
MayShow calls events lines = (new : WorldState Seen) × Replays calls beside_third events new lines

-- an event shows no others
abbrev pub ShowsOnly : Calls Seen → WorldEvent → List Shown → Type 0
ShowsOnly calls e lines = (new : WorldState Seen) (shown : List Shown) → Happens calls beside_third e new shown → shown ≡ lines

-- an event shows one crossing, of something that came in
abbrev pub ShowsOneTaken : Calls Seen → WorldEvent → Type 0
ShowsOneTaken calls e =
    (new : WorldState Seen) (shown : List Shown) → Happens calls beside_third e new shown → (i : Inbound) × (shown ≡ Crossed (crossing_of i) ∷ [])

-- it goes out and comes in, the first host's user is notified, and the stranger takes the RFNM
abbrev pub hailed : List Shown
hailed =
    Crossed (crossing.Out hail) ∷ Crossed (crossing.In hail) ∷ Noticed (record { host = first; place = 2; notice = notice.Ready third })
    ∷ Crossed (crossing.Answer answer.Rfnm hail.flow) ∷ []
