-- The texts of programs and services say all of a world but its carrier and what is kept.
use Rattle.world_trace.proofs.Common.{◌≡◌, List, [], ◌∷◌, Some, refl, sym, ◌∙◌, All-cons, All-head, All-nil, All-tail, All, no_services, Calls, Host, opening_state, IsHostNamed, WorldEvent}
use Rattle.net_sim.specs.World.{WorldState, opening_seats, opening_services, opening_world}
use Rattle.world_trace.specs.Told.{AreNumbersTold, IsListenerTold, IsPairTold, IsSeatTold, IsServed, IsServiceTold, IsWorldTold, HaveSameTexts}
use Rattle.world_replay.specs.Output.{Shown}
use Rattle.world_replay.proofs.lemmas.{replay_same}
use Rattle.world_replay.specs.Replay.{Replays}
use Rattle.world_trace.proofs.Programs.{programs_once}
use Rattle.world_trace.proofs.Running.{services_once}
use Rattle.world_trace.proofs.Unspent.Worlds.{Runs, opening_lasts, replay_runs}

pub whole : {C : Type 0} (one other : WorldState C) → IsWorldTold one → IsWorldTold other → HaveSameTexts one other → other ≡ record one { carrier = other.carrier; kept = other.kept }
whole one other p q same =
    let seats : other.seats ≡ one.seats = sym (programs_once one.seats other.seats p.lasting.programs q.lasting.programs p.numbers.programs q.numbers.programs same.programs) in
    let served : other.services ≡ one.services = sym (services_once one.services other.services p.lasting.services q.lasting.services p.numbers.services q.numbers.services same.services) in
    let stopped : other.stopped ≡ one.stopped = q.running ∙ sym p.running in
    let strangers : other.strangers ≡ one.strangers = q.strangers ∙ sym p.strangers in
    λ i. record { carrier = other.carrier; strangers = strangers i; seats = seats i; services = served i; kept = other.kept; stopped = stopped i }

-- ---- the opening

programs_told : (hosts : List Host) → All IsHostNamed hosts → All IsSeatTold (opening_seats hosts)
programs_told [] all = All-nil IsSeatTold
programs_told (h ∷ hosts) all =
    All-cons IsSeatTold (record { host = h; program = Some (opening_state h) }) (opening_seats hosts)
    (record { host = All-head IsHostNamed h hosts all; program = record { peers = All-nil IsPairTold; listening = All-nil IsListenerTold } })
    (programs_told hosts (All-tail IsHostNamed h hosts all))

services_told : (hosts : List Host) → All IsHostNamed hosts → All IsServed (opening_services hosts)
services_told [] all = All-nil IsServed
services_told (h ∷ hosts) all =
    All-cons IsServed (record { host = h; services = no_services }) (opening_services hosts)
    (record { host = All-head IsHostNamed h hosts all; typing = tt; running = All-nil IsServiceTold }) (services_told hosts (All-tail IsHostNamed h hosts all))

pub opening_told : {C : Type 0} (calls : Calls C) (c : C) → All IsHostNamed (calls.seen c).hosts → IsWorldTold (opening_world calls c)
opening_told calls c all = record {
  strangers = refl;
  running = refl;
  lasting = opening_lasts calls c;
  numbers = record { programs = programs_told (calls.seen c).hosts all; services = services_told (calls.seen c).hosts all };
}

-- ---- replays

pub reached_told : {C : Type 0} (calls : Calls C) (c : C) (events : List WorldEvent) (w : WorldState C) (lines : List Shown) → Replays calls (opening_world calls c) events w lines → AreNumbersTold w → IsWorldTold w
reached_told {C} calls c events w lines h numbers =
    let runs : Runs w = replay_runs calls events (opening_world calls c) w lines (record { on = refl; last = opening_lasts calls c }) h in
    record { strangers = replay_same calls events (opening_world calls c) w lines h; running = runs.on; lasting = runs.last; numbers = numbers }
