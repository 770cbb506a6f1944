-- The laws of src/ that are longer than a line: each is a record, and its fields are the clauses.
use Rattle.std.specs.List.{All}
use Rattle.std.specs.Prelude.{List, Result, [], false, true, ℕ, ◌++◌, ◌∷◌, ◌↔◌, ◌≡◌}
use Rattle.interface.specs.Calls.{Calls}
use Rattle.interface.specs.Host.{Host}
use Rattle.interface.specs.declared.carrier.CarrierFault.TheVariants as fault
use Rattle.net_sim.specs.Carriers.{shown}
use Rattle.net_sim.specs.Steps.{StepGives}
use Rattle.net_sim.specs.World.{TurnGives, WorldState, stops}
use Rattle.net_sim.specs.declared.event.Event.{Event}
use Rattle.net_sim.specs.declared.event.WorldFault.TheVariants.{Carrier}
use Rattle.net_sim.specs.declared.event.WorldFault.{WorldFault}
use Rattle.replay.specs.InTurn.{InTurn}
use Rattle.replay.specs.Output as raw
use Rattle.replay.specs.Replay.{GoesOn}
use Rattle.replay.specs.Settled.{AreSettled}
use Rattle.world_script.specs.declared.event.WorldEvent.{WorldEvent}
use Rattle.world_script.specs.declared.event.WorldEvent.TheVariants.{Calm}
use Rattle.world_replay.specs.Apart.{IsAt, OthersStay, SameHosts}
use Rattle.world_replay.specs.Driven.{Drive, Drives, Goes, IsDrivenIn, Round}
use Rattle.world_replay.specs.Output.{Crossed, Noticed, Refused, Said, Shown, notices_of, reports_of, shown_in_turn}
use Rattle.world_replay.specs.Output.{told_in_turn}
use Rattle.world_replay.specs.Replay.{EndsIn, Happens, HappensInCalm, IsOfCalm, Replays, StopsIn, quiet_rounds}
use Rattle.world_replay.specs.Replay.{rounds_of}
use Rattle.world_replay.specs.Rounds.{RoundOf}
use Rattle.world_replay.specs.Worked.{came, said_at, told_at, went}

-- A carrier whose calls leave no choice leaves none to the replay of a world over it: events have one outcome and show
-- one list of lines, since nothing but the script says what strangers send and take. What is shown where memory runs out is a prefix of that list.
pub record OneReplay {C : Type 0} (calls : Calls C) : Type 0 where
  pub same :
      AreSettled calls → (old new other : WorldState C) (events : List WorldEvent) (lines more : List Shown) →
      Replays (shown calls) old events new lines → Replays (shown calls) old events other more →
      (new ≡ other) × (lines ≡ more)
  pub first_part :
      AreSettled calls → (old new other : WorldState C) (events : List WorldEvent) (part whole : List Shown) →
      EndsIn (shown calls) (StopsIn (shown calls)) old events new part → Replays (shown calls) old events other whole →
      (rest : List Shown) × (whole ≡ part ++ rest)

-- A calm is its rounds, one after another: they leave the world that it leaves, and show the lines that it shows.
pub record CalmRounds {C : Type 0} (calls : Calls C) : Type 0 where
  pub rounds :
      (old new : WorldState C) (rounds : ℕ) (lines : List Shown) →
      Happens (shown calls) old (Calm rounds) new lines → Replays (shown calls) old (rounds_of rounds) new lines
  -- and of a world that hasn't run out of memory its rounds are a calm
  pub whole :
      (old new : WorldState C) (rounds : ℕ) (lines : List Shown) → old.stopped ≡ false →
      Replays (shown calls) old (rounds_of rounds) new lines → Happens (shown calls) old (Calm rounds) new lines
  -- a calm is events one after another: quiet rounds of the network, one for each of its rounds, and takings and offers
  -- of hosts. They leave the world that it leaves, and show the lines that it shows
  pub events :
      (old new : WorldState C) (rounds : ℕ) (lines : List Shown) →
      Happens (shown calls) old (Calm rounds) new lines →
      (events : List Event) × All IsOfCalm events × (quiet_rounds events ≡ rounds) ×
      InTurn (HappensInCalm (shown calls)) old events new lines
  -- and of one round these are its events: the quiet round of the network, and then the takings and the offers of each
  -- host that is up
  pub turns :
      (old new : WorldState C) (lines : List Shown) →
      (Happens (shown calls) old (Calm 1) new lines ↔ RoundOf (HappensInCalm (shown calls)) old new lines)

-- A world's carrier is the network that its hosts drive: it changes by its own calls only. Each event makes the one
-- that it names, and an offer that of the message which the host's program has to send next. Here are no strangers.
pub record Driven {C : Type 0} (calls : Calls C) : Type 0 where
  -- each event of a script, be it refused or a calm, makes these calls, event by event, and what crosses by them is
  -- what the book gains
  pub event :
      (old new : WorldState C) (e : WorldEvent) (lines : List Shown) → old.strangers ≡ [] →
      Happens (shown calls) old e new lines → (drives : List Drive) × IsDrivenIn calls old e new drives
  -- and so does a whole replay: the carrier is what these calls make of it, and what crosses by them is what the book
  -- gains
  pub whole :
      (old new : WorldState C) (events : List WorldEvent) (lines : List Shown) → old.strangers ≡ [] →
      Replays (shown calls) old events new lines →
      (drives : List Drive) × InTurn (IsDrivenIn calls) old events new drives × Drives calls old new drives

-- An event at a host concerns no other one, and an event of a calm by which nothing crosses concerns no host.
pub record Apart {C : Type 0} (calls : Calls C) : Type 0 where
  -- programs and services of all others are as they were
  pub others :
      (h : Host) (e : Event) (old : WorldState C) (r : Result (Unit {0}) WorldFault) (new : WorldState C) →
      IsAt h e → stops r ≡ false → StepGives (shown calls) old e r new → OthersStay h old new
  -- so does one of a calm
  pub turn_others :
      (h : Host) (e : Event) (old : WorldState C) (r : Result (Unit {0}) WorldFault) (new : WorldState C) →
      IsAt h e → stops r ≡ false → TurnGives (shown calls) old e r new → OthersStay h old new
  -- and where nothing crosses in a calm nothing but the carrier changes
  pub silent :
      (e : Event) (old : WorldState C) (r : Result (Unit {0}) WorldFault) (new : WorldState C) →
      IsOfCalm e → stops r ≡ false → TurnGives (shown calls) old e r new →
      new.kept.book.crossings ≡ old.kept.book.crossings → SameHosts old new

-- Crossings, notices and reports in one list.
pub record WorkedNews : Type 0 where
  -- each notice is after the crossing that it comes of, and before the next one
  pub between :
      shown_in_turn 0 (went ∷ came ∷ []) (told_in_turn 0 (told_at 1 ∷ told_at 2 ∷ []) [])
      ≡ Crossed went ∷ Noticed (told_at 1) ∷ Crossed came ∷ Noticed (told_at 2) ∷ []
  -- several of one crossing are in their order, and a crossing that nobody is notified of is the only one
  pub several :
      shown_in_turn 0 (went ∷ came ∷ []) (told_in_turn 0 (told_at 2 ∷ told_at 2 ∷ []) [])
      ≡ Crossed went ∷ Crossed came ∷ Noticed (told_at 2) ∷ Noticed (told_at 2) ∷ []
  pub untold : shown_in_turn 0 (went ∷ came ∷ []) (told_in_turn 0 [] []) ≡ Crossed went ∷ Crossed came ∷ []
  -- places count the crossings of before
  pub later :
      shown_in_turn 5 (went ∷ came ∷ []) (told_in_turn 9 (told_at 6 ∷ []) [])
      ≡ Crossed went ∷ Noticed (told_at 6) ∷ Crossed came ∷ []
  -- the notices to a user where nothing crossed
  pub uncrossed : shown_in_turn 5 [] (told_in_turn 9 (told_at 5 ∷ []) []) ≡ Noticed (told_at 5) ∷ []
  -- reports are after the notice that they are about, in their order, and before the next crossing
  pub reported :
      shown_in_turn 0 (went ∷ came ∷ []) (told_in_turn 3 (told_at 1 ∷ told_at 2 ∷ []) (said_at 4 ∷ said_at 4 ∷ []))
      ≡ Crossed went ∷ Noticed (told_at 1) ∷ Said (said_at 4) ∷ Said (said_at 4) ∷ Crossed came ∷ Noticed (told_at 2) ∷
      []
  pub behind :
      shown_in_turn 0 (went ∷ []) (told_in_turn 3 (told_at 1 ∷ told_at 1 ∷ []) (said_at 5 ∷ []))
      ≡ Crossed went ∷ Noticed (told_at 1) ∷ Noticed (told_at 1) ∷ Said (said_at 5) ∷ []
  -- a service that fails as it begins
  pub begun : shown_in_turn 5 [] (told_in_turn 3 [] (said_at 3 ∷ [])) ≡ Said (said_at 3) ∷ []
  -- the notices to users and what services reported, among the other lines
  pub notices :
      notices_of (Crossed went ∷ Noticed (told_at 1) ∷ Said (said_at 4) ∷ Refused (Carrier fault.NoSuch) ∷
      Noticed (told_at 2) ∷ [])
      ≡ told_at 1 ∷ told_at 2 ∷ []
  pub reports :
      reports_of (Said (said_at 5) ∷ Crossed went ∷ Noticed (told_at 1) ∷ Said (said_at 4) ∷ [])
      ≡ said_at 5 ∷ said_at 4 ∷ []

-- Memory has run out in no event that happens, in no calm and in none of its rounds; and it has in one at which a
-- replay ends.
pub record WorkedEnds {C : Type 0} (calls : Calls C) : Type 0 where
  pub happens :
      (old new : WorldState C) (e : WorldEvent) (lines : List Shown) (h : Happens (shown calls) old e new lines) →
      stops h.outcome ≡ false
  pub in_calm :
      (old new : WorldState C) (e : Event) (lines : List Shown) (h : HappensInCalm (shown calls) old e new lines) →
      stops h.outcome ≡ false
  pub round : (old new : C) (lines : List raw.Shown) (h : Goes calls old Round new lines) → GoesOn h.0
  pub memory :
      (old new : WorldState C) (e : WorldEvent) (lines : List Shown) (h : StopsIn (shown calls) old e new lines) →
      stops h.outcome ≡ true
