-- The laws of src/ that are longer than a line: each is a record, and its fields are the clauses.
use Rattle.std.specs.List.{All}
use Rattle.std.specs.Prelude.{List, None, Result, Some, [], codes, false, map, true, ℕ, ◌++◌, ◌∷◌, ◌≡◌, ◌⊎◌}
use Rattle.host_pairs.specs.Entries.{receiving_end, refused_end}
use Rattle.host_pairs.specs.Pair.{opening_pair}
use Rattle.host_services.specs.Services.{no_services}
use Rattle.host_services.specs.declared.service.Service.TheVariants as service
use Rattle.icp.specs.Server.{opening_server}
use Rattle.interface.specs.Calls.{Calls, Seen}
use Rattle.ncp_control.specs.declared.command.Command.TheVariants as command
use Rattle.ncp_control.specs.declared.phase.Phase.TheVariants as phase
use Rattle.net_sim.specs.Carriers.{shown}
use Rattle.net_sim.specs.Steps.{StepGives}
use Rattle.net_sim.specs.World.{WorldState, opening_world}
use Rattle.net_sim.specs.WorkedStrangers.{beside_third}
use Rattle.net_sim.specs.declared.event.Event.{Event}
use Rattle.net_sim.specs.declared.event.WorldFault.{WorldFault}
use Rattle.sockets.specs.Pairs.{NcpState, opening_state}
use Rattle.sockets.specs.Worked.{first, second}
use Rattle.terminal.specs.Machines.{opening_echo}
use Rattle.topology.specs.Topology.{TopologyFields}
use Rattle.trace.specs.Named.{IsHostNamed}
use Rattle.trace.specs.declared.all_parts.AllParts.{AllParts}
use Rattle.trace.specs.declared.element.Spot.{Spot}
use Rattle.world_replay.specs.Output.{Shown}
use Rattle.world_replay.specs.Replay.{EventGives, Happens, MayStep, Replays}
use Rattle.world_script.specs.WorldSpelling.{IsWorldEvent}
use Rattle.world_script.specs.declared.event.WorldEvent.TheVariants as script
use Rattle.world_script.specs.declared.event.WorldEvent.TheVariants.{Calm}
use Rattle.world_script.specs.declared.event.WorldEvent.{WorldEvent}
use Rattle.world_trace.specs.Lasting.{Lasts}
use Rattle.world_trace.specs.MixedTraces.{AfterMixedOpening, AllTell, MayTellMixed, MixedTraceFails, StopsMixed}
use Rattle.world_trace.specs.MixedTraces.{TellsMixedAt}
use Rattle.world_trace.specs.Reached.{IsReached, IsSaid}
use Rattle.world_trace.specs.Texts.{command_object, end_object, pair_object, program_text, running_object}
use Rattle.world_trace.specs.Texts.{opening_text, service_object}
use Rattle.world_trace.specs.Told.{AreNumbersTold, HaveSameTexts, IsWorldTold}
use Rattle.world_trace.specs.Traces.{EndsAt, IsHeard, IsSilent, IsUnchanged, MayTell, StopsOne, TellsRound, TracesWorld}
use Rattle.world_trace.specs.Traces.{state_of}
use Rattle.world_trace.specs.Worked.{PrintsSpot}

-- The texts of programs and services say all of a world but its carrier, which has parts of its own, and what is kept:
-- two worlds with the same texts differ in nothing else. This is so of each world to which a replay comes, if its
-- numbers are not too long for a decimal: of a world at hand [`crate::says_all`] says that they are not.
pub record Whole {C : Type 0} (calls : Calls C) : Type 0 where
  pub texts :
      (one other : WorldState C) → IsWorldTold one → IsWorldTold other → HaveSameTexts one other →
      other ≡ record one { carrier = other.carrier; kept = other.kept }
  -- so is each world at its opening whose hosts can be named
  pub opening : (c : C) → All IsHostNamed (calls.seen c).hosts → IsWorldTold (opening_world calls c)
  -- and while memory lasts in the world it lasts in all programs and services: so each event of a script leaves it,
  -- whatever comes of it
  pub lasting :
      (old new : WorldState C) (e : WorldEvent) (r : Result (Unit {0}) WorldFault) → (old.stopped ≡ false → Lasts old) →
      EventGives (shown calls) old e r new → new.stopped ≡ false → Lasts new
  -- no world to which a replay comes from the opening has stopped, and texts say all of it whose numbers they say
  pub reached :
      (c : C) (script : List WorldEvent) (w : WorldState C) (lines : List Shown) →
      Replays (shown calls) (opening_world calls c) script w lines → AreNumbersTold w → IsWorldTold w
  -- the world after a trace is one to which the replay of its script comes
  pub traced :
      (members : C → AllParts) (c : C) (events : List (ℕ × WorldEvent)) (w : WorldState C) (lines : List (List ℕ)) →
      TracesWorld (shown calls) members (opening_world calls c) events w lines →
      (printed : List Shown) × Replays (shown calls) (opening_world calls c) (map (λ e. e.1) events) w printed

-- The events of a round that a trace has, with those that have no line, are a calm of one round as a replay lets it
-- happen.
pub record CalmRound {C : Type 0} (calls : Calls C) : Type 0 where
  pub round :
      (members : C → AllParts) (spot : Spot) (old new : WorldState C) (round : ℕ) (lines : List (List ℕ)) →
      TellsRound (shown calls) members spot old round new lines →
      (printed : List Shown) × Happens (shown calls) old (Calm 1) new printed

-- Pairs, ends and commands.
pub record WorkedPairs : Type 0 where
  -- an RST is in transit and an RRP came in the meantime; an RRP is owed, and one link has no answer
  pub pair :
      pair_object (record {
        host = second;
        pair = record opening_pair { phase = phase.Gone true; owed = true; busy = 0 ∷ [] };
      })
      ≡ codes "{\"peer\":\"0/2\",\"phase\":\"early\",\"owed\":true,\"busy\":[0],\"ends\":[],\"commands\":[]}"
  -- commands that wait, oldest first
  pub commands :
      pair_object (record {
        host = first;
        pair = record opening_pair { phase = phase.Ready; queue = command.Cls 16 33 ∷ command.Inr 2 ∷ [] };
      })
      ≡ codes "{\"peer\":\"0/1\",\"phase\":\"ready\",\"owed\":false,\"busy\":[],\"ends\":[],\"commands\":[{\"kind\":\"cls\",\"own\":16,\"foreign\":33},{\"kind\":\"inr\",\"link\":2}]}"
  pub error : command_object (command.Err 3 (1 ∷ 171 ∷ [])) ≡ codes "{\"kind\":\"err\",\"code\":3,\"detail\":\"01AB\"}"
  -- a receiving end that is not requested yet, and the end of a request that is refused
  pub receiver :
      end_object (receiving_end 16 33 2)
      ≡ codes "{\"socket\":16,\"foreign\":33,\"kind\":\"receive\",\"mine\":true,\"requests\":{\"own\":null,\"peer\":null},\"closing\":{\"own\":\"no\",\"peer\":false},\"link\":2,\"size\":null,\"allocation\":{\"messages\":0,\"bits\":0},\"waiting\":{\"bits\":0,\"octets\":\"\"}}"
  pub refused :
      end_object (refused_end 33 16 7)
      ≡ codes "{\"socket\":33,\"foreign\":16,\"kind\":\"send\",\"mine\":false,\"requests\":{\"own\":null,\"peer\":7},\"closing\":{\"own\":\"queued\",\"peer\":false},\"link\":null,\"size\":null,\"allocation\":{\"messages\":0,\"bits\":0},\"waiting\":{\"bits\":0,\"octets\":\"\"}}"

-- Programs and services.
pub record WorkedHosts : Type 0 where
  pub up :
      program_text (Some (record (opening_state first) { listening = record { socket = 1; size = 32 } ∷ [] }))
      ≡ codes "{\"pairs\":[],\"listening\":[{\"socket\":1,\"size\":32}]}"
  pub down : program_text None ≡ codes "null"
  -- its text leaves out whose program it is, and whether it has run out of memory
  pub left_out : (s : NcpState) → program_text (Some (record s { own = second; spent = true })) ≡ program_text (Some s)
  pub server :
      service_object
      (service.Server (record (opening_server 1 100) { user = Some (record { peer = first; socket = 16 }) }))
      ≡ codes "{\"kind\":\"server\",\"listen\":1,\"sockets\":{\"receive\":100,\"send\":101},\"met\":{\"user\":{\"host\":\"0/1\",\"socket\":16},\"receiving\":null,\"sending\":null},\"over\":false}"
  pub running :
      running_object (record no_services { running = service.Echo (opening_echo 100 101) ∷ []; typing = Some 19 })
      ≡ codes "{\"typing\":19,\"running\":[{\"kind\":\"echo\",\"sockets\":{\"receive\":100,\"send\":101}}]}"

-- What is known of a world where a write failed: the event had happened, and its line is not among those that are
-- known.
pub record WorkedFailures {C : Type 0} (calls : Calls C) : Type 0 where
  -- no write fails in a calm of no rounds
  pub nothing :
      (members : C → AllParts) (spot : Spot) (old new : WorldState C) (lines : List (List ℕ)) →
      EndsAt calls members (MayTell calls) spot old (Calm 0) new lines → ⊥
  pub no_line : (old new : WorldState C) (e : Event) (line : List ℕ) → MayTell calls old e new (line ∷ []) → ⊥

-- An event without a line leaves all as it is, and one with a line prints or changes something.
pub record WorkedEvents {C : Type 0} (calls : Calls C) : Type 0 where
  pub silent :
      (members : C → AllParts) (old new : WorldState C) (e : Event) (lines : List (List ℕ)) →
      IsSilent calls members old e new lines → IsUnchanged members old new
  pub heard :
      (members : C → AllParts) (spot : Spot) (round : ℕ) (old new : WorldState C) (e : Event) (lines : List (List ℕ))
      (h : IsHeard calls members spot round old e new lines) → h.0.0 ≡ [] → IsUnchanged members old new → ⊥
  -- where memory runs out the world is as it was, or has processed the event
  pub memory :
      (old new : WorldState C) (e : Event) (lines : List (List ℕ)) → StopsOne calls old e new lines →
      (new ≡ old) ⊎ MayStep calls old e new

-- A replay comes to a world by events that a script may ask for, and all that crossed there can be named.
pub record WorkedReached {C : Type 0} (calls : Calls C) : Type 0 where
  pub events : (opening : C) (w : WorldState C) (h : IsReached calls opening w) → All (IsWorldEvent false) h.script
  pub said : (opening : C) (w : WorldState C) → IsReached calls opening w → All IsSaid w.kept.book.crossings

-- What is written of a world with strangers, and what is left of it where its trace ends early.
pub record WorkedAmong {C : Type 0} (calls : Calls C) : Type 0 where
  -- the first line ends with who they are
  pub opened :
      (members : Seen → AllParts) (t : TopologyFields) (lines : List (List ℕ)) →
      AfterMixedOpening members t beside_third (λ others. others ≡ []) lines →
      lines ≡ opening_text t (state_of members beside_third ++ codes "\"foreign\":[\"0/3\"]" ∷ []) ∷ []
  -- events are counted from 1, and each is beside its line of the script
  pub counted :
      (old e new : ℕ) (lines : List (List ℕ)) → AllTell PrintsSpot old ((7, e) ∷ (9, e) ∷ []) new lines →
      lines ≡ (7 ∷ 1 ∷ []) ∷ (9 ∷ 2 ∷ []) ∷ []
  -- no stranger comes or goes in a calm
  pub calm :
      (members : C → AllParts) (spot : Spot) (old new : WorldState C) (rounds : ℕ) (lines : List (List ℕ)) →
      TellsMixedAt calls members spot old (script.Calm rounds) new lines → new.strangers ≡ old.strangers
  -- where memory ran out or a write failed the event has no line, and the world is as before it or as it went
  pub memory :
      (old new : WorldState C) (e : Event) (lines : List (List ℕ)) → StopsMixed calls old e new lines →
      (lines ≡ []) × ((new ≡ old) ⊎ ((r : Result (Unit {0}) WorldFault) × StepGives calls old e r new))
  pub failed :
      (old new : WorldState C) (e : Event) (lines : List (List ℕ)) → MayTellMixed calls old e new lines →
      (lines ≡ []) × ((r : Result (Unit {0}) WorldFault) × StepGives calls old e r new)
  -- and no write fails for the line of no event
  pub nothing : (members : C → AllParts) (old new : WorldState C) → MixedTraceFails calls members old [] new → ⊥
