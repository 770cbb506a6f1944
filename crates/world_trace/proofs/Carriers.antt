-- A world's carrier is a raw network.
use Rattle.world_trace.proofs.Common.{◌≡◌, Bool, true, false, List, [], ◌∷◌, ◌++◌, None, Result, Ok, Err, reverse, refl, ap, sym, subst, ◌∙◌, append-nil, All, Calls, Crossing, shown, WorldState, opening_world, InTurn, crossings_shown, RawEvent, IsOfRound, WorldEvent}
use Rattle.std.proofs.lemmas.List.Elements.{All-append, All-cons, All-head, All-nil, All-tail, All-weaker}
use Rattle.leader1822.specs.Boxes.{Boxes, plain_calls}
use Rattle.replay.specs.Replay.{GoesOn, IsOneCall, Happens, Replays}
use Rattle.subnet.specs.Calls.{running, Kept, refusal_of, round_grows}
use Rattle.subnet.specs.Events.{quiet_round, first_of}
use Rattle.subnet.specs.Working.{subnet_calls}
use Rattle.subnet_trace.proofs.lemmas.{refused, once, opening, placed_after, quiet_replays}
use Rattle.world_replay.specs.Driven.{Drive, Goes, Raw, Round, IsCall}
use Rattle.world_replay.proofs.lemmas.Driven.{in_turn_then, replay_drives, crossings_then}
use Rattle.world_trace.specs.Carriers.{AreMade, IsRawNetwork, PlainCarriers, SubnetCarriers}
use Rattle.interface.specs.declared.CarrierFault.{CarrierFault}
use Rattle.interface.specs.declared.CarrierFault.TheVariants as fault
use Rattle.replay.specs.Output.{Shown, crossings_of}
use Rattle.subnet_trace.specs.Told.{IsPlaced}
use Rattle.world_replay.specs.Output as world_lines
use Rattle.world_replay.specs.Replay as world

-- ---- over any carrier

-- calls of which quiet rounds are made lead from one network to the other, and by them nothing crosses
abbrev Quieted : {C : Type 0} → Calls C → C → C → Type 0
Quieted calls old new = (events : List RawEvent) × All IsOfRound events × Replays calls old events new []

-- what events keep, and what makes each quiet round such calls
record Quiets {C : Type 0} (calls : Calls C) (Holds : C → Type 0) : Type 0 where
  keeps : (old new : C) (e : RawEvent) (lines : List Shown) → Holds old → Happens calls old e new lines → Holds new
  rounds : (old new : C) (answer : Result (Unit {0}) CarrierFault) → Holds old → calls.rounds old answer new → GoesOn answer → Quieted calls old new

-- events that these calls are
record RawRun {C : Type 0} (calls : Calls C) (old : C) (drives : List Drive) (new : C) (crossings : List Crossing) : Type 0 where
  events : List RawEvent
  made : AreMade drives events
  one_call : All IsOneCall events
  lines : List Shown
  replays : Replays calls old events new lines
  same : crossings_of lines ≡ crossings

holds_later : {C : Type 0} (calls : Calls C) (Holds : C → Type 0) → Quiets calls Holds → (events : List RawEvent) (old new : C) (lines : List Shown) → Holds old → Replays calls old events new lines → Holds new
holds_later calls Holds quiets [] old new lines holds h = subst Holds (sym h.0) holds
holds_later calls Holds quiets (e ∷ events) old new lines holds (mid, first, rest, one, more, all) = holds_later calls Holds quiets events mid new rest (quiets.keeps old mid e first holds one) more

raw_run : {C : Type 0} (calls : Calls C) (Holds : C → Type 0) → Quiets calls Holds → (drives : List Drive) (old new : C) (lines : List Shown) → Holds old → All IsCall drives → InTurn (Goes calls) old drives new lines
    → RawRun calls old drives new (crossings_of lines)
raw_run calls Holds quiets [] old new lines holds only h =
    record { events = []; made = refl; one_call = All-nil IsOneCall; lines = []; replays = (h.0, refl); same = sym (ap crossings_of h.1) }
raw_run calls Holds quiets (Raw e ∷ drives) old new lines holds only (mid, first, rest, one, more, all) =
    let later : RawRun calls mid drives new (crossings_of rest) = raw_run calls Holds quiets drives mid new rest (quiets.keeps old mid e first holds one.0) (All-tail IsCall (Raw e) drives only) more in
    record {
      events = e ∷ later.events;
      made = (later.events, refl, later.made);
      one_call = All-cons IsOneCall e later.events (All-head IsCall (Raw e) drives only) later.one_call;
      lines = first ++ later.lines;
      replays = (mid, first, later.lines, one.0, later.replays, refl);
      same = crossings_then first later.lines ∙ ap (λ cs. crossings_of first ++ cs) later.same ∙ sym (crossings_then first rest) ∙ ap crossings_of (sym all);
    }
raw_run calls Holds quiets (Round ∷ drives) old new lines holds only (mid, first, rest, (answer, round, on, is), more, all) =
    let (events, own, quiet) = quiets.rounds old mid answer holds round on in
    let later : RawRun calls mid drives new (crossings_of rest) = raw_run calls Holds quiets drives mid new rest (holds_later calls Holds quiets events old mid [] holds quiet) (All-tail IsCall Round drives only) more in
    let none : crossings_of first ≡ [] = ap crossings_of is ∙ crossings_shown [] answer in
    record {
      events = events ++ later.events;
      made = (events, later.events, own, refl, later.made);
      one_call = All-append IsOneCall events later.events (All-weaker IsOfRound IsOneCall once events own) later.one_call;
      lines = later.lines;
      replays = in_turn_then (Happens calls) old mid new events later.events [] later.lines quiet later.replays;
      same = later.same ∙ sym (ap crossings_of all ∙ crossings_then first rest ∙ ap (λ cs. cs ++ crossings_of rest) none);
    }

raw_network : {C : Type 0} (calls : Calls C) (Holds : C → Type 0) → Quiets calls Holds → (opening : C) (script : List WorldEvent) (w : WorldState C) (lines : List world_lines.Shown)
    → Holds opening → world.Replays (shown calls) (opening_world calls opening) script w lines → IsRawNetwork calls opening script w
raw_network calls Holds quiets opening script w lines holds h =
    let (drives, driven, all) = replay_drives calls script (opening_world calls opening) w lines refl h in
    let run : RawRun calls opening drives w.carrier (crossings_of all.shown) = raw_run calls Holds quiets drives opening w.carrier all.shown holds all.calls_only all.goes in
    record {
      drives = drives;
      driven = driven;
      events = run.events;
      made = run.made;
      one_call = run.one_call;
      lines = run.lines;
      replays = run.replays;
      crossed = all.crossed ∙ append-nil (reverse (crossings_of all.shown)) ∙ ap reverse (sym run.same);
    }

-- ---- plain mailboxes

pub plain_round : (old new : Boxes) (answer : Result (Unit {0}) CarrierFault) → plain_calls.rounds old answer new → new ≡ old
plain_round old new (Ok done) round = round.1
plain_round old new (Err f) round = round.2

plain_quiets : Quiets plain_calls (λ b. Unit {0})
plain_quiets = record { keeps = λ old new e lines holds h. tt; rounds = λ old new answer holds round on. ([], All-nil IsOfRound, (plain_round old new answer round, refl)) }

pub plain_carriers : PlainCarriers
plain_carriers hosts script w lines h = raw_network plain_calls (λ b. Unit {0}) plain_quiets _ script w lines tt h

-- ---- subnets

running_is : (k : Kept) → first_of k.stopped fault.Stopped None ≡ None → running k.net ≡ k
running_is k none = ap (λ (b : Bool). record { net = k.net; stopped = b }) (sym (by k.stopped none)) where
  by : (b : Bool) → first_of b fault.Stopped None ≡ None → b ≡ false
  by true e = absurd (cc)
  by false e = refl

subnet_round : (old new : Kept) (answer : Result (Unit {0}) CarrierFault) → IsPlaced old.net → subnet_calls.rounds old answer new → GoesOn answer → Quieted subnet_calls old new
subnet_round old new (Ok done) placed round on =
    let (events, own, quiet) = quiet_replays old.net placed in
    let from : Replays subnet_calls old events (running (quiet_round old.net)) [] = subst (λ (k : Kept). Replays subnet_calls k events (running (quiet_round old.net)) []) (running_is old round.0) quiet in
    (events, own, subst (λ (k : Kept). Replays subnet_calls old events k []) (sym round.1) from)
subnet_round old new (Err f) placed round on = ([], All-nil IsOfRound, ((refused (refusal_of old (λ n. None)) (round_grows old.net) old new f round on).1, refl))

subnet_quiets : Quiets subnet_calls (λ k. IsPlaced k.net)
subnet_quiets = record { keeps = placed_after; rounds = subnet_round }

pub subnet_carriers : SubnetCarriers
subnet_carriers hosts sites ends script w lines h = raw_network subnet_calls (λ k. IsPlaced k.net) subnet_quiets _ script w lines (opening hosts sites ends) h
