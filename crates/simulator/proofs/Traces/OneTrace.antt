-- Events leave their trace no choice, without host programs or with them.
use Rattle.simulator.proofs.Common.{HappensOnce, ShowsFront, text_of, Calls, AreSettled, parted_once, RawEvent, TopologyFields, CarrierKind, shown, WorldState, opening_world, Event, SameGains, gains_once, happens_once, shown_settled, WorldEvent, opening_text, world_line, object, opening_line, Spot, plain_calls, subnet_calls, subnet_inside, plain_of, subnet_of, Raw, World, Asked, members_of, AllParts, subnet_settled}
use Rattle.std.proofs.Common.{◌≡◌, inl, inr, ℕ, List, [], ◌∷◌, ◌++◌, Some, sym, ap, ap₂, subst, ◌∙◌, zip}
use Rattle.replay.proofs.lemmas.{ends_front, in_turn_once, text_of-append}
use Rattle.world_replay.specs.Rounds.{EndsRound}
use Rattle.world_trace.specs.Traces.{StopsOne, TellsIn, TellsInCalm, TellsOne, TellsRound, change_of, first_rounds, state_of, EndsIn, IsHeard, IsSilent, IsUnchanged, TellsStep}
use Rattle.trace.specs.Traces.{Inside, TellsEvent, asking_from, numbered_from, plain_inside, EndsEvent, StopsElement}
use Rattle.simulator.specs.Traced.{EndsAll, IsScripted, TracesAll, TracesFrom, TracesInput, TracesOn, TracesOver, WorldEndsFrom, WorldTracesFrom, EndsOn, EndsOver, EndsFrom, TraceStops}
use Rattle.trace.proofs.lemmas.{plain_settled, event_front, event_once}
use Rattle.command_line.proofs.lemmas.{OneInput, input_once}
use Rattle.std.proofs.lemmas.List.{append_assoc}
use Rattle.topology.specs.declared.network.CarrierKind.TheVariants as kind
use Rattle.world_replay.specs.Gains.{Gains}
use Rattle.world_replay.specs.Output.{Shown as Printed}
use Rattle.world_script.specs.declared.event.WorldEvent.TheVariants as worlds
use Rattle.simulator.proofs.InCalm.{round_front, round_once}
use Rattle.world_replay.proofs.lemmas.Once.{in_calm_once}

-- ---- events have one trace

pub raw_once : {C : Type 0} (calls : Calls C) (inside : Inside C) → AreSettled calls → (t : TopologyFields) (opening : C) (events : List (ℕ × RawEvent)) (before after other : List ℕ) → TracesFrom calls inside t opening events (Some before) (Some after)
    → TracesFrom calls inside t opening events (Some before) (Some other) → after ≡ other
raw_once calls inside settled t opening events before after other h k =
    let one : (h.last ≡ k.last) × (h.traced.is_shown.0 ≡ k.traced.is_shown.0) =
    in_turn_once (TellsEvent calls inside) (event_once calls inside settled) opening (numbered_from 1 events) h.last k.last h.traced.is_shown.0 k.traced.is_shown.0 h.traced.is_shown.2 k.traced.is_shown.2 in
    let same : h.traced.shown ≡ k.traced.shown = h.traced.is_shown.1 ∙ ap (λ ls. opening_line t (object (members_of (inside.members opening))) ∷ ls) one.1 ∙ sym k.traced.is_shown.1 in
    h.traced.written ∙ ap (λ ls. before ++ text_of (λ line. line) ls) same ∙ sym k.traced.written

-- ---- the first part of a trace

-- lines of which some are the first
pub text_front : (before part whole : List ℕ) (lines all more : List (List ℕ)) → part ≡ before ++ text_of (λ line. line) lines → whole ≡ before ++ text_of (λ line. line) all → all ≡ lines ++ more → (rest : List ℕ) × (whole ≡ part ++ rest)
text_front before part whole lines all more is are parts =
    let text : List (List ℕ) → List ℕ = text_of (λ line. line) in (
      text more,
      are ∙ ap (λ ls. before ++ text ls) parts ∙ ap (λ xs. before ++ xs) (text_of-append (λ line. line) lines more) ∙ sym (append_assoc before (text lines) (text more)) ∙ ap (λ xs. xs ++ text more) (sym is),
    )

pub raw_front : {C : Type 0} (calls : Calls C) (inside : Inside C) → AreSettled calls → (t : TopologyFields) (opening : C) (events : List (ℕ × RawEvent)) (before part whole : List ℕ) → EndsFrom calls inside t opening events (Some before) (Some part)
    → TracesFrom calls inside t opening events (Some before) (Some whole) → (rest : List ℕ) × (whole ≡ part ++ rest)
raw_front calls inside settled t opening events before part whole h k =
    let starts : (more : List (List ℕ)) × (k.traced.is_shown.0 ≡ h.traced.is_shown.0 ++ more) =
    ends_front (TellsEvent calls inside) (EndsEvent calls inside (StopsElement calls)) (event_once calls inside settled) (event_front calls inside settled) opening (numbered_from 1 events) h.last k.last h.traced.is_shown.0 k.traced.is_shown.0
    h.traced.is_shown.2 k.traced.is_shown.2 in
    text_front before part whole h.traced.shown k.traced.shown starts.0 h.traced.written k.traced.written
    (k.traced.is_shown.1 ∙ ap (λ ls. opening_line t (object (members_of (inside.members opening))) ∷ ls) starts.1 ∙ ap (λ ls. ls ++ starts.0) (sym h.traced.is_shown.1))

-- ---- worlds

-- what a line has of an event
line_once : {C : Type 0} (members : C → AllParts) (spot : Spot) (round : ℕ) (e : WorldEvent) (old new other : WorldState C) (shows others : List Printed) (g : Gains old.kept new.kept) (k : Gains old.kept other.kept) → new ≡ other → shows ≡ others
    → world_line spot round e g.crossings shows (change_of members old new) ≡ world_line spot round e k.crossings others (change_of members old other)
line_once {C} members spot round e old new other shows others g k same print =
    let gains : SameGains g k = gains_once old.kept new.kept other.kept g k (ap (λ (w : WorldState C). w.kept) same) in
    ap (λ cs. world_line spot round e cs shows (change_of members old new)) gains.crossings
    ∙ ap₂ (λ (w : WorldState C) ss. world_line spot round e k.crossings ss (change_of members old w)) same print

-- an event that is no calm
told_once : {C : Type 0} (calls : Calls C) (members : C → AllParts) → AreSettled calls → (spot : Spot) (round : ℕ) → HappensOnce (TellsOne calls members spot round)
told_once calls members settled spot round old e new other lines more (shows, h, is) (others, k, are) =
    let one : (new ≡ other) × (shows ≡ others) = happens_once calls settled old e new other shows others h k in
    (one.0, is ∙ ap (λ line. line ∷ []) (line_once members spot round e old new other shows others h.gains k.gains one.0 one.1) ∙ sym are)

-- an event of a calm that has a line
step_once : {C : Type 0} (calls : Calls C) (members : C → AllParts) → AreSettled calls → (spot : Spot) (round : ℕ) → HappensOnce (TellsStep calls members spot round)
step_once calls members settled spot round old e new other lines more (shows, h, is) (others, k, are) =
    let one : (new ≡ other) × (shows ≡ others) = in_calm_once calls settled old e new other shows others h k in
    (one.0, is ∙ ap (λ line. line ∷ []) (line_once members spot round (worlds.Happen e) old new other shows others h.gains k.gains one.0 one.1) ∙ sym are)

-- one that has no line isn't one that has
never_both : {C : Type 0} (calls : Calls C) (members : C → AllParts) → AreSettled calls → (spot : Spot) (round : ℕ) (e : Event) (old new other : WorldState C) (lines more : List (List ℕ))
    → IsSilent calls members old e new lines → IsHeard calls members spot round old e other more → ⊥
never_both {C} calls members settled spot round e old new other lines more (h, same, none) ((shows, k, are), heard) =
    let one : (new ≡ other) × ([] ≡ shows) = in_calm_once calls settled old e new other [] shows h k in
    heard (sym one.1) (subst (λ (w : WorldState C). IsUnchanged members old w) one.0 same)

in_calm : {C : Type 0} (calls : Calls C) (members : C → AllParts) → AreSettled calls → (spot : Spot) (round : ℕ) → HappensOnce (TellsInCalm calls members spot round)
in_calm calls members settled spot round old e new other lines more (inl h) (inl k) =
    let one : (new ≡ other) × ([] ≡ []) = in_calm_once calls settled old e new other [] [] h.0 k.0 in
    (one.0, h.2 ∙ sym k.2)
in_calm calls members settled spot round old e new other lines more (inl h) (inr k) = absurd (never_both calls members settled spot round e old new other lines more h k)
in_calm calls members settled spot round old e new other lines more (inr h) (inl k) = absurd (never_both calls members settled spot round e old other new more lines k h)
in_calm calls members settled spot round old e new other lines more (inr h) (inr k) = step_once calls members settled spot round old e new other lines more h.0 k.0

-- a round
told_round : {C : Type 0} (calls : Calls C) (members : C → AllParts) → AreSettled calls → (spot : Spot) → HappensOnce (TellsRound calls members spot)
told_round calls members settled spot old round new other lines more h k = round_once (TellsInCalm calls members spot round) (in_calm calls members settled spot round) old new other lines more h k

pub at_once : {C : Type 0} (calls : Calls C) (members : C → AllParts) → AreSettled calls → HappensOnce (TellsIn calls members)
at_once calls members settled old (spot, worlds.Happen e) new other lines more h k = told_once calls members settled spot 0 old (worlds.Happen e) new other lines more h k
at_once calls members settled old (spot, worlds.Calm rounds) new other lines more h k = in_turn_once (TellsRound calls members spot) (told_round calls members settled spot) old (first_rounds rounds) new other lines more h k

pub world_once : {C : Type 0} (calls : Calls C) (members : C → AllParts) → AreSettled calls → (t : TopologyFields) (opening : C) (events : List (ℕ × WorldEvent)) (before after other : List ℕ) → WorldTracesFrom calls members t opening events (Some before) (Some after)
    → WorldTracesFrom calls members t opening events (Some before) (Some other) → after ≡ other
world_once {C} calls members settled t opening events before after other h k =
    let begins : WorldState C = opening_world calls opening in
    let one : (h.last ≡ k.last) × (h.traced.is_shown.0 ≡ k.traced.is_shown.0) =
    in_turn_once (TellsIn calls members) (at_once calls members settled) begins (numbered_from 1 events) h.last k.last h.traced.is_shown.0 k.traced.is_shown.0 h.traced.is_shown.2 k.traced.is_shown.2 in
    let same : h.traced.shown ≡ k.traced.shown = h.traced.is_shown.1 ∙ ap (λ ls. opening_text t (state_of members begins) ∷ ls) one.1 ∙ sym k.traced.is_shown.1 in
    h.traced.written ∙ ap (λ ls. before ++ text_of (λ line. line) ls) same ∙ sym k.traced.written

-- the event in which memory ran out has no line
no_line : {C : Type 0} (calls : Calls C) (old : WorldState C) (e : Event) (new : WorldState C) (part whole : List (List ℕ)) → StopsOne calls old e new part → (rest : List (List ℕ)) × (whole ≡ part ++ rest)
no_line calls old e new part whole (inl h) = (whole, sym (ap (λ xs. xs ++ whole) h.0))
no_line calls old e new part whole (inr h) = (whole, sym (ap (λ xs. xs ++ whole) h.0))

-- of a round in which it ran out those events before have theirs
in_round : {C : Type 0} (calls : Calls C) (members : C → AllParts) → AreSettled calls → (spot : Spot)
    → ShowsFront (λ (old : WorldState C) (round : ℕ) (new : WorldState C) (lines : List (List ℕ)). EndsRound (TellsInCalm calls members spot round) (StopsOne calls) old new lines) (TellsRound calls members spot)
in_round calls members settled spot old round new other part whole h k =
    round_front (TellsInCalm calls members spot round) (StopsOne calls) (in_calm calls members settled spot round) (λ before e after last some all ends whole. no_line calls before e after some all ends) old new other part whole h k

pub at_front : {C : Type 0} (calls : Calls C) (members : C → AllParts) → AreSettled calls → ShowsFront (EndsIn calls members (StopsOne calls)) (TellsIn calls members)
at_front calls members settled old (spot, worlds.Happen e) new other part lines h k = no_line calls old e new part lines h
at_front {C} calls members settled old (spot, worlds.Calm rounds) new other part lines h k =
    let Stops = λ (o : WorldState C) (n : ℕ) (w : WorldState C) (ls : List (List ℕ)). EndsRound (TellsInCalm calls members spot n) (StopsOne calls) o w ls in
    ends_front (TellsRound calls members spot) Stops (told_round calls members settled spot) (in_round calls members settled spot) old (first_rounds rounds) new other part lines h k

pub world_front : {C : Type 0} (calls : Calls C) (members : C → AllParts) → AreSettled calls → (t : TopologyFields) (opening : C) (events : List (ℕ × WorldEvent)) (before part all : List ℕ) → WorldEndsFrom calls members t opening events (Some before) (Some part)
    → WorldTracesFrom calls members t opening events (Some before) (Some all) → (rest : List ℕ) × (all ≡ part ++ rest)
world_front {C} calls members settled t opening events before part all h k =
    let begins : WorldState C = opening_world calls opening in
    let starts : (more : List (List ℕ)) × (k.traced.is_shown.0 ≡ h.traced.is_shown.0 ++ more) =
    ends_front (TellsIn calls members) (EndsIn calls members (StopsOne calls)) (at_once calls members settled) (at_front calls members settled) begins (numbered_from 1 events) h.last k.last h.traced.is_shown.0 k.traced.is_shown.0
    h.traced.is_shown.2 k.traced.is_shown.2 in
    text_front before part all h.traced.shown k.traced.shown starts.0 h.traced.written k.traced.written
    (k.traced.is_shown.1 ∙ ap (λ ls. opening_text t (state_of members begins) ∷ ls) starts.1 ∙ ap (λ ls. ls ++ starts.0) (sym h.traced.is_shown.1))
