-- An input leaves its trace no choice, with strangers or without.
use Rattle.simulator.proofs.Common.{HappensOnce, ShowsFront, text_of, Calls, AreSettled, ends_front, in_turn_once, parted_once, CarrierKind, shown, SameGains, gains_once, shown_settled, Spot, AllParts, plain_calls, subnet_calls, subnet_inside, plain_of, subnet_of, subnet_settled, are_some, Asked, Raw, World, TopologyFields, WorldEvent, Sizes, Crossing, WorldState, opening_mixed, Event}
use Rattle.std.proofs.Common.{◌≡◌, inl, inr, ℕ, Bool, true, false, List, [], ◌∷◌, ◌++◌, Some, sym, ap, ap₂, subst, ◌∙◌, zip}
use Rattle.world_trace.specs.Traces.{StopsOne, change_of}
use Rattle.trace.specs.Traces.{Inside, asking_from, numbered_from, plain_inside}
use Rattle.trace.proofs.lemmas.{plain_settled}
use Rattle.world_replay.specs.Output.{Shown, output}
use Rattle.simulator.specs.Traced.{EndsAll, EndsAmong, EndsIn, EndsOn, EndsOver, IsScripted, TraceStops, TracesAll, TracesAmong, TracesIn, TracesInput, TracesOn, TracesOver}
use Rattle.topology.specs.declared.network.CarrierKind.TheVariants as kind
use Rattle.world_replay.proofs.lemmas.Once as replays
use Rattle.world_script.specs.declared.event.WorldEvent.TheVariants as worlds
use Rattle.world_trace.specs.MixedTraces.{AtSpot, MixedEndsAt, StopsMixed, TellsMixed, TellsMixedAt, mixed_opening}
use Rattle.world_trace.specs.Texts.{event_text, line_of}
use Rattle.simulator.proofs.Traces.OneTrace.{at_front, at_once, raw_front, raw_once, text_front, world_front, world_once}
use Rattle.command_line.proofs.lemmas.{OneInput, input_once}

-- ---- events have one trace

module _ {C : Type 0} (calls : Calls C) (members : C → AllParts) (settled : AreSettled calls) where
  -- an event that is no calm
  told_once : (spot : Spot) → HappensOnce (TellsMixed calls members spot)
  told_once spot old e new other lines more (shows, h, is) (others, k, are) =
      let one : (new ≡ other) × (shows ≡ others) =
      replays.happens_once calls settled old (worlds.Happen e) new other shows others h k in
      let gains : SameGains h.gains k.gains =
      gains_once old.kept new.kept other.kept h.gains k.gains
      (ap (λ (s : WorldState C). s.kept) one.0) in
      let line : List Crossing → List Shown → WorldState C → List (List ℕ) = λ cs ss s.
      line_of spot 0 (event_text (worlds.Happen e)) cs (output Sizes ss) (change_of members old s) ∷ [] in (
        one.0,
        is ∙ ap (λ (cs : List Crossing). line cs shows new) gains.crossings
            ∙ ap₂ (λ (ss : List Shown) (s : WorldState C). line k.gains.crossings ss s) one.1 one.0 ∙ sym are,
      )

  tells_once : HappensOnce (AtSpot (TellsMixedAt calls members))
  tells_once old (spot, worlds.Happen e) new other lines more h k = told_once spot old e new other lines more h k
  tells_once old (spot, worlds.Calm rounds) new other lines more (h, same) (k, alike) =
      at_once calls members settled old (spot, worlds.Calm rounds) new other lines more h k

  -- the event in which memory ran out has no line, and of a calm those before it have theirs
  no_line : (old : WorldState C) (e : Event) (new : WorldState C) (part whole : List (List ℕ))
      → StopsMixed calls old e new part → (rest : List (List ℕ)) × (whole ≡ part ++ rest)
  no_line old e new part whole (inl h) = (whole, sym (ap (λ (ls : List (List ℕ)). ls ++ whole) h.0))
  no_line old e new part whole (inr h) = (whole, sym (ap (λ (ls : List (List ℕ)). ls ++ whole) h.0))

  tells_front : ShowsFront (AtSpot (MixedEndsAt calls members (StopsOne calls) (StopsMixed calls)))
      (AtSpot (TellsMixedAt calls members))
  tells_front old (spot, worlds.Happen e) new other part whole h k = no_line old e new part whole h
  tells_front old (spot, worlds.Calm rounds) new other part whole h k =
      at_front calls members settled old (spot, worlds.Calm rounds) new other part whole h.0 k.0

  -- ---- of a network

  among_once : (t : TopologyFields) (opening : C) (events : List (ℕ × WorldEvent)) (before after other : List ℕ)
      → TracesAmong calls members t opening events (Some before) (Some after)
      → TracesAmong calls members t opening events (Some before) (Some other) → after ≡ other
  among_once t opening events before after other h k =
      let begins : WorldState C = opening_mixed calls opening t.strangers in
      let (others, lines, tells) = h.traced.is_shown in
      let (more, are, told) = k.traced.is_shown in
      let one : (h.last ≡ k.last) × (others ≡ more) =
      in_turn_once (AtSpot (TellsMixedAt calls members)) tells_once begins (numbered_from 1 events) h.last k.last
      others more tells told in
      let same : h.traced.shown ≡ k.traced.shown =
      lines ∙ ap (λ (ls : List (List ℕ)). mixed_opening members t begins ∷ ls) one.1 ∙ sym are in
      h.traced.written ∙ ap (λ (ls : List (List ℕ)). before ++ text_of (λ line. line) ls) same ∙ sym k.traced.written

  among_front : (t : TopologyFields) (opening : C) (events : List (ℕ × WorldEvent)) (before part whole : List ℕ)
      → EndsAmong calls members t opening events (Some before) (Some part)
      → TracesAmong calls members t opening events (Some before) (Some whole)
      → (rest : List ℕ) × (whole ≡ part ++ rest)
  among_front t opening events before part whole h k =
      let begins : WorldState C = opening_mixed calls opening t.strangers in
      let (some, lines, ends) = h.traced.is_shown in
      let (all, are, tells) = k.traced.is_shown in
      let starts : (more : List (List ℕ)) × (all ≡ some ++ more) =
      ends_front (AtSpot (TellsMixedAt calls members))
      (AtSpot (MixedEndsAt calls members (StopsOne calls) (StopsMixed calls))) tells_once tells_front begins
      (numbered_from 1 events) h.last k.last some all ends tells in
      text_front before part whole h.traced.shown k.traced.shown starts.0 h.traced.written k.traced.written
      (are ∙ ap (λ (ls : List (List ℕ)). mixed_opening members t begins ∷ ls) starts.1
      ∙ ap (λ (ls : List (List ℕ)). ls ++ starts.0) (sym lines))

-- ---- with strangers or without

in_once : {C : Type 0} (among : Bool) (calls : Calls C) (members : C → AllParts) → AreSettled calls → (t : TopologyFields) (opening : C)
    (events : List (ℕ × WorldEvent)) (before after other : List ℕ)
    → TracesIn among calls members t opening events (Some before) (Some after)
    → TracesIn among calls members t opening events (Some before) (Some other) → after ≡ other
in_once true calls members settled t opening events before after other h k =
    among_once calls members settled t opening events before after other h k
in_once false calls members settled t opening events before after other h k =
    world_once calls members settled t opening events before after other h k

in_front : {C : Type 0} (among : Bool) (calls : Calls C) (members : C → AllParts) → AreSettled calls → (t : TopologyFields) (opening : C)
    (events : List (ℕ × WorldEvent)) (before part whole : List ℕ)
    → EndsIn among calls members t opening events (Some before) (Some part)
    → TracesIn among calls members t opening events (Some before) (Some whole) → (rest : List ℕ) × (whole ≡ part ++ rest)
in_front true calls members settled t opening events before part whole h k =
    among_front calls members settled t opening events before part whole h k
in_front false calls members settled t opening events before part whole h k =
    world_front calls members settled t opening events before part whole h k

all_once : {C : Type 0} (calls : Calls C) (inside : Inside C) → AreSettled calls → (t : TopologyFields) (opening : C) (lines : List ℕ) (events : Asked) (before after other : List ℕ) → TracesAll calls inside t opening lines events (Some before) (Some after)
    → TracesAll calls inside t opening lines events (Some before) (Some other) → after ≡ other
all_once calls inside settled t opening lines (Raw events) before after other h k = raw_once calls inside settled t opening (zip lines events) before after other h k
all_once calls inside settled t opening lines (World events) before after other h k = in_once (are_some t.strangers) (shown calls) inside.members (shown_settled calls settled) t opening (zip lines events) before after other h k

all_front : {C : Type 0} (calls : Calls C) (inside : Inside C) → AreSettled calls → (t : TopologyFields) (opening : C) (lines : List ℕ) (events : Asked) (before part whole : List ℕ) → EndsAll calls inside t opening lines events (Some before) (Some part)
    → TracesAll calls inside t opening lines events (Some before) (Some whole) → (rest : List ℕ) × (whole ≡ part ++ rest)
all_front calls inside settled t opening lines (Raw events) before part whole h k = raw_front calls inside settled t opening (zip lines events) before part whole h k
all_front calls inside settled t opening lines (World events) before part whole h k = in_front (are_some t.strangers) (shown calls) inside.members (shown_settled calls settled) t opening (zip lines events) before part whole h k

-- ---- of a topology

over_once : (carrier : CarrierKind) (network : TopologyFields) (lines : List ℕ) (events : Asked) (before after other : List ℕ) → TracesOver carrier network lines events (Some before) (Some after) → TracesOver carrier network lines events (Some before) (Some other) → after ≡ other
over_once kind.Plain network lines events before after other h k = all_once plain_calls plain_inside plain_settled network (plain_of network) lines events before after other h k
over_once kind.Subnet network lines events before after other h k = all_once subnet_calls subnet_inside subnet_settled network (subnet_of network) lines events before after other h k

over_front : (carrier : CarrierKind) (network : TopologyFields) (lines : List ℕ) (events : Asked) (before part whole : List ℕ) → EndsOver carrier network lines events (Some before) (Some part) → TracesOver carrier network lines events (Some before) (Some whole) → (rest : List ℕ) × (whole ≡ part ++ rest)
over_front kind.Plain network lines events before part whole h k = all_front plain_calls plain_inside plain_settled network (plain_of network) lines events before part whole h k
over_front kind.Subnet network lines events before part whole h k = all_front subnet_calls subnet_inside subnet_settled network (subnet_of network) lines events before part whole h k

-- ---- of an input

-- its lines
lines_once : (octets : List ℕ) (network other : TopologyFields) (lines more : List ℕ) (events asked : Asked) → IsScripted octets network lines events → IsScripted octets other more asked → lines ≡ more
lines_once octets network other lines more events asked h k =
    let scripts = parted_once octets h.parted.document h.script k.parted.document k.script h.parted.parted k.parted.parted in
    h.numbered ∙ ap (asking_from 1) scripts.scripts ∙ sym k.numbered

pub one_trace : (input before after other : List ℕ) → TracesInput input (Some before) (Some after) → TracesInput input (Some before) (Some other) → after ≡ other
one_trace input before after other h k =
    let same : OneInput h.network k.network h.events k.events = input_once input h.network k.network h.events k.events h.input.input k.input.input in
    let lines : h.lines ≡ k.lines = lines_once input h.network k.network h.lines k.lines h.events k.events h.input k.input in
    let moved : TracesOn k.network k.lines k.events (Some before) (Some after) =
    subst (λ (network : TopologyFields). TracesOn network k.lines k.events (Some before) (Some after)) same.same_network
    (subst (λ (events : Asked). TracesOn h.network k.lines events (Some before) (Some after)) same.same_events
    (subst (λ (numbers : List ℕ). TracesOn h.network numbers h.events (Some before) (Some after)) lines h.traced)) in
    over_once k.network.carrier k.network k.lines k.events before after other moved k.traced

pub first_of_trace : (input before part whole : List ℕ) → TraceStops input (Some before) (Some part) → TracesInput input (Some before) (Some whole) → (rest : List ℕ) × (whole ≡ part ++ rest)
first_of_trace input before part whole h k =
    let same : OneInput h.network k.network h.events k.events = input_once input h.network k.network h.events k.events h.input.input k.input.input in
    let lines : h.lines ≡ k.lines = lines_once input h.network k.network h.lines k.lines h.events k.events h.input k.input in
    let moved : EndsOn k.network k.lines k.events (Some before) (Some part) =
    subst (λ (network : TopologyFields). EndsOn network k.lines k.events (Some before) (Some part)) same.same_network
    (subst (λ (events : Asked). EndsOn h.network k.lines events (Some before) (Some part)) same.same_events
    (subst (λ (numbers : List ℕ). EndsOn h.network numbers h.events (Some before) (Some part)) lines h.stopped)) in
    over_front k.network.carrier k.network k.lines k.events before part whole moved k.traced
