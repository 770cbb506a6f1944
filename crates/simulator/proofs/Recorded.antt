-- What a replay prints is what its trace has as printed.
use Rattle.simulator.proofs.Common.{Calls, Crossing, plain_calls, shown, WorldState, opening_world, AreSettled, Sizes, ended_line, RawEvent, subnet_calls, subnet_inside, CarrierKind, object, opening_line, Spot, happens_once, shown_settled, WorldEvent, opening_text, world_line, Raw, World, AsksFor, Asked, TracesInput, are_some, members_of, AllParts}
use Rattle.std.proofs.Common.{◌≡◌, inl, inr, ℕ, ◌+◌, Bool, true, false, List, [], ◌∷◌, ◌++◌, Some, codes, map, arith, refl, sym, ap, ap₂, subst, ◌∙◌, suc, length, zip, ◌≤◌, zero}
use Rattle.replay.proofs.lemmas.{in_turn_once, OneReplay, replays_once}
use Rattle.replay.specs.InTurn.{text_of, InTurn}
use Rattle.topology.specs.Topology.{TopologyFields, IsTopology, site_of, sites_of}
use Rattle.trace.specs.Traces.{Inside, TellsEvent, numbered_from, plain_inside, SaysAll, TellsElement, change_text}
use Rattle.world_replay.specs.Replay.{Happens, HappensInCalm, Replays, rounds_of}
use Rattle.world_trace.specs.Traces.{TellsIn, TellsInCalm, TellsOne, TellsRound, change_of, first_rounds, state_of}
use Rattle.command_line.specs.Carriers.{plain_of, subnet_of, ends_of}
use Rattle.command_line.specs.Replayed.{ReplaysOver, book_text, ReplaysFrom, ReplaysInput, ReplaysOn, ShowsFrom, ShowsIn, WorldShowsFrom, WritesAll, WritesWorld}
use Rattle.simulator.specs.Traced.{TracesAll, TracesFrom, TracesIn, TracesOver, WorldTracesFrom, asked_count}
use Rattle.std.proofs.lemmas.Bool.{false≢true}
use Rattle.std.proofs.lemmas.List.{length-map, length-append, map-append, append-nil}
use Rattle.interface.specs.Host.{Host, most_imps}
use Rattle.script.specs.Spelling.{IsEvent}
use Rattle.subnet_trace.proofs.lemmas.{subnet_settled, Holds, event_holds, opening_holds, says}
use Rattle.trace.proofs.lemmas.{plain_settled, told}
use Rattle.std.specs.List.{flat_map, All, range_with_len}
use Rattle.world_replay.specs.Output.{Shown, shown_text}
use Rattle.simulator.specs.Recorded.{OfElement, OfWorld, PrintsTrace, Recorded, printed_lines, recorded_text, told_from, told_in, told_lines, told_over}
use Rattle.command_line.proofs.lemmas.{OneInput, input_once, no_lives, same_hosts}
use Rattle.promise.specs.declared.life.Life.{Life}
use Rattle.std.proofs.lemmas.List.Elements.{All-head, All-tail}
use Rattle.std.proofs.lemmas.Grind.{flat_map-append}
use Rattle.std.proofs.lemmas.List.Folds.{flat_map-map}
use Rattle.replay.specs.Output as raw
use Rattle.replay.specs.Replay as of_network
use Rattle.std.proofs.lemmas.List.FromFn.{length-range_with_len}
use Rattle.subnet.specs.Calls.{running}
use Rattle.subnet.specs.Net.{Net}
use Rattle.subnet.specs.Opening.{opening_subnet}
use Rattle.topology.proofs.lemmas.{described_keeps, hosts_listed}
use Rattle.topology.specs.declared.network.CarrierKind.TheVariants as kind
use Rattle.trace.specs.Elements.{events_of}
use Rattle.trace.specs.declared.element.Element.{Element}
use Rattle.world_replay.proofs.lemmas.Accounts.{AreParts, ShowsAs, round_as}
use Rattle.world_replay.proofs.lemmas.CalmRounds.{calm_rounds}
use Rattle.world_replay.proofs.lemmas.{round_calm}
use Rattle.world_script.specs.declared.event.WorldEvent.TheVariants as worlds
use Rattle.simulator.specs.WorkedSides.{starts}

-- ---- lines of a trace that have these lines as printed

abbrev HavePrinted : List (List ℕ) → List (List ℕ) → Type 0
HavePrinted lines texts = (recorded : List Recorded) × (lines ≡ map recorded_text recorded) × (texts ≡ flat_map printed_lines recorded)

none_printed : HavePrinted [] []
none_printed = ([], refl, refl)

more_printed : (first rest texts more : List (List ℕ)) → HavePrinted first texts → HavePrinted rest more → HavePrinted (first ++ rest) (texts ++ more)
more_printed first rest texts more (a, lines, prints) (b, others, print) = (
  a ++ b,
  ap₂ (λ (xs ys : List (List ℕ)). xs ++ ys) lines others ∙ sym (map-append recorded_text a b),
  ap₂ (λ (xs ys : List (List ℕ)). xs ++ ys) prints print ∙ sym (flat_map-append printed_lines a b),
)

-- ---- a network without host programs

raw_texts : List raw.Shown → List (List ℕ)
raw_texts lines = map (raw.shown_text Sizes) lines

once : {C : Type 0} (calls : Calls C) → AreSettled calls → (old : C) (e : RawEvent) (new other : C) (lines more : List raw.Shown) → of_network.Happens calls old e new lines → of_network.Happens calls old e other more → OneReplay new other lines more
once calls settled old e new other lines more h k =
    replays_once calls settled old (e ∷ []) new other lines more (new, lines, [], h, (refl, refl), sym (append-nil lines)) (other, more, [], k, (refl, refl), sym (append-nil more))

-- what is left, and what the lines have as printed
abbrev Ends : {C : Type 0} → C → C → List (List ℕ) → List raw.Shown → Type 0
Ends new other lines prints = (new ≡ other) × HavePrinted lines (raw_texts prints)

element_printed : {C : Type 0} (calls : Calls C) (inside : Inside C) → AreSettled calls → (spot : Spot) (x : Element) (old new other : C) (lines : List (List ℕ)) (prints : List raw.Shown)
    → TellsElement calls inside spot old x new lines → of_network.Happens calls old x.event other prints → Ends new other lines prints
unfolding raw_texts
element_printed calls inside settled spot x old new other lines prints (own, h, is) k =
    let one : OneReplay new other own prints = once calls settled old x.event new other own prints h k in (
      one.carriers,
      (OfElement spot x (inside.fate old x.event) own (change_text inside old new) ∷ [], is, ap raw_texts (sym one.lines) ∙ sym (append-nil (raw_texts own))),
    )

elements_printed : {C : Type 0} (calls : Calls C) (inside : Inside C) → AreSettled calls → (spot : Spot) (xs : List Element) (old new other : C) (lines : List (List ℕ)) (prints : List raw.Shown)
    → InTurn (TellsElement calls inside spot) old xs new lines → of_network.Replays calls old (events_of xs) other prints → Ends new other lines prints
unfolding raw_texts
elements_printed calls inside settled spot [] old new other lines prints (left, none) (same, nothing) =
    (left ∙ sym same, subst (λ (ls : List (List ℕ)). HavePrinted ls (raw_texts prints)) (sym none) (subst (λ (ps : List raw.Shown). HavePrinted [] (raw_texts ps)) (sym nothing) none_printed))
elements_printed {C} calls inside settled spot (x ∷ xs) old new other lines prints (mid, first, rest, one, more, all) (between, begin, later, happens, follow, whole) =
    let here : Ends mid between first begin = element_printed calls inside settled spot x old mid between first begin one happens in
    let there : Ends new other rest later = elements_printed calls inside settled spot xs mid new other rest later more (subst (λ (c : C). of_network.Replays calls c (events_of xs) other later) (sym here.0) follow) in (
      there.0,
      subst (λ (ls : List (List ℕ)). HavePrinted ls (raw_texts prints)) (sym all)
          (subst (λ (ts : List (List ℕ)). HavePrinted (first ++ rest) ts) (sym (ap raw_texts whole ∙ map-append (raw.shown_text Sizes) begin later)) (more_printed first rest (raw_texts begin) (raw_texts later) here.1 there.1)),
    )

-- what is traced of an event says all of it, in states of which something holds that all events keep
record AreSaid {C : Type 0} (calls : Calls C) (inside : Inside C) (Holds : C → Type 0) : Type 0 where
  says : (spot : Spot) (old new other : C) (e : RawEvent) (lines : List (List ℕ)) (prints : List raw.Shown) → Holds old → TellsEvent calls inside old (spot, e) new lines → of_network.Happens calls old e other prints → SaysAll calls inside spot old new lines other prints
  kept : (old new : C) (e : RawEvent) (prints : List raw.Shown) → IsEvent e → Holds old → of_network.Happens calls old e new prints → Holds new

-- without their lines
abbrev alone : {E : Type 0} → List (ℕ × E) → List E
alone events = map (λ e. e.1) events

events_printed : {C : Type 0} (calls : Calls C) (inside : Inside C) (Holds : C → Type 0) → AreSettled calls → AreSaid calls inside Holds → (number : ℕ) (events : List (ℕ × RawEvent)) (old new other : C) (lines : List (List ℕ)) (prints : List raw.Shown)
    → All IsEvent (alone events) → Holds old → InTurn (TellsEvent calls inside) old (numbered_from number events) new lines → of_network.Replays calls old (alone events) other prints → Ends new other lines prints
unfolding raw_texts
events_printed calls inside Holds settled each number [] old new other lines prints valid holds (left, none) (same, nothing) =
    (left ∙ sym same, subst (λ (ls : List (List ℕ)). HavePrinted ls (raw_texts prints)) (sym none) (subst (λ (ps : List raw.Shown). HavePrinted [] (raw_texts ps)) (sym nothing) none_printed))
events_printed {C} calls inside Holds settled each number (e ∷ events) old new other lines prints valid holds (mid, first, rest, one, more, all) (between, begin, later, happens, follow, whole) =
    let spot : Spot = record { line = e.0; number = number } in
    let says : SaysAll calls inside spot old mid first between begin = each.says spot old mid between e.1 first begin holds one happens in
    let here : Ends mid between first begin = elements_printed calls inside settled spot says.told old mid between first begin says.tells says.replays in
    let after : Holds mid = subst Holds (sym here.0) (each.kept old between e.1 begin (All-head IsEvent e.1 (alone events) valid) holds happens) in
    let there : Ends new other rest later = events_printed calls inside Holds settled each (suc number) events mid new other rest later (All-tail IsEvent e.1 (alone events) valid) after more (subst (λ (c : C). of_network.Replays calls c (alone events) other later) (sym here.0) follow) in (
      there.0,
      subst (λ (ls : List (List ℕ)). HavePrinted ls (raw_texts prints)) (sym all)
          (subst (λ (ts : List (List ℕ)). HavePrinted (first ++ rest) ts) (sym (ap raw_texts whole ∙ map-append (raw.shown_text Sizes) begin later)) (more_printed first rest (raw_texts begin) (raw_texts later) here.1 there.1)),
    )

-- ---- hosts with programs

texts : List Shown → List (List ℕ)
texts lines = map (shown_text Sizes) lines

-- lines of a trace that have these as printed
abbrev Prints : List (List ℕ) → List Shown → Type 0
Prints lines prints = HavePrinted lines (texts prints)

abbrev Passes : {C : Type 0} → WorldState C → WorldState C → List (List ℕ) → List Shown → Type 0
Passes new other lines prints = (new ≡ other) × Prints lines prints

nothing_printed : (lines : List (List ℕ)) → lines ≡ [] → Prints lines []
unfolding texts
nothing_printed lines none = subst (λ (ls : List (List ℕ)). HavePrinted ls []) (sym none) none_printed

both_printed : (first rest : List (List ℕ)) (begin later : List Shown) → Prints first begin → Prints rest later → Prints (first ++ rest) (begin ++ later)
unfolding texts
both_printed first rest begin later here there =
    subst (λ (ts : List (List ℕ)). HavePrinted (first ++ rest) ts) (sym (map-append (shown_text Sizes) begin later)) (more_printed first rest (texts begin) (texts later) here there)

line_printed : (spot : Spot) (round : ℕ) (e : WorldEvent) (crossings : List Crossing) (prints : List Shown) (state lines : List (List ℕ)) → lines ≡ world_line spot round e crossings prints state ∷ [] → Prints lines prints
unfolding texts
line_printed spot round e crossings prints state lines is = (OfWorld spot round e crossings prints state ∷ [], is, sym (append-nil (texts prints)))

one_printed : {C : Type 0} (calls : Calls C) (members : C → AllParts) (spot : Spot) (round : ℕ) (e : WorldEvent) (old new : WorldState C) (lines : List (List ℕ)) (h : TellsOne calls members spot round old e new lines) → Prints lines h.0
one_printed calls members spot round e old new lines (prints, h, is) = line_printed spot round e h.gains.crossings prints (change_of members old new) lines is

-- an event of a calm
step_printed : {C : Type 0} (calls : Calls C) (members : C → AllParts) (spot : Spot) (round : ℕ) → ShowsAs (TellsInCalm calls members spot round) (HappensInCalm calls) Prints
step_printed calls members spot round old e new lines (inl (h, same, none)) = ([], h, nothing_printed lines none)
step_printed calls members spot round old e new lines (inr ((prints, h, is), heard)) = (prints, h, line_printed spot round (worlds.Happen e) h.gains.crossings prints (change_of members old new) lines is)

-- a round is a calm of one round
round_printed : {C : Type 0} (calls : Calls C) (members : C → AllParts) (spot : Spot) (round : ℕ) (old new : WorldState C) (lines : List (List ℕ)) → TellsRound calls members spot old round new lines
    → (prints : List Shown) × Happens calls old (worlds.Calm 1) new prints × Prints lines prints
round_printed calls members spot round old new lines h =
    let parts : AreParts Prints = record { none = nothing_printed [] refl; more = both_printed } in
    let (prints, events, has) = round_as (TellsInCalm calls members spot round) (HappensInCalm calls) Prints parts (step_printed calls members spot round) old new lines h in
    (prints, round_calm calls old new prints events, has)

-- rounds are a replay of calms of one round each
rounds_printed : {C : Type 0} (calls : Calls C) (members : C → AllParts) (spot : Spot) (numbers : List ℕ) (old new : WorldState C) (lines : List (List ℕ)) → InTurn (TellsRound calls members spot) old numbers new lines
    → (prints : List Shown) × Replays calls old (rounds_of (length numbers)) new prints × Prints lines prints
rounds_printed calls members spot [] old new lines (left, none) = ([], (left, refl), nothing_printed lines none)
rounds_printed calls members spot (n ∷ numbers) old new lines (mid, first, rest, one, more, all) =
    let (begin, round, here) = round_printed calls members spot n old mid first one in
    let (later, replays, there) = rounds_printed calls members spot numbers mid new rest more in
    (begin ++ later, (mid, begin, later, round, replays, refl), subst (λ (ls : List (List ℕ)). Prints ls (begin ++ later)) (sym all) (both_printed first rest begin later here there))

all_rounds : (rounds : ℕ) → length (first_rounds rounds) ≡ rounds
all_rounds zero = refl
all_rounds (suc rounds) =
    let count : length (first_rounds rounds ++ suc rounds ∷ []) ≡ length (first_rounds rounds) + 1 = length-append (first_rounds rounds) (suc rounds ∷ []) in
    let fewer : length (first_rounds rounds) ≡ rounds = all_rounds rounds in
    omega (arith, count, fewer)

at_printed : {C : Type 0} (calls : Calls C) (members : C → AllParts) → AreSettled calls → (spot : Spot) (e : WorldEvent) (old new other : WorldState C) (lines : List (List ℕ)) (prints : List Shown)
    → TellsIn calls members old (spot, e) new lines → Happens calls old e other prints → Passes new other lines prints
at_printed calls members settled spot (worlds.Happen e) old new other lines prints h k =
    let one : (new ≡ other) × (h.0 ≡ prints) = happens_once calls settled old (worlds.Happen e) new other h.0 prints h.1 k in
    (one.0, subst (λ (ps : List Shown). Prints lines ps) one.1 (one_printed calls members spot 0 (worlds.Happen e) old new lines h))
at_printed {C} calls members settled spot (worlds.Calm rounds) old new other lines prints h k =
    let (own, replays, has) = rounds_printed calls members spot (first_rounds rounds) old new lines h in
    let passed : Replays calls old (rounds_of rounds) new own = subst (λ (n : ℕ). Replays calls old (rounds_of n) new own) (all_rounds rounds) replays in
    let one : (new ≡ other) × (own ≡ prints) = in_turn_once (Happens calls) (happens_once calls settled) old (rounds_of rounds) new other own prints passed (calm_rounds calls rounds old other prints k) in
    (one.0, subst (λ (ps : List Shown). Prints lines ps) one.1 has)

world_printed : {C : Type 0} (calls : Calls C) (members : C → AllParts) → AreSettled calls → (number : ℕ) (events : List (ℕ × WorldEvent)) (old new other : WorldState C) (lines : List (List ℕ)) (prints : List Shown)
    → InTurn (TellsIn calls members) old (numbered_from number events) new lines → Replays calls old (alone events) other prints → Passes new other lines prints
world_printed calls members settled number [] old new other lines prints (left, none) (same, nothing) = (left ∙ sym same, subst (λ (ps : List Shown). Prints lines ps) (sym nothing) (nothing_printed lines none))
world_printed {C} calls members settled number (e ∷ events) old new other lines prints (mid, first, rest, one, more, all) (between, begin, later, happens, follow, end) =
    let here : Passes mid between first begin = at_printed calls members settled (record { line = e.0; number = number }) e.1 old mid between first begin one happens in
    let there : Passes new other rest later = world_printed calls members settled (suc number) events mid new other rest later more (subst (λ (w : WorldState C). Replays calls w (alone events) other later) (sym here.0) follow) in
    (there.0, subst (λ (ls : List (List ℕ)). Prints ls prints) (sym all) (subst (λ (ps : List Shown). Prints (first ++ rest) ps) (sym end) (both_printed first rest begin later here.1 there.1)))

-- ---- an output and a trace

alone_of : {E : Type 0} (lines : List ℕ) (events : List E) → length lines ≡ length events → alone (zip lines events) ≡ events
alone_of [] [] fit = refl
alone_of [] (e ∷ events) fit = absurd (omega (arith, fit))
alone_of (n ∷ lines) [] fit = absurd (omega (arith, fit))
alone_of (n ∷ lines) (e ∷ events) fit = ap (λ es. e ∷ es) (alone_of lines events (omega (arith, fit)))

abbrev in_lines : List (List ℕ) → List ℕ
in_lines lines = text_of (λ line. line) lines

-- the events of a network without host programs are such as a script may ask for
abbrev AreValid : Asked → Type 0
AreValid (Raw events) = All IsEvent events
AreValid (World events) = Unit {0}

asked_valid : (raw among : Bool) (events : Asked) (lines : List (List ℕ)) → AsksFor raw among events lines → AreValid events
asked_valid true among (Raw events) lines asked = asked.meant
asked_valid true among (World events) lines asked = tt
asked_valid false among (Raw events) lines asked = absurd asked
asked_valid false among (World events) lines asked = tt

raw_from : {C : Type 0} (calls : Calls C) (inside : Inside C) (Holds : C → Type 0) → AreSettled calls → AreSaid calls inside Holds → (t : TopologyFields) (opening : C) (lines : List ℕ) (events : List RawEvent) (book : Bool) (out trace : List ℕ)
    → All IsEvent events → Holds opening → length lines ≡ length events →
    WritesAll Sizes (ShowsFrom calls opening events) (Some []) (Some out) →
    (k : TracesFrom calls inside t opening (zip lines events) (Some []) (Some trace)) →
    PrintsTrace book out trace k.traced.shown
unfolding raw_texts
raw_from {C} calls inside Holds settled each t opening lines events book out trace valid holds fit h k =
    let (others, is, tells) = k.traced.is_shown in
    let replays : of_network.Replays calls opening (alone (zip lines events)) h.shows.last h.shown = subst (λ (es : List RawEvent). of_network.Replays calls opening es h.shows.last h.shown) (sym (alone_of lines events fit)) h.shows.replayed in
    let (same, (recorded, are, prints)) = events_printed calls inside Holds settled each 1 (zip lines events) opening k.last h.shows.last others h.shown (subst (All IsEvent) (sym (alone_of lines events fit)) valid) holds tells replays in
    record {
      opening = opening_line t (object (members_of (inside.members opening)));
      recorded = recorded;
      lives = [];
      written = k.traced.written;
      traced = is ∙ ap (λ (ls : List (List ℕ)). opening_line t (object (members_of (inside.members opening))) ∷ ls) are;
      printed =
          h.written
          ∙ ap₂ (λ (xs ys : List ℕ). xs ++ (ys ++ codes "end\n")) (sym (flat_map-map ended_line (raw.shown_text Sizes) h.shown) ∙ ap in_lines prints) (sym (no_lives book));
    }

world_from : {C : Type 0} (calls : Calls C) (members : C → AllParts) → AreSettled calls → (t : TopologyFields) (opening : C) (lines : List ℕ) (events : List WorldEvent) (book : Bool) (out trace : List ℕ)
    → length lines ≡ length events → WritesWorld book Sizes (WorldShowsFrom calls opening events) (Some []) (Some out) →
    (k : WorldTracesFrom (shown calls) members t opening (zip lines events) (Some []) (Some trace)) →
    PrintsTrace book out trace k.traced.shown
unfolding texts
world_from {C} calls members settled t opening lines events book out trace fit h k =
    let begins : WorldState C = opening_world (shown calls) opening in
    let (others, is, tells) = k.traced.is_shown in
    let replays : Replays (shown calls) begins (alone (zip lines events)) h.shows.last h.shown = subst (λ (es : List WorldEvent). Replays (shown calls) begins es h.shows.last h.shown) (sym (alone_of lines events fit)) h.shows.replayed in
    let (same, (recorded, are, prints)) = world_printed (shown calls) members (shown_settled calls settled) 1 (zip lines events) begins k.last h.shows.last others h.shown tells replays in
    record {
      opening = opening_text t (state_of members begins);
      recorded = recorded;
      lives = h.lives;
      written = k.traced.written;
      traced = is ∙ ap (λ (ls : List (List ℕ)). opening_text t (state_of members begins) ∷ ls) are;
      printed = h.written ∙ ap (λ (xs : List ℕ). xs ++ (book_text book h.lives ++ codes "end\n")) (sym (flat_map-map ended_line (shown_text Sizes) h.shown) ∙ ap in_lines prints);
    }

in_from : {C : Type 0} (among : Bool) (calls : Calls C) (members : C → AllParts) → AreSettled calls → (t : TopologyFields) (strangers : List Host) (opening : C) (lines : List ℕ) (events : List WorldEvent) (book : Bool) (out trace : List ℕ)
    → among ≡ false → length lines ≡ length events → WritesWorld book Sizes (ShowsIn among calls strangers opening events) (Some []) (Some out) →
    (k : TracesIn among (shown calls) members t opening (zip lines events) (Some []) (Some trace)) →
    PrintsTrace book out trace (told_in among (shown calls) members t opening (zip lines events) (Some []) (Some trace) k)
in_from true calls members settled t strangers opening lines events book out trace none fit h k = absurd (false≢true (sym none))
in_from false calls members settled t strangers opening lines events book out trace none fit h k = world_from calls members settled t opening lines events book out trace fit h k

all_from : {C : Type 0} (calls : Calls C) (inside : Inside C) (Holds : C → Type 0) → AreSettled calls → AreSaid calls inside Holds → (t : TopologyFields) (opening : C) (lines : List ℕ) (events : Asked) (book : Bool) (out trace : List ℕ)
    → are_some t.strangers ≡ false → AreValid events → Holds opening → length lines ≡ asked_count events →
    ReplaysFrom calls t.strangers opening book Sizes events (Some []) (Some out) →
    (k : TracesAll calls inside t opening lines events (Some []) (Some trace)) →
    PrintsTrace book out trace (told_from calls inside t opening lines events (Some []) (Some trace) k)
all_from calls inside Holds settled each t opening lines (Raw events) book out trace none valid holds fit h k = raw_from calls inside Holds settled each t opening lines events book out trace valid holds fit h k
all_from calls inside Holds settled each t opening lines (World events) book out trace none valid holds fit h k = in_from (are_some t.strangers) calls inside.members settled t t.strangers opening lines events book out trace none fit h k

plain_said : AreSaid plain_calls plain_inside (λ b. Unit {0})
plain_said = record { says = λ spot old new other e lines prints holds t h. told old new other spot e lines prints t h; kept = λ old new e prints valid holds h. tt }

subnet_said : (o : Net) → AreSaid subnet_calls subnet_inside (Holds o)
subnet_said o = record {
  says = λ spot old new other e lines prints holds t h. says o old new other spot e lines prints holds t h;
  kept = λ old new e prints valid holds h. event_holds old new e prints valid h holds;
}

-- a subnet of a topology, at its opening
opening_of : (t : TopologyFields) → IsTopology t → Holds (subnet_of t).net (subnet_of t)
opening_of t keeps =
    let few : length (sites_of t) ≤ most_imps + 1 = omega (arith, length-map (range_with_len 0 (most_imps + 1)) (site_of t.imps), length-range_with_len 0 (most_imps + 1)) in
    subst (λ (hosts : List Host). Holds (opening_subnet hosts (sites_of t) (ends_of t.lines)) (running (opening_subnet hosts (sites_of t) (ends_of t.lines)))) (sym (hosts_listed t keeps ∙ same_hosts 0 (sites_of t))) (opening_holds (sites_of t) (ends_of t.lines) few)

over_from : (carrier : CarrierKind) (t : TopologyFields) (lines : List ℕ) (events : Asked) (book : Bool) (out trace : List ℕ) → IsTopology t → are_some t.strangers ≡ false → AreValid events → length lines ≡ asked_count events
    → ReplaysOver carrier t book Sizes events (Some []) (Some out) →
    (k : TracesOver carrier t lines events (Some []) (Some trace)) →
    PrintsTrace book out trace (told_over carrier t lines events (Some []) (Some trace) k)
over_from kind.Plain t lines events book out trace keeps none valid fit h k = all_from plain_calls plain_inside (λ b. Unit {0}) plain_settled plain_said t (plain_of t) lines events book out trace none valid tt fit h k
over_from kind.Subnet t lines events book out trace keeps none valid fit h k =
    all_from subnet_calls subnet_inside (Holds (subnet_of t).net) subnet_settled (subnet_said (subnet_of t).net) t (subnet_of t) lines events book out trace none valid (opening_of t keeps) fit h k

pub prints_trace : (book : Bool) (input out trace : List ℕ) → ReplaysInput book Sizes input (Some []) (Some out) →
    (k : TracesInput input (Some []) (Some trace)) → are_some k.network.strangers ≡ false →
    PrintsTrace book out trace (told_lines input (Some []) (Some trace) k)
prints_trace book input out trace h k none =
    let same : OneInput h.network k.network h.events k.events = input_once input h.network k.network h.events k.events h.input k.input.input in
    let moved : ReplaysOn k.network book Sizes k.events (Some []) (Some out) =
    subst (λ (network : TopologyFields). ReplaysOn network book Sizes k.events (Some []) (Some out)) same.same_network
    (subst (λ (events : Asked). ReplaysOn h.network book Sizes events (Some []) (Some out)) same.same_events h.replayed) in
    over_from k.network.carrier k.network k.lines k.events book out trace (described_keeps k.input.input.document k.network k.input.input.described) none (asked_valid k.network.raw (are_some k.network.strangers) k.events _ k.input.input.asked) k.input.fits moved k.traced

-- ---- outputs that a trace does not have

begins : List ℕ → ℕ
begins [] = 0
begins (x ∷ xs) = x

pub swallowed : (book : Bool) (opening trace : List ℕ) → PrintsTrace book starts trace (opening ∷ []) → ⊥
unfolding begins
swallowed book opening trace h = by h.recorded h.traced h.printed where
  by : (recorded : List Recorded) → opening ∷ [] ≡ h.opening ∷ map recorded_text recorded → codes "up 0/1\nend\n" ≡ text_of (λ line. line) (flat_map printed_lines recorded) ++ (book_text book h.lives ++ codes "end\n") → ⊥
  by [] is prints = of book h.lives prints where
    of : (book : Bool) (lives : List Life) → codes "up 0/1\nend\n" ≡ book_text book lives ++ codes "end\n" → ⊥
    of false lives e = cc
    of true [] e = cc
    of true (x ∷ lives) e = let bad : 117 ≡ 108 = ap begins e in omega (arith, bad)
  by (r ∷ rs) is prints = cc

pub none : (book : Bool) (out trace : List ℕ) → PrintsTrace book out trace [] → ⊥
none book out trace h = let first : [] ≡ h.opening ∷ map recorded_text h.recorded = h.traced in cc
