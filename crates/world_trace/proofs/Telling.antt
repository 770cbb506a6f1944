-- Events are traced one after the other, and one of them may be the last.
use Rattle.world_trace.proofs.Common.{false≢true, Appends, Crossing, WorldState, Calls, Event, ReplayFault, ended_line, WritesTrace, numbered_from, Spot, WorldEvent, Texts, none_changed, no_part_changed, object, shown, AllParts, Sizes, TopologyFields, Passed}
use Rattle.std.proofs.Common.{Bool, true, false, nat_lt, lt-ltb, ◌≡◌, ◌⊎◌, inl, inr, ℕ, suc, ◌<◌, ◌+◌, List, [], ◌∷◌, ◌++◌, drop, get_or, length, reverse, Option, Some, Result, Ok, Err, arith, refl, sym, ap, ap₂, map, subst, ◌∙◌}
use Rattle.std.proofs.lemmas.List.{append_assoc, append-nil, length-append, reverse-append, reverse-reverse, length-reverse}
use Rattle.replay.proofs.lemmas.{appends_more, appends_none, last_shown, last_written, one_written}
use Rattle.replay.specs.InTurn.{Happening, InTurn, text_of, EndsInTurn}
use Rattle.world_replay.specs.Replay.{HappensInCalm, MayDo, StopsIn, StopsInCalm, EndsIn, EventGives, Happens, MayStep, Replays}
use Rattle.world_trace.specs.Steps.{AreTextsOf, EventEnds, IsAsBefore, StepEnds, state_objects, AreChanged, AreChanges, HasPassed, OneEnds, Shows, ShowsInCalm, passed_line}
use Rattle.world_trace.specs.Texts.{event_text, line_of, seat_member, services_member, opening_text, world_line}
use Rattle.world_trace.specs.Traces.{MayTell, StopsOne, TellsInCalm, AfterOpening, IsUnchanged, TellsOne, change_of, state_of}
use Rattle.trace.specs.Changes.{changed_parts, changed}
use Rattle.std.proofs.Math.Seq.{drop-append_seam}
use Rattle.replay.specs.declared.events.ReplayFault.TheVariants as fault
use Rattle.world_replay.specs.Output.{Shown, Writes, crossings_of, output}
use Rattle.world_replay.proofs.lemmas.Gained.{HaveGains, news_gained}
use Rattle.world_replay.proofs.lemmas.Replays.{gains_once, same_news}
use Rattle.world_replay.specs.Gains.{Gains}
use Rattle.net_sim.proofs.lemmas.{alone}
use Rattle.world_script.specs.declared.event.WorldEvent.TheVariants as world
use Rattle.world_trace.specs.declared.texts.Changes.{Changes}
use Rattle.world_trace.proofs.Stays.{IsQuiet}

-- ---- one event

-- a list of one has nothing before its last
none_before : {E : Type 0} (e last : E) (done left : List E) → e ∷ [] ≡ done ++ last ∷ left → done ≡ []
none_before e last [] left is = refl
none_before e last (x ∷ done) left is =
    let long : length (e ∷ []) ≡ length (x ∷ (done ++ last ∷ left)) = ap length is in
    let count : length (done ++ last ∷ left) ≡ length done + suc (length left) = length-append done (last ∷ left) in
    absurd (omega (arith, long, count))

the_last : {E : Type 0} (e last : E) (done left : List E) → e ∷ [] ≡ done ++ last ∷ left → done ≡ [] → e ≡ last
the_last e last done left is none = ap (λ es. get_or es 0 last) (is ∙ ap (λ ds. ds ++ last ∷ left) none)

-- what events one after another show, in a list of one
pub only_one : {S E : Type 0} (Happens : Happening S E Shown) (old new : S) (e : E) (shown : List Shown)
    → InTurn Happens old (e ∷ []) new shown → Happens old e new shown
only_one {S} {E} Happens old new e shown (mid, first, rest, one, (same, none), all) =
    let whole : shown ≡ first = all ∙ ap (λ xs. first ++ xs) none ∙ append-nil first in
    subst (λ xs. Happens old e new xs) (sym whole) (subst (λ (w : S). Happens old e w first) (sym same) one)

-- an event that ends as is said, in a list of one
pub last_one : {S E : Type 0} (Happens Goes : Happening S E Shown) (old new : S) (e : E) (shown : List Shown)
    → EndsInTurn Happens Goes old (e ∷ []) new shown → (own : List Shown) × Goes old e new own
last_one {S} {E} Happens Goes old new e shown h =
    let none : h.done ≡ [] = none_before e h.last h.done h.left h.parts in
    let is : e ≡ h.last = the_last e h.last h.done h.left h.parts none in
    let first : InTurn Happens old [] h.mid h.front =
    subst (λ (es : List E). InTurn Happens old es h.mid h.front) none h.before in
    (h.own, subst (λ (w : S). Goes w e new h.own) first.0 (subst (λ (x : E). Goes h.mid x new h.own) (sym is) h.goes))

pub stopped : {C : Type 0} (calls : Calls C) (old new : WorldState C) (e : Event) (shown : List Shown) → old.strangers ≡ [] → EndsIn calls (StopsIn calls) old (world.Happen e ∷ []) new shown → MayTell calls old e new []
stopped calls old new e shown none h =
    let (own, stops) = last_one (Happens calls) (StopsIn calls) old new (world.Happen e) shown h in
    (refl, (stops.outcome, alone calls old stops.outcome new none e stops.gives))

pub unwritten : {C : Type 0} (calls : Calls C) (old new : WorldState C) (e : Event) (shown : List Shown) → old.strangers ≡ [] → EndsIn calls (MayDo calls) old (world.Happen e ∷ []) new shown → MayTell calls old e new []
unwritten calls old new e shown none h =
    let (own, may) = last_one (Happens calls) (MayDo calls) old new (world.Happen e) shown h in
    (refl, (may.outcome, alone calls old may.outcome new none e (subst (λ (x : WorldEvent). EventGives calls old x may.outcome new) may.begins may.gives)))

abbrev pub failed_by : ReplayFault → Result (Unit {0}) ReplayFault
failed_by f = Err f

-- whichever fault ended it
pub ended : {C : Type 0} (calls : Calls C) (old new : WorldState C) (e : Event) (f : ReplayFault) → old.strangers ≡ [] → (failed_by f ≡ Err fault.OutOfMemory → (shown : List Shown) × EndsIn calls (StopsIn calls) old (world.Happen e ∷ []) new shown)
    → (failed_by f ≡ Err fault.CannotWrite → (shown : List Shown) × EndsIn calls (MayDo calls) old (world.Happen e ∷ []) new shown) → StopsOne calls old e new []
ended calls old new e fault.OutOfMemory none memory failed = let w = memory refl in inr (stopped calls old new e w.0 none w.1)
ended calls old new e fault.CannotWrite none memory failed = let w = failed refl in inr (unwritten calls old new e w.0 none w.1)

pub ended_in_calm : {C : Type 0} (calls : Calls C) (old new : WorldState C) (e : Event) (f : ReplayFault) (a b : Option (List ℕ)) → (failed_by f ≡ Err fault.OutOfMemory → Writes Sizes (StopsInCalm calls old e new) a b)
    → (failed_by f ≡ Err fault.CannotWrite → MayStep calls old e new) → MayTell calls old e new []
ended_in_calm calls old new e fault.OutOfMemory a b memory failed = let w = (memory refl).is_shown in (refl, (w.outcome, w.gives))
ended_in_calm calls old new e fault.CannotWrite a b memory failed = (refl, failed refl)

pub shows : {C : Type 0} (calls : Calls C) (old new : WorldState C) (e : WorldEvent) (written : List ℕ) → Writes Sizes (Replays calls old (e ∷ []) new) (Some []) (Some written) → Shows calls old e new written
shows calls old new e written h = (h.shown, only_one (Happens calls) old new e h.shown h.is_shown, h.written)

-- ---- its line

-- what crossed in it
pub crossings_gained : (old new cs : List Crossing) → new ≡ reverse cs ++ old → drop (length old) (reverse new) ≡ cs
crossings_gained old new cs is =
    let all : reverse new ≡ reverse old ++ cs = ap reverse is ∙ reverse-append (reverse cs) old ∙ ap (λ xs. reverse old ++ xs) (reverse-reverse cs) in
    ap (λ n. drop n (reverse new)) (sym (length-reverse old)) ∙ ap (drop (length (reverse old))) all ∙ drop-append_seam (reverse old) cs

-- one line is written
pub one_line : (line : List ℕ) (IsLine : List (List ℕ) → Type 0) (a b : Option (List ℕ)) → IsLine (line ∷ []) → Appends a b (ended_line line) → WritesTrace IsLine a b
one_line line IsLine a b is written = record { shown = line ∷ []; is_shown = is; written = subst (Appends a b) (sym (append-nil (ended_line line))) written }

pub no_line : (AreLines : List (List ℕ) → Type 0) (a : Option (List ℕ)) → AreLines [] → WritesTrace AreLines a a
no_line AreLines a is = record { shown = []; is_shown = is; written = appends_none a }

-- what the texts of two states have that is other than before
pub changes_are : {C : Type 0} (members : C → AllParts) (old new : WorldState C) (before texts : Texts) (c : Changes) → AreTextsOf members old before → AreTextsOf members new texts → AreChanged before texts c → AreChanges members old new c.parts.items c.programs.items c.services.items
changes_are members old new before texts c h k are = record {
  parts_are = are.parts ∙ ap object (ap₂ changed_parts h.parts k.parts);
  programs_are = are.programs ∙ ap object (ap₂ changed h.programs k.programs);
  services_are = are.services ∙ ap object (ap₂ changed h.services k.services);
}

-- the line of an event that has this name
pub line_by : {C : Type 0} (members : C → AllParts) (spot : Spot) (round : ℕ) (old new : WorldState C)
    (name event printed parts programs services : List ℕ) (crossed : ℕ) (shown : List Shown)
    (gains : Gains old.kept new.kept)
    → event ≡ name → printed ≡ output Sizes shown → crossed ≡ length old.kept.book.crossings
    → AreChanges members old new parts programs services
    → line_of spot round event (drop crossed (reverse new.kept.book.crossings)) printed (state_objects parts programs services)
    ≡ line_of spot round name gains.crossings (output Sizes shown) (change_of members old new)
line_by members spot round old new name event printed parts programs services crossed shown gains named says count are =
    let change : List (List ℕ) = state_objects parts programs services in
    let crossings : drop crossed (reverse new.kept.book.crossings) ≡ gains.crossings =
    ap (λ n. drop n (reverse new.kept.book.crossings)) count
    ∙ crossings_gained old.kept.book.crossings new.kept.book.crossings gains.crossings gains.crossed in
    let new_parts : List ℕ = object (changed_parts (members old.carrier) (members new.carrier)) in
    let new_programs : List ℕ = object (changed (map seat_member old.seats) (map seat_member new.seats)) in
    let state : change ≡ change_of members old new =
    ap (λ (t : List ℕ). state_objects t programs services) are.parts_are
    ∙ ap (λ (t : List ℕ). state_objects new_parts t services) are.programs_are
    ∙ ap (λ (t : List ℕ). state_objects new_parts new_programs t) are.services_are in
    ap (λ (cs : List Crossing). line_of spot round event cs printed change) crossings
    ∙ ap (λ (t : List ℕ). line_of spot round t gains.crossings printed change) named
    ∙ ap (λ (p : List ℕ). line_of spot round name gains.crossings p change) says
    ∙ ap (λ (s : List (List ℕ)). line_of spot round name gains.crossings (output Sizes shown) s) state

pub tells : {C : Type 0} (calls : Calls C) (members : C → AllParts) (spot : Spot) (old new : WorldState C) (e : Event) (p : Passed) (a b : Option (List ℕ)) → HasPassed calls members old e new p
    → Appends a b (ended_line (passed_line spot 0 new p)) → OneEnds calls members spot old e (Ok tt) new a b
tells {C} calls members spot old new e p a b h written =
    let (shown, happens, says) = h.shows in
    one_line (world_line spot 0 (world.Happen e) happens.gains.crossings shown (change_of members old new)) (TellsOne calls members spot 0 old (world.Happen e) new) a b (shown, happens, refl)
    (subst (λ (line : List ℕ). Appends a b (ended_line line))
    (line_by members spot 0 old new (event_text (world.Happen e)) p.event.items p.printed.items p.changes.parts.items p.changes.programs.items p.changes.services.items p.crossed shown happens.gains h.event says h.crossed h.changes) written)

-- ---- an event of a calm

-- where something crossed a line is shown
shown_crossed : {C : Type 0} (calls : Calls C) (old new : WorldState C) (e : Event) (shown : List Shown) → HappensInCalm calls old e new shown → length old.kept.book.crossings < length new.kept.book.crossings → shown ≡ [] → ⊥
shown_crossed calls old new e shown h more none =
    let all : HaveGains old.kept new.kept shown = subst (HaveGains old.kept new.kept) (sym h.lines) (news_gained old.kept new.kept h.gains) in
    let same : new.kept.book.crossings ≡ old.kept.book.crossings = all.crossed ∙ ap (λ (ls : List Shown). reverse (crossings_of ls) ++ old.kept.book.crossings) none in
    let long : length new.kept.book.crossings ≡ length old.kept.book.crossings = ap length same in
    absurd (omega (arith, more, long))

-- whether members are other than before
pub none_changed_by : (r : Bool) (xs : List (List ℕ)) → r ≡ nat_lt 0 (length xs) → r ≡ false → xs ≡ []
none_changed_by r [] said is = refl
none_changed_by r (x ∷ xs) said is = absurd (false≢true (sym is ∙ said ∙ lt-ltb 0 (suc (length xs)) (omega arith)))

pub is_changed : (r : Bool) (xs : List (List ℕ)) → r ≡ nat_lt 0 (length xs) → r ≡ true → xs ≡ [] → ⊥
is_changed r xs said is none = absurd (false≢true (sym (said ∙ ap (λ (ys : List (List ℕ)). nat_lt 0 (length ys)) none) ∙ is))

-- an event by which something crosses, or a part changes
pub step_heard : {C : Type 0} (calls : Calls C) (members : C → AllParts) (spot : Spot) (round : ℕ) (old new : WorldState C) (e : Event) (event printed parts programs services : List ℕ) (crossed : ℕ) (a b : Option (List ℕ))
    → ShowsInCalm calls old e new printed → event ≡ event_text (world.Happen e) → crossed ≡ length old.kept.book.crossings → AreChanges members old new parts programs services
    → (length old.kept.book.crossings < length new.kept.book.crossings) ⊎ (changed_parts (members old.carrier) (members new.carrier) ≡ [] → ⊥)
    → Appends a b (ended_line (line_of spot round event (drop crossed (reverse new.kept.book.crossings)) printed (state_objects parts programs services))) → StepEnds calls members spot round old e (Ok tt) new a b
step_heard {C} calls members spot round old new e event printed parts programs services crossed a b (shown, happens, says) named count are some written =
    let line : List ℕ = world_line spot round (world.Happen e) happens.gains.crossings shown (change_of members old new) in
    one_line line (TellsInCalm calls members spot round old e new) a b (inr ((shown, happens, refl), λ none same. heard none same some))
    (subst (λ (line : List ℕ). Appends a b (ended_line line)) (line_by members spot round old new (event_text (world.Happen e)) event printed parts programs services crossed shown happens.gains named says count are) written)
  where
    heard : shown ≡ [] → IsUnchanged members old new → (length old.kept.book.crossings < length new.kept.book.crossings) ⊎ (changed_parts (members old.carrier) (members new.carrier) ≡ [] → ⊥) → ⊥
    heard none same (inl more) = shown_crossed calls old new e shown happens more none
    heard none same (inr other) = other same.parts

-- whatever failed after an event had happened
pub event_may : {C : Type 0} (calls : Calls C) (old new : WorldState C) (e : Event) (printed : List ℕ) → old.strangers ≡ [] → Shows calls old (world.Happen e) new printed → MayTell calls old e new []
event_may calls old new e printed none (shown, happens, says) = (refl, (happens.outcome, alone calls old happens.outcome new none e happens.gives))

pub step_may : {C : Type 0} (calls : Calls C) (old new : WorldState C) (e : Event) (printed : List ℕ) → ShowsInCalm calls old e new printed → MayTell calls old e new []
step_may calls old new e printed (shown, happens, says) = (refl, (happens.outcome, happens.gives))

-- the book gained nothing, and so nothing is shown
none_gained : {C : Type 0} (calls : Calls C) (old new : WorldState C) (e : Event) (shown : List Shown) → HappensInCalm calls old e new shown → new.kept ≡ old.kept → shown ≡ []
none_gained calls old new e shown h same =
    let book = old.kept.book in
    let none : Gains old.kept old.kept = record { crossings = []; notices = []; reports = []; crossed = refl; told = sym (append-nil book.notices); said = sym (append-nil book.reports) } in
    h.lines ∙ same_news old.kept new.kept old.kept h.gains none (gains_once old.kept new.kept old.kept h.gains none same)

-- only parts may have changed, and none is other than before
quiet_unchanged : {C : Type 0} (members : C → AllParts) (old new : WorldState C) → changed_parts (members old.carrier) (members new.carrier) ≡ [] → new.seats ≡ old.seats → new.services ≡ old.services → IsUnchanged members old new
quiet_unchanged members old new parts seats services = record {
  parts = parts;
  programs = ap (λ seats. changed (map seat_member old.seats) (map seat_member seats)) seats ∙ none_changed (map seat_member old.seats);
  services = ap (λ served. changed (map services_member old.services) (map services_member served)) services ∙ none_changed (map services_member old.services);
}

pub step_quiet : {C : Type 0} (own : Calls C) (members : C → AllParts) (spot : Spot) (round : ℕ) (old new : WorldState C) (e : Event) (printed : List ℕ) (a : Option (List ℕ))
    → ShowsInCalm (shown own) old e new printed → ((lines : List Shown) → HappensInCalm (shown own) old e new lines → IsQuiet own old new) → changed_parts (members old.carrier) (members new.carrier) ≡ [] → StepEnds (shown own) members spot round old e (Ok tt) new a a
step_quiet {C} own members spot round old new e printed a (lines, happens, says) quiet none =
    let q = quiet lines happens in
    no_line (TellsInCalm (shown own) members spot round old e new) a (inl (
      subst (λ (ls : List Shown). HappensInCalm (shown own) old e new ls) (none_gained (shown own) old new e lines happens q.kept) happens,
      quiet_unchanged members old new none q.seats q.services,
      refl,
    ))

-- all that is printed is as before, and has no line
pub step_still : {C : Type 0} (calls : Calls C) (members : C → AllParts) (spot : Spot) (round : ℕ) (old new : WorldState C) (e : Event) (printed : List ℕ) (a : Option (List ℕ))
    → ShowsInCalm calls old e new printed → ((shown : List Shown) → HappensInCalm calls old e new shown → IsAsBefore members old new) → StepEnds calls members spot round old e (Ok tt) new a a
step_still {C} calls members spot round old new e printed a (shown, happens, says) still =
    let all = still shown happens in
    no_line (TellsInCalm calls members spot round old e new) a (inl (
      subst (λ (ls : List Shown). HappensInCalm calls old e new ls) (none_gained calls old new e shown happens all.kept) happens,
      quiet_unchanged members old new (ap (changed_parts (members old.carrier)) all.parts ∙ no_part_changed (members old.carrier)) all.seats all.services,
      refl,
    ))

-- the texts of what is as before
pub texts_quiet : {C : Type 0} (own : Calls C) (members : C → AllParts) (old new : WorldState C) (e : Event) (printed : List ℕ) (texts : Texts) → ShowsInCalm (shown own) old e new printed → ((lines : List Shown) → HappensInCalm (shown own) old e new lines → IsQuiet own old new)
    → AreTextsOf members old texts → (texts.programs ≡ map seat_member new.seats) × (texts.services ≡ map services_member new.services)
texts_quiet own members old new e printed texts (lines, happens, says) quiet was =
    let q = quiet lines happens in
    (was.programs ∙ ap (map seat_member) (sym q.seats), was.services ∙ ap (map services_member) (sym q.services))

pub texts_still : {C : Type 0} (calls : Calls C) (members : C → AllParts) (old new : WorldState C) (e : Event) (printed : List ℕ) (texts : Texts)
    → ShowsInCalm calls old e new printed → ((shown : List Shown) → HappensInCalm calls old e new shown → IsAsBefore members old new) → AreTextsOf members old texts → AreTextsOf members new texts
texts_still calls members old new e printed texts (shown, happens, says) still was =
    let all = still shown happens in
    record { parts = was.parts ∙ sym all.parts; programs = was.programs ∙ ap (map seat_member) (sym all.seats); services = was.services ∙ ap (map services_member) (sym all.services) }

-- ---- an event that is no calm

pub happen_ends : {C : Type 0} (calls : Calls C) (members : C → AllParts) (spot : Spot) (old new : WorldState C) (e : Event) (r : Result (Unit {0}) ReplayFault) (a b : Option (List ℕ)) → OneEnds calls members spot old e r new a b
    → EventEnds calls members spot old (world.Happen e) r new a b
happen_ends calls members spot old new e (Ok done) a b h = h
happen_ends calls members spot old new e (Err fault.OutOfMemory) a b h = h
happen_ends calls members spot old new e (Err fault.CannotWrite) a b h = h

-- ---- all events

-- of these events the first ones happened, their lines are written, and those are left
pub record SoFar {S E : Type 0} (Happens : Happening S E (List ℕ)) (old : S) (all left : List E) (now : S) (before after : Option (List ℕ)) : Type 0 where
  pub done : List E
  pub parts : all ≡ done ++ left
  pub written : WritesTrace (InTurn Happens old done now) before after

pub none_yet : {S E : Type 0} (Happens : Happening S E (List ℕ)) (old : S) (all : List E) (a : Option (List ℕ)) → SoFar Happens old all all old a a
none_yet Happens old all a = record { done = []; parts = refl; written = no_line (InTurn Happens old [] old) a (refl, refl) }

pub one_more : {S E : Type 0} (Happens : Happening S E (List ℕ)) (old mid new : S) (all left later : List E) (e : E) (a b c : Option (List ℕ))
    → left ≡ e ∷ later → SoFar Happens old all left mid a b → WritesTrace (Happens mid e new) b c → SoFar Happens old all later new a c
one_more Happens old mid new all left later e a b c is h k = record {
  done = h.done ++ e ∷ [];
  parts = h.parts ∙ ap (λ es. h.done ++ es) is ∙ sym (append_assoc h.done (e ∷ []) later);
  written = one_written Happens (λ line. line) old mid new h.done e a b c h.written k;
}

pub all_done : {S E : Type 0} (Happens : Happening S E (List ℕ)) (old new : S) (all left : List E) (a b : Option (List ℕ)) → left ≡ [] → SoFar Happens old all left new a b → WritesTrace (InTurn Happens old all new) a b
all_done {S} {E} Happens old new all left a b none h =
    let members : all ≡ h.done = h.parts ∙ ap (λ es. h.done ++ es) none ∙ append-nil h.done in
    subst (λ (es : List E). WritesTrace (InTurn Happens old es new) a b) (sym members) h.written

pub ends_so : {S E : Type 0} (Happens Goes : Happening S E (List ℕ)) (old mid new : S) (all left later : List E) (e : E) (a b c : Option (List ℕ))
    → left ≡ e ∷ later → SoFar Happens old all left mid a b → WritesTrace (Goes mid e new) b c → WritesTrace (EndsInTurn Happens Goes old all new) a c
ends_so Happens Goes old mid new all left later e a b c is h k = last_written Happens Goes (λ line. line) old mid new all h.done e later a b c (h.parts ∙ ap (λ es. h.done ++ es) is) h.written k

pub fails_so : {S E : Type 0} (Happens Goes : Happening S E (List ℕ)) (old mid new : S) (all left later : List E) (e : E) (a b : Option (List ℕ))
    → left ≡ e ∷ later → SoFar Happens old all left mid a b → ((lines : List (List ℕ)) × Goes mid e new lines) → (lines : List (List ℕ)) × EndsInTurn Happens Goes old all new lines
fails_so Happens Goes old mid new all left later e a b is h (lines, k) = (
  h.written.shown ++ lines,
  last_shown Happens Goes old mid new all h.done e later h.written.shown lines (h.parts ∙ ap (λ es. h.done ++ es) is) h.written.is_shown k,
)

pub none_left : {X : Type 0} (xs : List X) → length xs ≡ 0 → xs ≡ []
none_left [] none = refl
none_left (x ∷ xs) none = absurd (omega (arith, none))

-- the next event with where it is
abbrev pub at_place : {E : Type 0} → ℕ → (ℕ × E) → Spot × E
at_place passed e = (record { line = e.0; number = passed + 1 }, e.1)

pub next_at : {E : Type 0} (passed : ℕ) (left later : List (ℕ × E)) (e : ℕ × E) → left ≡ e ∷ later → numbered_from (passed + 1) left ≡ at_place passed e ∷ numbered_from (passed + 1 + 1) later
next_at passed left later e is =
    let next : suc (passed + 1) ≡ passed + 1 + 1 = omega arith in
    ap (numbered_from (passed + 1)) is ∙ ap (λ n. at_place passed e ∷ numbered_from n later) next

-- ---- after the first line

pub after_line : (line : List ℕ) (AreLines : List (List ℕ) → Type 0) (a b c : Option (List ℕ))
    → Appends a b (ended_line line) → WritesTrace AreLines b c
    → WritesTrace (λ lines. (others : List (List ℕ)) × (lines ≡ line ∷ others) × AreLines others) a c
after_line line AreLines a b c first h = record {
  shown = line ∷ h.shown;
  is_shown = (h.shown, refl, h.is_shown);
  written = appends_more a b c (ended_line line) (text_of (λ line. line) h.shown) first h.written;
}

pub after_opening : {C : Type 0} (members : C → AllParts) (t : TopologyFields) (opening : WorldState C) (AreLines : List (List ℕ) → Type 0) (a b c : Option (List ℕ)) → Appends a b (ended_line (opening_text t (state_of members opening))) → WritesTrace AreLines b c
    → WritesTrace (AfterOpening members t opening AreLines) a c
after_opening members t opening AreLines a b c first h = after_line (opening_text t (state_of members opening)) AreLines a b c first h
