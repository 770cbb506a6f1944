-- What `--trace` writes is the trace of the input's script.
use Rattle.simulator.proofs.Common.{are_some, Keeps, text_of, Calls, parted_once, RawEvent, TopologyFields, CarrierKind, WorldState, opening_world, WorldEvent, AsksFor, Raw, World, Asked, ScriptFault, AllParts, stays}
use Rattle.world_script.specs.WorldSpelling.{IsWorldEvent, world_spelling}
use Rattle.std.proofs.Common.{◌≡◌, ◌⊎◌, ◌∙◌, inl, inr, ℕ, ◌+◌, Bool, true, false, List, [], ◌∷◌, Option, Result, Ok, Err, OnOk, ap, refl, subst, sym, suc, length, ◌≢◌, IfErr, filter}
use Rattle.std.proofs.lemmas.List.{length-map}
use Rattle.trace.specs.Traces.{Inside, asking_from, event_lines, AfterOpening, Traces, WritesTrace}
use Rattle.world_trace.specs.Traces.{StopsOne, TracesWorld, WorldTraceEnds}
use Rattle.simulator.specs.Traced.{IsScriptOf, TracesFrom, TracesOn, TracesOver, WorldEndsFrom, WorldTracesFrom, asked_count, EndsOn, EndsOver, Traced}
use Rattle.script.specs.Spelling.{IsEvent, spelling}
use Rattle.command_line.specs.Input.{IsInput}
use Rattle.command_line.specs.Steps.{IsReplayFault}
use Rattle.script.specs.Script.{AskForAs, asks, lines_of}
use Rattle.world_trace.specs.Traces as worlds
use Rattle.command_line.specs.declared.fault.ScriptFault.TheVariants as fault

-- ---- over a carrier

-- a trace that was written stays where it is handed on
pub flushed_trace : {C : Type 0} (calls : Calls C) (inside : Inside C) (t : TopologyFields) (opening last : C) (events : List (ℕ × RawEvent)) (a b c : Option (List ℕ))
    → WritesTrace (AfterOpening inside t opening (Traces calls inside opening events last)) a b → Keeps b c → TracesFrom calls inside t opening events a c
flushed_trace calls inside t opening last events a b c w k = record { last = last; traced = record { shown = w.shown; is_shown = w.is_shown; written = stays a b c (text_of (λ line. line) w.shown) w.written k } }

-- ---- over the carrier of a topology

pub traced_over : {A E : Type 0} (carrier : CarrierKind) (network : TopologyFields) (lines : List ℕ) (asked : Asked) (a b : Option (List ℕ)) (r : Result A E)
    → network.carrier ≡ carrier → OnOk r (TracesOver carrier network lines asked a b) → OnOk r (TracesOn network lines asked a b)
traced_over carrier network lines asked a b r is h = subst (λ (k : CarrierKind). OnOk r (TracesOver k network lines asked a b)) (sym is) h

pub ends_over : (carrier : CarrierKind) (network : TopologyFields) (lines : List ℕ) (asked : Asked) (a b : Option (List ℕ)) → network.carrier ≡ carrier → Keeps a b ⊎ EndsOver carrier network lines asked a b → Keeps a b ⊎ EndsOn network lines asked a b
ends_over carrier network lines asked a b is (inl kept) = inl kept
ends_over carrier network lines asked a b is (inr h) = inr (subst (λ (k : CarrierKind). EndsOver k network lines asked a b) (sym is) h)

-- ---- of hosts with programs

pub flushed_world : {C : Type 0} (calls : Calls C) (members : C → AllParts) (t : TopologyFields) (opening : C) (first last : WorldState C) (events : List (ℕ × WorldEvent)) (a b c : Option (List ℕ)) → first ≡ opening_world calls opening
    → WritesTrace (worlds.AfterOpening members t first (TracesWorld calls members first events last)) a b → Keeps b c → WorldTracesFrom calls members t opening events a c
flushed_world {C} calls members t opening first last events a b c is w k =
    let own : WritesTrace (worlds.AfterOpening members t (opening_world calls opening) (TracesWorld calls members (opening_world calls opening) events last)) a b =
    subst (λ (x : WorldState C). WritesTrace (worlds.AfterOpening members t x (TracesWorld calls members x events last)) a b) is w in
    record { last = last; traced = record { shown = own.shown; is_shown = own.is_shown; written = stays a b c (text_of (λ line. line) own.shown) own.written k } }

pub world_ends : {C : Type 0} (calls : Calls C) (members : C → AllParts) (t : TopologyFields) (opening : C) (first last : WorldState C) (events : List (ℕ × WorldEvent)) (a b : Option (List ℕ)) → first ≡ opening_world calls opening
    → WritesTrace (worlds.AfterOpening members t first (WorldTraceEnds calls members (StopsOne calls) first events last)) a b → WorldEndsFrom calls members t opening events a b
world_ends {C} calls members t opening first last events a b is w = record {
  last = last;
  traced = subst (λ (x : WorldState C). WritesTrace (worlds.AfterOpening members t x (WorldTraceEnds calls members (StopsOne calls) x events last)) a b) is w;
}

-- ---- of any octets

pub traced : (network : TopologyFields) (lines : List ℕ) (events : Asked) (a b : Option (List ℕ)) → TracesOn network lines events a b → Traced a b
traced network lines events a b h = record { network = network; lines = lines; events = events; traced = h }

-- ---- lines

-- the lines that ask for events are as many as these
asking_counts : (number : ℕ) (ls : List (List ℕ)) → length (asking_from number ls) ≡ length (filter asks ls)
asking_counts number [] = refl
asking_counts number (l ∷ ls) = by (asking_counts (number + 1) ls) (asks l) refl where
  by : length (asking_from (number + 1) ls) ≡ length (filter asks ls) → (b : Bool) → asks l ≡ b → length (asking_from number (l ∷ ls)) ≡ length (filter asks (l ∷ ls))
  by more true e = rw e (ap (λ (n : ℕ). suc n) more)
  by more false e = rw e more

as_many : {E : Type 0} (spell : E → List ℕ) (IsMeant : E → Type 0) (events : List E) (ls : List (List ℕ)) → AskForAs spell IsMeant events ls → length (asking_from 1 ls) ≡ length events
as_many spell IsMeant events ls asked = asking_counts 1 ls ∙ sym (ap length asked.spelled) ∙ length-map events spell

asked_many : (raw among : Bool) (events : Asked) (script : List ℕ) → AsksFor raw among events (lines_of script) → length (event_lines script) ≡ asked_count events
asked_many true among (Raw events) script asked = as_many spelling IsEvent events (lines_of script) asked
asked_many true among (World events) script asked = absurd asked
asked_many false among (Raw events) script asked = absurd asked
asked_many false among (World events) script asked = as_many world_spelling (IsWorldEvent among) events (lines_of script) asked

-- an input's script has a line for each event
pub lines_fit : (octets script : List ℕ) (network : TopologyFields) (events : Asked) → IsInput octets network events → IsScriptOf octets script → length (event_lines script) ≡ asked_count events
lines_fit octets script network events input parted =
    let same = parted_once octets parted.document script input.document input.script parted.parted input.parted in
    ap (λ ls. length (asking_from 1 ls)) same.scripts ∙ asked_many network.raw (are_some network.strangers) events input.script input.asked

-- ---- faults

-- a fault of a replay is one of memory or of a write
pub only_replayed : (P : Type 0) (r : Result (Unit {0}) ScriptFault) → IfErr r IsReplayFault → IfErr r (λ f. f ≢ fault.CannotWrite → f ≢ fault.OutOfMemory → P)
only_replayed P (Ok done) h = tt
only_replayed P (Err fault.OutOfMemory) h = λ written kept. absurd (kept refl)
only_replayed P (Err fault.CannotWrite) h = λ written kept. absurd (written refl)
only_replayed P (Err fault.TooLong) h = absurd h
only_replayed P (Err fault.BadTopology) h = absurd h
only_replayed P (Err fault.CannotRead) h = absurd h
only_replayed P (Err fault.BadOptions) h = absurd h
only_replayed P (Err (fault.BadLine number)) h = absurd h
