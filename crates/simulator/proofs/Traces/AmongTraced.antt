-- What `--trace` writes among strangers, and of an input.
use Rattle.simulator.proofs.Common.{◌≡◌, ◌⊎◌, inr, ℕ, List, OnOk, subst, Calls, Keeps, text_of, ScriptFault, TopologyFields, TraceStops, TracesInput, WorldState, opening_mixed, AllParts, WorldEvent, Asked, stays}
use Rattle.std.proofs.Common.{inl, Option, Result}
use Rattle.replay.proofs.lemmas.{on_ok}
use Rattle.world_trace.specs.MixedTraces.{WritesMixed, WritesMixedPart}
use Rattle.simulator.specs.Traced.{EndsAmong, EndsOn, IsScripted, Traced, TracedInPart, TracesAmong, TracesOn}

-- ---- among strangers, over a carrier

-- a trace that was written stays where it is handed on
pub flushed_among : {C : Type 0} (calls : Calls C) (members : C → AllParts) (t : TopologyFields) (opening : C)
    (first last : WorldState C) (events : List (ℕ × WorldEvent)) (a b c : Option (List ℕ))
    → first ≡ opening_mixed calls opening t.strangers → WritesMixed calls members t first events last a b
    → Keeps b c → TracesAmong calls members t opening events a c
flushed_among {C} calls members t opening first last events a b c is w k =
    let own = subst (λ (x : WorldState C). WritesMixed calls members t x events last a b) is w in
    record {
      last = last;
      traced = record { shown = own.shown; is_shown = own.is_shown; written = stays a b c (text_of (λ line. line) own.shown) own.written k };
    }

pub among_ends : {C : Type 0} (calls : Calls C) (members : C → AllParts) (t : TopologyFields) (opening : C)
    (first last : WorldState C) (events : List (ℕ × WorldEvent)) (a b : Option (List ℕ))
    → first ≡ opening_mixed calls opening t.strangers → WritesMixedPart calls members t first events last a b
    → EndsAmong calls members t opening events a b
among_ends {C} calls members t opening first last events a b is w =
    record { last = last; traced = subst (λ (x : WorldState C). WritesMixedPart calls members t x events last a b) is w }

-- ---- of an input

pub input_traced : (octets lines : List ℕ) (network : TopologyFields) (events : Asked)
    (r : Result (Unit {0}) ScriptFault) (a b : Option (List ℕ)) → IsScripted octets network lines events
    → OnOk r (TracesOn network lines events a b) → OnOk r (TracesInput octets a b)
input_traced octets lines network events r a b read h =
    on_ok r (λ (k : TracesOn network lines events a b).
    record { network = network; lines = lines; events = events; input = read; traced = k }) h

pub input_stopped : (octets lines : List ℕ) (network : TopologyFields) (events : Asked) (a b : Option (List ℕ))
    → IsScripted octets network lines events
    → Keeps a b ⊎ EndsOn network lines events a b → Keeps a b ⊎ TraceStops octets a b
input_stopped octets lines network events a b read (inl kept) = inl kept
input_stopped octets lines network events a b read (inr h) =
    inr (record { network = network; lines = lines; events = events; input = read; stopped = h })

pub any_traced : (octets : List ℕ) (a b : Option (List ℕ)) → TracesInput octets a b → Traced a b
any_traced octets a b h = record { network = h.network; lines = h.lines; events = h.events; traced = h.traced }

pub any_stopped : (octets : List ℕ) (a b : Option (List ℕ)) → Keeps a b ⊎ TraceStops octets a b
    → Keeps a b ⊎ TracedInPart a b
any_stopped octets a b (inl kept) = inl kept
any_stopped octets a b (inr h) =
    inr (record { network = h.network; lines = h.lines; events = h.events; stopped = h.stopped })
