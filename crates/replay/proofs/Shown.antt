-- What a replay shows, call by call.
use Rattle.replay.proofs.Common.{flat_map-append, Appends-trans, Appends, Host, Crossing, HostMessage, ended_line, EventEnds, Grew, PrintEnds, ReplayFault, Detail, RawEvent}
use Rattle.std.proofs.Common.{◌≡◌, ℕ, ◌<◌, ◌+◌, Bool, true, false, List, [], ◌∷◌, ◌++◌, length, get_or, take, drop, reverse, Option, Some, None, Result, Ok, Err, if◌then◌else◌, inr, refl, sym, ap, ◌∙◌, subst, arith, IfErr, OnOk}
use Rattle.std.proofs.lemmas.List.{append-nil, take_more, drop_all, drop_at, reverse-append, reverse-reverse}
use Rattle.interface.specs.Calls.{Calls, Seen, halted, is_memory, crossing_of, step_crossings, ShowsRefusal, ShowsCrossings, ShowsOffer, ShowsRound, ShowsStep, ShowsTake}
use Rattle.interface.specs.declared.carrier.CarrierFault.{CarrierFault}
use Rattle.interface.specs.declared.crossing.Crossing.TheVariants as crossing
use Rattle.interface.specs.declared.crossing.Inbound.{Inbound}
use Rattle.interface.specs.declared.event.NetEvent.{NetEvent}
use Rattle.replay.specs.Output.{Shown, Writes, Crossed, Refused, crossing_line, shown_text, output, crossings_of, shown_crossings, shown_refusal}
use Rattle.replay.specs.Replay.{BeginsWith, EventGives, GoesOn, Halts, Happens, outcome_of}
use Rattle.replay.specs.declared.events.ReplayFault.TheVariants as fault

same_seen : (b : Bool) (s : Seen) → Grew s (if b then halted s else s)
same_seen true s = record { crossings = []; grown = refl; hosts = refl }
same_seen false s = record { crossings = []; grown = refl; hosts = refl }

grew_refusal : (old : Seen) (e : CarrierFault) (new : Seen) → ShowsRefusal old e new → Grew old new
grew_refusal old e new h = subst (Grew old) (sym h.shown) (same_seen (is_memory e) old)

grew_by : (old : Seen) (crossings : List Crossing) (new : Seen) → ShowsCrossings old crossings new → Grew old new
grew_by old crossings new h = record { crossings = crossings; grown = ap (λ (s : Seen). s.log) h.shown; hosts = ap (λ (s : Seen). s.hosts) h.shown }

pub grew_offer : (old : Seen) (m : HostMessage) (r : Result (Unit {0}) CarrierFault) (new : Seen) → ShowsOffer old m r new → Grew old new
grew_offer old m (Ok done) new h = grew_by old (crossing.Out m ∷ []) new h
grew_offer old m (Err e) new h = grew_refusal old e new h

pub grew_take : (old : Seen) (host : Host) (r : Result (Option Inbound) CarrierFault) (new : Seen) → ShowsTake old host r new → Grew old new
grew_take old host (Ok None) new h = grew_by old [] new h
grew_take old host (Ok (Some i)) new h = grew_by old (crossing_of i ∷ []) new h.0
grew_take old host (Err e) new h = grew_refusal old e new h

pub grew_step : (old : Seen) (e : NetEvent) (r : Result (Unit {0}) CarrierFault) (new : Seen) → ShowsStep old e r new → Grew old new
grew_step old e (Ok done) new h = grew_by old (step_crossings old e) new h
grew_step old e (Err f) new h = grew_refusal old f new h

pub grew_round : (old : Seen) (r : Result (Unit {0}) CarrierFault) (new : Seen) → ShowsRound old r new → Grew old new
grew_round old (Ok done) new h = grew_by old [] new h
grew_round old (Err e) new h = grew_refusal old e new h

-- nothing crosses in a call that is refused
same_log : (b : Bool) (s : Seen) → (if b then halted s else s).log ≡ s.log
same_log true s = refl
same_log false s = refl

refused : (old : Seen) (e : CarrierFault) (new : Seen) → ShowsRefusal old e new → new.log ≡ old.log
refused old e new h = ap (λ (s : Seen). s.log) h.shown ∙ same_log (is_memory e) old

pub refused_offer : (old : Seen) (m : HostMessage) (r : Result (Unit {0}) CarrierFault) (new : Seen) → ShowsOffer old m r new → IfErr r (λ f. new.log ≡ old.log)
refused_offer old m (Ok done) new h = tt
refused_offer old m (Err e) new h = refused old e new h

pub refused_take : (old : Seen) (host : Host) (r : Result (Option Inbound) CarrierFault) (new : Seen) → ShowsTake old host r new → IfErr (outcome_of r) (λ f. new.log ≡ old.log)
refused_take old host (Ok taken) new h = tt
refused_take old host (Err e) new h = refused old e new h

pub refused_step : (old : Seen) (e : NetEvent) (r : Result (Unit {0}) CarrierFault) (new : Seen) → ShowsStep old e r new → IfErr r (λ f. new.log ≡ old.log)
refused_step old e (Ok done) new h = tt
refused_step old e (Err f) new h = refused old f new h

pub output-append : (detail : Detail) (xs ys : List Shown) → output detail (xs ++ ys) ≡ output detail xs ++ output detail ys
output-append detail xs ys = flat_map-append (λ s. ended_line (shown_text detail s)) xs ys

pub shown_crossings-append : (xs ys : List Crossing) → shown_crossings (xs ++ ys) ≡ shown_crossings xs ++ shown_crossings ys
shown_crossings-append [] ys = refl
shown_crossings-append (x ∷ xs) ys = ap (λ zs. Crossed x ∷ zs) (shown_crossings-append xs ys)

-- one more crossing is written
pub crossing_written : (detail : Detail) (a b c : Option (List ℕ)) (crossings : List Crossing) (i : ℕ) (d : Crossing) → i < length crossings → Appends a b (output detail (shown_crossings (take i crossings)))
    → Appends b c (ended_line (crossing_line detail (get_or crossings i d))) → Appends a c (output detail (shown_crossings (take (i + 1) crossings)))
crossing_written detail a b c crossings i d h before now =
    let line : List ℕ = ended_line (crossing_line detail (get_or crossings i d)) in
    let all : output detail (shown_crossings (take (i + 1) crossings)) ≡ output detail (shown_crossings (take i crossings)) ++ line =
    ap (λ cs. output detail (shown_crossings cs)) (take_more crossings i d h) ∙ ap (output detail) (shown_crossings-append (take i crossings) (get_or crossings i d ∷ []))
    ∙ output-append detail (shown_crossings (take i crossings)) (Crossed (get_or crossings i d) ∷ []) ∙ ap (λ xs. output detail (shown_crossings (take i crossings)) ++ xs) (append-nil line) in
    subst (Appends a c) (sym all) (Appends-trans a b c (output detail (shown_crossings (take i crossings))) line before now)

pub crossings_of-append : (xs ys : List Shown) → crossings_of (xs ++ ys) ≡ crossings_of xs ++ crossings_of ys
crossings_of-append [] ys = refl
crossings_of-append (Crossed c ∷ xs) ys = ap (λ cs. c ∷ cs) (crossings_of-append xs ys)
crossings_of-append (Refused f ∷ xs) ys = crossings_of-append xs ys

pub crossings_again : (cs : List Crossing) → crossings_of (shown_crossings cs) ≡ cs
crossings_again [] = refl
crossings_again (c ∷ cs) = ap (λ xs. c ∷ xs) (crossings_again cs)

no_crossing : (r : Result (Unit {0}) CarrierFault) → crossings_of (shown_refusal r) ≡ []
no_crossing (Ok done) = refl
no_crossing (Err f) = refl

-- what crossed is shown, and then a refusal
pub crossings_shown : (cs : List Crossing) (r : Result (Unit {0}) CarrierFault) → crossings_of (shown_crossings cs ++ shown_refusal r) ≡ cs
crossings_shown cs r =
    crossings_of-append (shown_crossings cs) (shown_refusal r) ∙ ap (λ xs. crossings_of (shown_crossings cs) ++ xs) (no_crossing r)
    ∙ append-nil (crossings_of (shown_crossings cs)) ∙ crossings_again cs

-- crossings were printed, and then a refusal
pub print_ends : {W : Type 0} (contents : W → Option (List ℕ)) (detail : Detail) (crossings : List Crossing) (outcome : Result (Unit {0}) CarrierFault) (printed : Result (Unit {0}) ReplayFault) (a : Option (List ℕ)) (mid new : W)
    → Appends a (contents mid) (output detail (shown_crossings crossings)) → OnOk printed (Appends (contents mid) (contents new) (output detail (shown_refusal outcome))) → OnOk printed (GoesOn outcome)
    → (printed ≡ Err fault.OutOfMemory → Halts outcome × (new ≡ mid)) → PrintEnds detail crossings outcome printed a (contents new)
print_ends contents detail crossings outcome (Ok done) a mid new crossed refusal goes memory = (
  goes,
  subst (Appends a (contents new)) (sym (output-append detail (shown_crossings crossings) (shown_refusal outcome)))
      (Appends-trans a (contents mid) (contents new) (output detail (shown_crossings crossings)) (output detail (shown_refusal outcome)) crossed refusal),
)
print_ends contents detail crossings outcome (Err fault.OutOfMemory) a mid new crossed refusal goes memory =
    let out = memory refl in
    (out.0, subst (λ w. Appends a (contents w) (output detail (shown_crossings crossings))) (sym out.1) crossed)
print_ends contents detail crossings outcome (Err fault.CannotWrite) a mid new crossed refusal goes memory = tt

-- what a log gained is what follows the crossings of before
pub gained : (old new : Seen) (before after : List Crossing) → Grew old new → before ≡ reverse old.log → after ≡ reverse new.log → new.log ≡ reverse (drop (length before) after) ++ old.log
gained old new before after grew was is =
    let back : after ≡ before ++ reverse grew.crossings =
    is ∙ ap reverse grew.grown ∙ reverse-append grew.crossings old.log ∙ ap (λ xs. xs ++ reverse grew.crossings) (sym was) in
    let fresh : drop (length before) after ≡ reverse grew.crossings = ap (drop (length before)) back ∙ drop_at before (reverse grew.crossings) (length before) refl in
    grew.grown ∙ ap (λ cs. cs ++ old.log) (sym (reverse-reverse grew.crossings) ∙ ap reverse (sym fresh))

-- nothing is gained where the log is unchanged
none_gained : (old new : Seen) (before after : List Crossing) → new.log ≡ old.log → before ≡ reverse old.log → after ≡ reverse new.log → drop (length before) after ≡ []
none_gained old new before after same was is =
    let one : after ≡ before = is ∙ ap reverse same ∙ sym was in
    ap (drop (length before)) one ∙ drop_all (length before) before (omega arith)

-- one event: its crossings, and then its refusal
event_writes : {C : Type 0} (calls : Calls C) (detail : Detail) (old new : C) (e : RawEvent) (r : Result (Unit {0}) CarrierFault) (crossings : List Crossing) (a b : Option (List ℕ))
    → EventGives calls old e r new → GoesOn r → (calls.seen new).log ≡ reverse crossings ++ (calls.seen old).log → Appends a b (output detail (shown_crossings crossings ++ shown_refusal r)) → Writes detail (Happens calls old e new) a b
event_writes calls detail old new e r crossings a b gives goes_on grown written = record {
  shown = shown_crossings crossings ++ shown_refusal r;
  is_shown = record { outcome = r; gives = gives; goes_on = goes_on; crossings = crossings; grown = grown; lines = refl };
  written = written;
}

halted_log : (r : Result (Unit {0}) CarrierFault) (old new : Seen) → Halts r → IfErr r (λ f. new.log ≡ old.log) → new.log ≡ old.log
halted_log (Ok done) old new halts same = absurd halts
halted_log (Err f) old new halts same = same

-- an event of one call ends as its printing ends
pub call_ends : {C : Type 0} (calls : Calls C) (detail : Detail) (old new : C) (e : RawEvent) (r : Result (Unit {0}) CarrierFault) (printed : Result (Unit {0}) ReplayFault) (before after : List Crossing) (a b : Option (List ℕ))
    → BeginsWith e e → EventGives calls old e r new → Grew (calls.seen old) (calls.seen new) → IfErr r (λ f. (calls.seen new).log ≡ (calls.seen old).log)
    → before ≡ reverse (calls.seen old).log → after ≡ reverse (calls.seen new).log
    → PrintEnds detail (drop (length before) after) r printed a b → EventEnds calls detail old e printed new a b
call_ends calls detail old new e r (Ok done) before after a b whole gives grew same was is h =
    event_writes calls detail old new e r (drop (length before) after) a b gives h.0 (gained (calls.seen old) (calls.seen new) before after grew was is) h.1
call_ends calls detail old new e r (Err fault.OutOfMemory) before after a b whole gives grew same was is h =
    let none : drop (length before) after ≡ [] = none_gained (calls.seen old) (calls.seen new) before after (halted_log r (calls.seen old) (calls.seen new) h.0 same) was is in
    record {
      shown = [];
      is_shown = record { runs_out = inr (r, gives, h.0); crossings = []; grown = halted_log r (calls.seen old) (calls.seen new) h.0 same; lines = refl; no_lines = λ one. refl };
      written = subst (λ cs. Appends a b (output detail (shown_crossings cs))) none h.1;
    }
call_ends calls detail old new e r (Err fault.CannotWrite) before after a b whole gives grew same was is h =
    ([], record { processed = e; begins = whole; outcome = r; gives = gives; unknown = refl })

-- what an event shows is what its log gained
pub happens_shows : {C : Type 0} (calls : Calls C) (old new : C) (e : RawEvent) (shown : List Shown) → Happens calls old e new shown
    → (calls.seen new).log ≡ reverse (crossings_of shown) ++ (calls.seen old).log
happens_shows calls old new e shown h =
    let all : crossings_of shown ≡ h.crossings = ap crossings_of h.lines ∙ crossings_shown h.crossings h.outcome in
    h.grown ∙ ap (λ cs. reverse cs ++ (calls.seen old).log) (sym all)

pub on_ok : {T E P Q : Type 0} (r : Result T E) → (P → Q) → OnOk r P → OnOk r Q
on_ok (Ok x) f p = f p
on_ok (Err e) f p = tt
