-- An elementary event is handed to the carrier, and its line is printed.
use Rattle.trace.proofs.Common.{◌≡◌, ℕ, List, [], ◌∷◌, ◌++◌, drop, length, reverse, Option, Result, refl, sym, ap, ◌∙◌, subst, Appends, Host, Crossing, Shown, shown_crossings, shown_refusal, ended_line, RawEvent, AllParts, Element, Spot, Called, trace_line, HasHappened, Inside, StopsElement, TellsElement, WritesTrace, change_text}
use Rattle.std.proofs.lemmas.List.{append-nil}
use Rattle.interface.specs.Calls.{Calls, ShowsOffer, ShowsTake}
use Rattle.interface.specs.declared.CarrierFault.{CarrierFault}
use Rattle.interface.specs.declared.HostMessage.{HostMessage}
use Rattle.interface.specs.declared.Inbound.{Inbound}
use Rattle.replay.specs.Replay.{BeginsWith, GoesOn, Happens, IsOneCall, MayDo, outcome_of}
use Rattle.replay.proofs.lemmas.{appends_none, gained, grew_offer, grew_take, refused_offer, refused_take}
use Rattle.script.specs.declared.event.RawEvent.TheVariants as event

-- ---- the call

pub called_offer : {C : Type 0} (calls : Calls C) (old new : C) (m : HostMessage) (r : Result (Unit {0}) CarrierFault) → calls.offers old m r new → ShowsOffer (calls.seen old) m r (calls.seen new) → Called calls old (event.Out m) r new
called_offer calls old new m r gives shown = record { gives = gives; grew = grew_offer _ m r _ shown; refused = refused_offer _ m r _ shown }

pub called_take : {C : Type 0} (calls : Calls C) (old new : C) (h : Host) (answer : Result (Option Inbound) CarrierFault) → calls.takes old h answer new → ShowsTake (calls.seen old) h answer (calls.seen new) → Called calls old (event.Take h) (outcome_of answer) new
called_take calls old new h answer gives shown = record { gives = (answer, gives, refl); grew = grew_take _ h answer _ shown; refused = refused_take _ h answer _ shown }

-- ---- what it changes

-- as it happens in a replay
pub happens : {C : Type 0} (calls : Calls C) (members : C → AllParts) (texts : AllParts) (e : RawEvent) (crossings : List Crossing) (r : Result (Unit {0}) CarrierFault) (new : C) → (h : HasHappened calls members texts e crossings r new)
    → Happens calls h.old e new (shown_crossings crossings ++ shown_refusal r)
happens calls members texts e crossings r new h = record { outcome = r; gives = h.gives; goes_on = h.goes_on; crossings = crossings; grown = h.grown; lines = refl }

-- ---- its line

pub tells : {C : Type 0} (calls : Calls C) (inside : Inside C) (spot : Spot) (old new : C) (x : Element) (r : Result (Unit {0}) CarrierFault) (before after : List Crossing) (parts : List ℕ) (a b : Option (List ℕ))
    → Called calls old x.event r new → GoesOn r → before ≡ reverse (calls.seen old).log → after ≡ reverse (calls.seen new).log → parts ≡ change_text inside old new
    → Appends a b (ended_line (trace_line spot x (inside.fate old x.event) (shown_crossings (drop (length before) after) ++ shown_refusal r) parts))
    → WritesTrace (TellsElement calls inside spot old x new) a b
tells calls inside spot old new x r before after parts a b called goes was is changed written =
    let cs : List Crossing = drop (length before) after in
    let shown : List Shown = shown_crossings cs ++ shown_refusal r in
    let happened : Happens calls old x.event new shown =
    record { outcome = r; gives = called.gives; goes_on = goes; crossings = cs; grown = gained _ _ before after called.grew was is; lines = refl } in
    let line : List ℕ = trace_line spot x (inside.fate old x.event) shown (change_text inside old new) in
    let same : ended_line (trace_line spot x (inside.fate old x.event) shown parts) ≡ ended_line line ++ [] =
    ap (λ (changes : List ℕ). ended_line (trace_line spot x (inside.fate old x.event) shown changes)) changed ∙ sym (append-nil (ended_line line)) in
    record { shown = line ∷ []; is_shown = (shown, happened, refl); written = subst (Appends a b) same written }

-- memory ran out, and there is no line
pub stops : {C : Type 0} (calls : Calls C) (old new : C) (x : Element) (a : Option (List ℕ)) → StopsElement calls old x new [] → WritesTrace (StopsElement calls old x new) a a
stops calls old new x a h = record { shown = []; is_shown = h; written = appends_none a }

-- in the call, or for the line
begins_whole : (e : RawEvent) → IsOneCall e → BeginsWith e e
begins_whole (event.Out m) one = refl
begins_whole (event.Take h) one = refl
begins_whole (event.Net e) one = refl
begins_whole (event.Calm rounds) one = absurd one

pub may_do : {C : Type 0} (calls : Calls C) (old new : C) (e : RawEvent) (r : Result (Unit {0}) CarrierFault) → IsOneCall e → Called calls old e r new → MayDo calls old e new []
may_do calls old new e r one called = record { processed = e; begins = begins_whole e one; outcome = r; gives = called.gives; unknown = refl }
