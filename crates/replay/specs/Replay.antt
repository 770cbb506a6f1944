-- A script's events over a carrier, whatever it is made of.
use Rattle.std.specs.Prelude.{◌≡◌, ℕ, zero, suc, true, false, ◌||◌, if◌then◌else◌, ◌⊎◌, ◌≤◌, List, [], ◌∷◌, ◌++◌, Option, Some, None, Result, Ok, Err, reverse}
use Rattle.interface.specs.Host.{Host}
use Rattle.interface.specs.Calls.{Calls, is_halt, is_memory}
use Rattle.interface.specs.declared.CarrierFault.{CarrierFault}
use Rattle.interface.specs.declared.Inbound.{Inbound}
use Rattle.interface.specs.declared.crossing.Crossing.{Crossing}
use Rattle.replay.specs.InTurn.{EndsInTurn, InTurn}
use Rattle.replay.specs.Output.{Shown, shown_crossings, shown_refusal}
use Rattle.script.specs.declared.event.RawEvent.{RawEvent}
use Rattle.script.specs.declared.event.RawEvent.TheVariants as event

-- a taking's refusal, where it was refused
abbrev pub outcome_of : Result (Option Inbound) CarrierFault → Result (Unit {0}) CarrierFault
outcome_of (Ok taken) = Ok tt
outcome_of (Err e) = Err e

-- ---- a calm: rounds in which nothing is done to the network, and its hosts take what comes

-- how a part of a calm may go: the carrier before, the fault that ended it, if memory ran out, and the carrier after
abbrev pub Part : Type 0 → Type 1
Part C = C → Result (Unit {0}) CarrierFault → C → Type 0

abbrev pub Nothing : {C : Type 0} → Part C
Nothing old r new = (r ≡ Ok tt) × (new ≡ old)

-- where memory ran out in the first part, the next one doesn't begin
abbrev pub Onward : {C : Type 0} → Part C → Result (Unit {0}) CarrierFault → Part C
Onward Next (Ok done) mid r new = Next mid r new
Onward Next (Err f) mid r new = (r ≡ Err f) × (new ≡ mid)

-- one part, and then the next
abbrev pub Chain : {C : Type 0} → Part C → Part C → Part C
Chain {C} First Next old r new = (first : Result (Unit {0}) CarrierFault) × (mid : C) × First old first mid × Onward Next first mid r new

-- a calm continues after a refusal and doesn't report it, but ends when memory runs out
abbrev pub calmly : Result (Unit {0}) CarrierFault → Result (Unit {0}) CarrierFault
calmly (Ok done) = Ok done
calmly (Err f) = if is_halt f || is_memory f then Err f else Ok tt

-- after a taking that gave something, and after any other
abbrev pub IfGiven : Result (Option Inbound) CarrierFault → Type 0 → Type 0 → Type 0
IfGiven (Ok (Some given)) More End = More
IfGiven (Ok None) More End = End
IfGiven (Err f) More End = End

-- a host takes until nothing waits for it, until it is refused, or this many times
abbrev pub Takings : {C : Type 0} → Calls C → Host → ℕ → Part C
Takings {C} calls h zero old r new = Nothing old r new
Takings {C} calls h (suc times) old r new =
    (answer : Result (Option Inbound) CarrierFault) × (mid : C) × calls.takes old h answer mid
    × IfGiven answer (Takings calls h times mid r new) ((r ≡ calmly (outcome_of answer)) × (new ≡ mid))

-- these hosts take one after the other, each 16 times at most
abbrev pub AllTake : {C : Type 0} → Calls C → List Host → Part C
AllTake {C} calls [] old r new = Nothing old r new
AllTake {C} calls (h ∷ hosts) old r new = Chain (Takings calls h 16) (AllTake calls hosts) old r new

-- a quiet round of the network
abbrev pub Quiet : {C : Type 0} → Calls C → Part C
Quiet {C} calls old r new = (answer : Result (Unit {0}) CarrierFault) × calls.rounds old answer new × (r ≡ calmly answer)

-- a round of a calm: a quiet round, and then all hosts take, in order of IMP and host; one that is down is refused
abbrev pub Round : {C : Type 0} → Calls C → Part C
Round calls old r new = Chain (Quiet calls) (AllTake calls (calls.seen old).hosts) old r new

-- this many rounds
abbrev pub Rounds : {C : Type 0} → Calls C → ℕ → Part C
Rounds {C} calls zero old r new = Nothing old r new
Rounds {C} calls (suc times) old r new = Chain (Round calls) (Rounds calls times) old r new

-- ---- events

-- how one event may go: the carrier before, the event, whether it was refused, and the carrier after
abbrev pub EventGives : {C : Type 0} → Calls C → C → RawEvent → Result (Unit {0}) CarrierFault → C → Type 0
EventGives calls old (event.Out m) r new = calls.offers old m r new
EventGives calls old (event.Take h) r new = (answer : Result (Option Inbound) CarrierFault) × calls.takes old h answer new × (r ≡ outcome_of answer)
EventGives calls old (event.Net e) r new = calls.steps old e r new
EventGives calls old (event.Calm rounds) r new = Rounds calls rounds old r new

-- a replay continues after an event that was done and after one that was refused, but not after memory has run out
abbrev pub GoesOn : Result (Unit {0}) CarrierFault → Type 0
GoesOn (Ok done) = Unit {0}
GoesOn (Err f) = (is_halt f || is_memory f) ≡ false

-- running out of memory has stopped the carrier, now or earlier
abbrev pub Halts : Result (Unit {0}) CarrierFault → Type 0
Halts (Ok done) = ⊥
Halts (Err f) = (is_halt f || is_memory f) ≡ true

-- one event happens, refused or not, and shows what crossed, oldest first, and then its refusal
pub record Happens {C : Type 0} (calls : Calls C) (old : C) (e : RawEvent) (new : C) (shown : List Shown) : Type 0 where
  pub outcome : Result (Unit {0}) CarrierFault
  pub gives : EventGives calls old e outcome new
  pub goes_on : GoesOn outcome
  pub crossings : List Crossing
  pub grown : (calls.seen new).log ≡ reverse crossings ++ (calls.seen old).log
  pub lines : shown ≡ shown_crossings crossings ++ shown_refusal outcome

-- the events happen one after the other, and show these lines together
abbrev pub Replays : {C : Type 0} → Calls C → C → List RawEvent → C → List Shown → Type 0
Replays calls old events new shown = InTurn (Happens calls) old events new shown

-- ---- a replay that ends early, in one of its events

-- the first rounds of a calm; any other event is whole
abbrev pub BeginsWith : RawEvent → RawEvent → Type 0
BeginsWith (event.Out m) first = first ≡ event.Out m
BeginsWith (event.Take h) first = first ≡ event.Take h
BeginsWith (event.Net e) first = first ≡ event.Net e
BeginsWith (event.Calm rounds) first = (fewer : ℕ) × (first ≡ event.Calm fewer) × (fewer ≤ rounds)

-- the carrier processed this event, or the first rounds of a calm, and may have answered anything; how much was written of
-- what it showed only the writer knows
pub record MayDo {C : Type 0} (calls : Calls C) (old : C) (e : RawEvent) (new : C) (shown : List Shown) : Type 0 where
  pub processed : RawEvent
  pub begins : BeginsWith e processed
  pub outcome : Result (Unit {0}) CarrierFault
  pub gives : EventGives calls old processed outcome new
  pub unknown : shown ≡ []

-- a message is copied before it is offered; no other event takes memory outside of the carrier
abbrev pub IsCopied : RawEvent → Type 0
IsCopied (event.Out m) = Unit {0}
IsCopied (event.Take h) = ⊥
IsCopied (event.Net e) = ⊥
IsCopied (event.Calm rounds) = ⊥

-- a calm is many calls of the carrier, and any other event one
abbrev pub IsOneCall : RawEvent → Type 0
IsOneCall (event.Out m) = Unit {0}
IsOneCall (event.Take h) = Unit {0}
IsOneCall (event.Net e) = Unit {0}
IsOneCall (event.Calm rounds) = ⊥

-- memory ran out: before the carrier saw the event's message, or in the carrier, which stopped
abbrev pub RunsOut : {C : Type 0} → Calls C → C → RawEvent → C → Type 0
RunsOut calls old e new = (IsCopied e × (new ≡ old)) ⊎ ((outcome : Result (Unit {0}) CarrierFault) × EventGives calls old e outcome new × Halts outcome)

-- memory ran out at this event: a calm shows what crossed before that, and a single call nothing
pub record StopsIn {C : Type 0} (calls : Calls C) (old : C) (e : RawEvent) (new : C) (shown : List Shown) : Type 0 where
  pub runs_out : RunsOut calls old e new
  pub crossings : List Crossing
  pub grown : (calls.seen new).log ≡ reverse crossings ++ (calls.seen old).log
  pub lines : shown ≡ shown_crossings crossings
  pub no_lines : IsOneCall e → shown ≡ []

-- the events before the last one happened, the last one went as is said, and these lines were shown by then
abbrev pub EndsIn : {C : Type 0} → Calls C → (Calls C → C → RawEvent → C → List Shown → Type 0) → C → List RawEvent → C → List Shown → Type 0
EndsIn calls Goes old events new shown = EndsInTurn (Happens calls) (Goes calls) old events new shown
