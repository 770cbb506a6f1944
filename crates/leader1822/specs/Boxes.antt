-- The plainest carrier: each host has a queue of the messages that wait for it, and a queue of the answers that wait for it.
-- Only what is given up, and what waits for a host that stops, is lost.
use Rattle.std.specs.Prelude.{◌≡◌, Bool, true, false, not, List, [], ◌∷◌, ◌++◌, Option, Some, None, Result, Ok, Err, if◌then◌else◌, ◌&&◌, ◌||◌, filter, is_some, unwrap_or}
use Rattle.std.specs.List.{list_any}
use Rattle.std.specs.FinMap as map
use Rattle.interface.specs.Host.{Host, same_host, is_host, host_cmp}
use Rattle.interface.specs.Mailboxes.{same_flow}
use Rattle.interface.specs.Calls.{Calls, Seen}
use Rattle.interface.specs.declared.address.Flow.{Flow}
use Rattle.interface.specs.declared.carrier.CarrierFault.{CarrierFault}
use Rattle.interface.specs.declared.carrier.CarrierFault.TheVariants as fault
use Rattle.interface.specs.declared.crossing.Answer.{Answer}
use Rattle.interface.specs.declared.crossing.Answer.TheVariants as answer
use Rattle.interface.specs.declared.crossing.Crossing.{Crossing}
use Rattle.interface.specs.declared.crossing.Crossing.TheVariants as crossing
use Rattle.interface.specs.declared.crossing.Inbound.{Inbound}
use Rattle.interface.specs.declared.crossing.Inbound.TheVariants as inbound
use Rattle.interface.specs.declared.event.NetEvent.{NetEvent}
use Rattle.interface.specs.declared.event.NetEvent.TheVariants as event
use Rattle.interface.specs.declared.message.HostMessage.{HostMessage}

-- an answer that waits for the source of its flow
abbrev pub WaitingAnswer : Type 0
WaitingAnswer = Answer × Flow

-- a queue for each host, oldest first; a host for which nothing waits isn't in it
abbrev pub Queues : Type 0 → Type 0
Queues A = map.FinMap host_cmp (List A)

-- the hosts, those of them that are down, the messages and the answers that wait for each, the log (newest first), and
-- whether running out of memory has stopped it all
pub record Boxes : Type 0 where
  pub hosts : List Host
  pub down : List Host
  pub messages : Queues HostMessage
  pub answers : Queues WaitingAnswer
  pub log : List Crossing
  pub stopped : Bool

-- between hosts that are all up, with nothing in transit
abbrev pub opening_boxes : List Host → Boxes
opening_boxes hosts = record { hosts = hosts; down = []; messages = map.empty; answers = map.empty; log = []; stopped = false }

abbrev pub seen_of : Boxes → Seen
seen_of b = record { hosts = b.hosts; log = b.log; stopped = b.stopped }

-- ---- queues

-- what waits for a host
abbrev pub for_host : {A : Type 0} → Queues A → Host → List A
for_host queues h = unwrap_or (map.get queues h) []

-- the same queues, except for this host's
abbrev pub with_queue : {A : Type 0} → Queues A → Host → List A → Queues A
with_queue queues h [] = map.remove queues h
with_queue queues h (x ∷ xs) = map.insert queues h (x ∷ xs)

-- one more, after what waits for the host
abbrev pub queued_for : {A : Type 0} → Queues A → Host → A → Queues A
queued_for queues h x = with_queue queues h (for_host queues h ++ x ∷ [])

abbrev pub queued_if : {A : Type 0} → Bool → Queues A → Host → A → Queues A
queued_if test queues h x = if test then queued_for queues h x else queues

abbrev pub first_of_list : {A : Type 0} → List A → Option A
first_of_list [] = None
first_of_list (x ∷ xs) = Some x

abbrev pub rest : {A : Type 0} → List A → List A
rest [] = []
rest (x ∷ xs) = xs

-- ---- words

-- a host of the network that isn't down
abbrev pub is_running : List Host → List Host → Host → Bool
is_running hosts down h = is_host hosts h && not (is_host down h)

abbrev pub is_of : Flow → HostMessage → Bool
is_of f m = same_flow f m.flow

abbrev pub is_about : Flow → WaitingAnswer → Bool
is_about f a = same_flow f a.1

abbrev pub is_from : Host → HostMessage → Bool
is_from h m = same_host h m.flow.source

abbrev pub is_to : Host → HostMessage → Bool
is_to h m = same_host h m.flow.destination

abbrev pub is_told_to : Host → WaitingAnswer → Bool
is_told_to h a = same_host h a.1.source

abbrev pub is_rfnm : Answer → Bool
is_rfnm answer.Rfnm = true
is_rfnm answer.Incomplete = false
is_rfnm answer.Dead = false
is_rfnm answer.NotTaken = false

abbrev pub is_rfnm_about : Flow → WaitingAnswer → Bool
is_rfnm_about f a = is_about f a && is_rfnm a.0

-- a flow is busy while its message or an answer about it waits
abbrev pub is_busy : Boxes → Flow → Bool
is_busy b f = list_any (is_of f) (for_host b.messages f.destination) || list_any (is_about f) (for_host b.answers f.source)

-- a message of a flow is outstanding while it waits or its RFNM waits
abbrev pub is_outstanding : Boxes → Flow → Bool
is_outstanding b f = list_any (is_of f) (for_host b.messages f.destination) || list_any (is_rfnm_about f) (for_host b.answers f.source)

abbrev pub one_if : {A : Type 0} → Bool → A → List A
one_if test x = if test then x ∷ [] else []

-- ---- offering

abbrev pub offer_refusal : Boxes → Flow → Option CarrierFault
offer_refusal b f =
    if b.stopped then Some fault.Stopped
    else (if not (is_host b.hosts f.source) then Some fault.NoSuch
    else (if is_host b.down f.source then Some fault.IsDown
    else (if is_busy b f then Some fault.Blocked
    else None)))

-- the message waits for its destination; where that is down or not there, Dead waits for the source at once
abbrev pub offered : Boxes → HostMessage → Boxes
offered b m = record b {
  messages = queued_if (is_running b.hosts b.down m.flow.destination) b.messages m.flow.destination m;
  answers = queued_if (not (is_running b.hosts b.down m.flow.destination)) b.answers m.flow.source (answer.Dead, m.flow);
  log = crossing.Out m ∷ b.log;
}

-- ---- taking

-- taking, and going down, ask for a host that is up
abbrev pub host_refusal : Boxes → Host → Option CarrierFault
host_refusal b h =
    if b.stopped then Some fault.Stopped
    else (if not (is_host b.hosts h) then Some fault.NoSuch
    else (if is_host b.down h then Some fault.IsDown
    else None))

abbrev pub inbound_of : WaitingAnswer → Inbound
inbound_of a = inbound.Answer a.0 a.1

-- what a host takes next: the oldest answer that waits for it, else the oldest message, else nothing
abbrev pub answer_first : Option WaitingAnswer → Option HostMessage → Option Inbound
answer_first (Some a) m = Some (inbound_of a)
answer_first None (Some m) = Some (inbound.Message m)
answer_first None None = None

abbrev pub next_for : Boxes → Host → Option Inbound
next_for b h = answer_first (first_of_list (for_host b.answers h)) (first_of_list (for_host b.messages h))

-- what is left after a host took this. After a message, an RFNM waits for its source, if that is up
abbrev pub inbound_taken : Boxes → Host → Option Inbound → Boxes
inbound_taken b h None = b
inbound_taken b h (Some (inbound.Answer kind f)) = record b {
  answers = with_queue b.answers h (rest (for_host b.answers h));
  log = crossing.Answer kind f ∷ b.log;
}
inbound_taken b h (Some (inbound.Message m)) = record b {
  messages = with_queue b.messages h (rest (for_host b.messages h));
  answers = queued_if (is_running b.hosts b.down m.flow.source) b.answers m.flow.source (answer.Rfnm, m.flow);
  log = crossing.In m ∷ b.log;
}

-- ---- events

-- Giving up asks for a source that is a host of the network, and for something outstanding: a message of the flow or its
-- RFNM waits. A flow whose Dead or Incomplete waits has nothing outstanding any more
abbrev pub give_up_refusal : Boxes → Flow → Option CarrierFault
give_up_refusal b f =
    if b.stopped then Some fault.Stopped
    else (if not (is_host b.hosts f.source) then Some fault.NoSuch
    else (if not (is_outstanding b f) then Some fault.NotOutstanding
    else None))

-- the message leaves its queue, its RFNM is withdrawn, and Incomplete waits for the source, if that is up
abbrev pub given_up : Boxes → Flow → Boxes
given_up b f = record b {
  messages = with_queue b.messages f.destination (filter (λ m. not (is_of f m)) (for_host b.messages f.destination));
  answers = with_queue b.answers f.source (filter (λ a. not (is_rfnm_about f a)) (for_host b.answers f.source) ++ one_if (not (is_host b.down f.source)) (answer.Incomplete, f));
}

-- each of these messages gives its source Dead, if that is up
abbrev pub told_dead : List Host → List Host → Queues WaitingAnswer → List HostMessage → Queues WaitingAnswer
told_dead hosts down answers [] = answers
told_dead hosts down answers (m ∷ ms) = told_dead hosts down (queued_if (is_running hosts down m.flow.source) answers m.flow.source (answer.Dead, m.flow)) ms

-- What waits for the host is cleared, and each message of it gives its source Dead, if that is up. The host itself counts as
-- down by then
abbrev pub host_stopped : Boxes → Host → Boxes
host_stopped b h = record b {
  down = b.down ++ h ∷ [];
  messages = with_queue b.messages h [];
  answers = told_dead b.hosts (b.down ++ h ∷ []) (with_queue b.answers h []) (for_host b.messages h);
  log = crossing.Down h ∷ b.log;
}

-- a message from the host waits for one of the hosts
abbrev pub is_unsettled : Boxes → Host → Bool
is_unsettled b h = list_any (λ g. list_any (is_from h) (for_host b.messages g)) b.hosts

-- a host comes up only when no message of its own waits any more
abbrev pub host_up_refusal : Boxes → Host → Option CarrierFault
host_up_refusal b h =
    if b.stopped then Some fault.Stopped
    else (if not (is_host b.hosts h) then Some fault.NoSuch
    else (if not (is_host b.down h) then Some fault.IsUp
    else (if is_unsettled b h then Some fault.Unsettled
    else None)))

abbrev pub host_started : Boxes → Host → Boxes
host_started b h = record b {
  down = filter (λ g. not (same_host h g)) b.down;
  log = crossing.Up h ∷ b.log;
}

abbrev pub no_event_refusal : Bool → Option CarrierFault
no_event_refusal stopped = if stopped then Some fault.Stopped else Some fault.NoSuch

-- the first refusal of an event; plain mailboxes have only these three
abbrev pub step_refusal : Boxes → NetEvent → Option CarrierFault
step_refusal b (event.GiveUp f) = give_up_refusal b f
step_refusal b (event.HostDown h) = host_refusal b h
step_refusal b (event.HostUp h) = host_up_refusal b h
step_refusal b e = no_event_refusal b.stopped

-- what an event leaves, where it is not refused
abbrev pub stepped : Boxes → NetEvent → Boxes
stepped b (event.GiveUp f) = given_up b f
stepped b (event.HostDown h) = host_stopped b h
stepped b (event.HostUp h) = host_started b h
stepped b e = b

-- ---- memory

-- a taking that gives something puts it on the log
abbrev pub take_grows : Boxes → Host → Bool
take_grows b h = is_some (next_for b h)

-- giving up puts Incomplete beside the answers that wait, unless the source is down or an RFNM gives way to it
abbrev pub give_up_grows : Boxes → Flow → Bool
give_up_grows b f = not (is_host b.down f.source) && not (list_any (is_rfnm_about f) (for_host b.answers f.source))

-- whether an event, where it is not refused, makes what is kept longer: a host that stops or starts is put on the log
abbrev pub step_grows : Boxes → NetEvent → Bool
step_grows b (event.GiveUp f) = give_up_grows b f
step_grows b (event.HostDown h) = true
step_grows b (event.HostUp h) = true
step_grows b e = false

-- ---- the calls

-- After memory has run out hosts and log are as before. Nothing is said of what waits, since nothing is ever taken again
pub record HasHalted (old new : Boxes) : Type 0 where
  pub hosts : new.hosts ≡ old.hosts
  pub log : new.log ≡ old.log
  pub stopped : new.stopped ≡ true

-- a call that is refused for `refusal`, and else gives a value with this property; it may run out of memory only if it is not
-- refused and `grows` is true
abbrev pub BoxesDecided : {T : Type 0} → Option CarrierFault → Bool → (T → Type 0) → Boxes → Result T CarrierFault → Boxes → Type 0
BoxesDecided refusal grows Gives old (Ok x) new = (refusal ≡ None) × Gives x
BoxesDecided refusal grows Gives old (Err fault.OutOfMemory) new = (refusal ≡ None) × (grows ≡ true) × HasHalted old new
BoxesDecided refusal grows Gives old (Err e) new = (refusal ≡ Some e) × (new ≡ old)

-- an offer that is not refused always grows: the message is put on the log
abbrev pub BoxesOffer : Boxes → HostMessage → Result (Unit {0}) CarrierFault → Boxes → Type 0
BoxesOffer old m r new = BoxesDecided (offer_refusal old m.flow) true (λ done. new ≡ offered old m) old r new

abbrev pub BoxesTake : Boxes → Host → Result (Option Inbound) CarrierFault → Boxes → Type 0
BoxesTake old h r new = BoxesDecided (host_refusal old h) (take_grows old h) (λ o. (o ≡ next_for old h) × (new ≡ inbound_taken old h o)) old r new

abbrev pub BoxesStep : Boxes → NetEvent → Result (Unit {0}) CarrierFault → Boxes → Type 0
BoxesStep old e r new = BoxesDecided (step_refusal old e) (step_grows old e) (λ done. new ≡ stepped old e) old r new

-- nothing is in transit, so a quiet round changes nothing
abbrev pub BoxesRound : Boxes → Result (Unit {0}) CarrierFault → Boxes → Type 0
BoxesRound old (Ok done) new = (old.stopped ≡ false) × (new ≡ old)
BoxesRound old (Err e) new = (old.stopped ≡ true) × (e ≡ fault.Stopped) × (new ≡ old)

abbrev pub plain_calls : Calls Boxes
plain_calls = record { seen = seen_of; offers = BoxesOffer; takes = BoxesTake; steps = BoxesStep; rounds = BoxesRound }
