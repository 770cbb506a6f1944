-- When a life begins and by what it is over: its requests, its CLS, resets and stops among what crosses, and the contacts of its host (NIC 8246: RTS, STR, CLS,
-- RST and RRP).
use Rattle.std.specs.Prelude.{◌≡◌, ℕ, ◌==◌, ◌&&◌, ◌||◌, Bool, true, false, not, if◌then◌else◌, List, [], ◌∷◌, length}
use Rattle.std.specs.List.{list_any}
use Rattle.interface.specs.Host.{Host, same_host}
use Rattle.interface.specs.Mailboxes.{same_flow}
use Rattle.interface.specs.declared.crossing.Answer.{Answer}
use Rattle.interface.specs.declared.crossing.Answer.TheVariants as answer
use Rattle.interface.specs.declared.crossing.Crossing.{Crossing}
use Rattle.interface.specs.declared.crossing.Crossing.TheVariants as crossing
use Rattle.ncp_control.specs.declared.command.Command.{Command}
use Rattle.ncp_control.specs.declared.command.Command.TheVariants as command
use Rattle.host_pairs.specs.Control.{Legal, Order, Wrong, orders_of}
use Rattle.promise.specs.Fates.{IsBeside}
use Rattle.promise.specs.Safe.{control_flow}
use Rattle.promise.specs.declared.book.Called.{Called}
use Rattle.promise.specs.declared.life.Fate.{Fate}
use Rattle.promise.specs.declared.life.Fate.TheVariants as fate
use Rattle.promise.specs.declared.life.Life.{Life}

-- ---- how far a life is

-- by what it is over: all connections with its peer were dropped, its host stopped, or both CLS of its sockets crossed, its host's own first or its partner's
pub data Cause : Type 0 where
  Dropped : Cause
  Stopped : Cause
  Closed : (own_first : Bool) → Cause

-- first some of its two requests have crossed, and it begins with the second of them. Then some of its two CLS have crossed, until it is over, at a place
pub data Stage : Type 0 where
  Asking : (own partner : Bool) → Stage
  Going : (own partner : Bool) → Stage
  Over : (cause : Cause) → (place : ℕ) → Stage

-- its own request crosses, or its partner's
abbrev pub own_asked : Stage → Stage
own_asked (Asking own partner) = if partner then Going false false else Asking true false
own_asked s = s

abbrev pub partner_asked : Stage → Stage
partner_asked (Asking own partner) = if own then Going false false else Asking false true
partner_asked s = s

-- its own CLS crosses, or its partner's: the second of the two ends it
abbrev pub own_closed : ℕ → Stage → Stage
own_closed place (Going own partner) = if partner then Over (Closed false) place else Going true false
own_closed place s = s

abbrev pub partner_closed : ℕ → Stage → Stage
partner_closed place (Going own partner) = if own then Over (Closed true) place else Going false true
partner_closed place s = s

-- its connections are dropped, or its host stops
abbrev pub cut : Cause → ℕ → Stage → Stage
cut cause place (Going own partner) = Over cause place
cut cause place s = s

-- one of its requests has crossed, and the other hasn't
abbrev pub is_half : Stage → Bool
is_half (Asking own partner) = own || partner
is_half s = false

-- its stage; whether its host owes its peer an RRP, as it does from an RST that it takes until an RRP goes out, and not where it stops or starts; and whether a CLS, a reset or a stop
-- came between its requests
pub record Course : Type 0 where
  pub stage : Stage
  pub owes : Bool
  pub early : Bool

-- a CLS, a reset or a stop comes
abbrev pub ended_by : (Stage → Stage) → Course → Course
ended_by change k = record k { stage = change k.stage; early = k.early || is_half k.stage }

-- ---- commands

-- a request of two sockets, its sender's own and the foreign one; and a CLS of them
abbrev pub asks_for : ℕ → ℕ → Command → Bool
asks_for own foreign (command.Rts receive send link) = receive == own && send == foreign
asks_for own foreign (command.Str send receive size) = send == own && receive == foreign
asks_for own foreign c = false

abbrev pub closes : ℕ → ℕ → Command → Bool
closes own foreign (command.Cls mine yours) = mine == own && yours == foreign
closes own foreign c = false

-- its host sends a command of its connections, at a place: its own request is the first of its sockets at its own stamp
abbrev pub own_step : Life → ℕ → Command → Course → Course
own_step x place c k =
    if asks_for x.socket x.foreign c && place == x.own_stamp then record k { stage = own_asked k.stage }
    else (if closes x.socket x.foreign c then ended_by (own_closed place) k else k)

-- it takes one of its peer's
abbrev pub partner_step : Life → ℕ → Command → Course → Course
partner_step x place c k =
    if asks_for x.foreign x.socket c && place == x.partner_stamp then record k { stage = partner_asked k.stage }
    else (if closes x.foreign x.socket c then ended_by (partner_closed place) k else k)

-- RST goes out, or an RRP that isn't owed: all connections with the peer are dropped
abbrev pub said : Life → ℕ → Command → Course → Course
said x place command.Rst k = ended_by (cut Dropped place) k
said x place command.Rrp k = record (if k.owes then k else ended_by (cut Dropped place) k) { owes = false }
said x place c k = own_step x place c k

-- so they are where an RST is taken. An RRP that is taken drops nothing
abbrev pub heard : Life → ℕ → Command → Course → Course
heard x place command.Rst k = record (ended_by (cut Dropped place) k) { owes = true }
heard x place c k = partner_step x place c k

-- the commands of a text, one after another; an error says nothing
abbrev pub each : (Command → Course → Course) → List Order → Course → Course
each step [] k = k
each step (Legal c ∷ orders) k = each step orders (step c k)
each step (Wrong code octets ∷ orders) k = each step orders k

-- ---- crossings and contacts

abbrev pub fails : Answer → Bool
fails answer.Rfnm = false
fails a = true

-- what crosses at a place. A message to the peer that fails drops all connections with it, unless an RRP is owed. A host that stops or starts owes none
abbrev pub crosses : Life → ℕ → Crossing → Course → Course
crosses x place (crossing.Out m) k = if same_flow (control_flow x.host x.peer) m.flow then each (said x place) (orders_of m.text) k else k
crosses x place (crossing.In m) k = if same_flow (control_flow x.peer x.host) m.flow then each (heard x place) (orders_of m.text) k else k
crosses x place (crossing.Answer kind f) k =
    if fails kind && (same_host x.host f.source && same_host x.peer f.destination) && not k.owes then ended_by (cut Dropped place) k else k
crosses x place (crossing.Down h) k = if same_host x.host h then record (ended_by (cut Stopped place) k) { owes = false } else k
crosses x place (crossing.Up h) k = if same_host x.host h then record k { owes = false } else k

-- a contact of a life's host with its peer, when this many crossings had been
abbrev pub is_contact : Host → Host → ℕ → Called → Bool
is_contact h peer place c = same_host h c.host && same_host peer c.peer && c.place == place

-- it drops all connections with the peer
abbrev pub called : List Called → Life → ℕ → Course → Course
called contacts x place k = if list_any (is_contact x.host x.peer place) contacts then ended_by (cut Dropped place) k else k

-- after these crossings, newest first, with the contacts between them
abbrev pub course : List Called → Life → List Crossing → Course
course contacts x [] = called contacts x 0 (record { stage = Asking false false; owes = false; early = false })
course contacts x (c ∷ log) = called contacts x (length (c ∷ log)) (crosses x (length log) c (course contacts x log))

abbrev pub stage : List Called → Life → List Crossing → Stage
stage contacts x log = (course contacts x log).stage

-- ---- fates

-- the fates that a stage leaves. Who closed first doesn't cross where the partner's CLS was the first; where the own one was, a user of the life's host had closed
abbrev pub Leaves : Stage → Fate → Type 0
Leaves (Going own partner) fate.Open = own ≡ false
Leaves (Going own partner) fate.Closing = Unit {0}
Leaves (Over Dropped place) fate.Reset = Unit {0}
Leaves (Over Stopped place) fate.Stopped = Unit {0}
Leaves (Over (Closed own_first) place) fate.Closed = Unit {0}
Leaves (Over (Closed own_first) place) fate.Ended = own_first ≡ false
Leaves s f = ⊥

-- a life begins where nothing ends it between its two requests, and has a fate that its stage leaves
pub record IsLeft (contacts : List Called) (log : List Crossing) (x : Life) (f : Fate) : Type 0 where
  pub begins : (course contacts x log).early ≡ false
  pub fate : Leaves (stage contacts x log) f

abbrev pub AreLeft : List Called → List Crossing → List Life → List Fate → Type 0
AreLeft contacts log lives fates = (x : Life) (f : Fate) → IsBeside x f lives fates → IsLeft contacts log x f

-- ---- a log, in which contacts don't cross

-- one host contacted another, and since then nothing has gone out to it, nor has the host stopped
abbrev pub still_contacts : Host → Host → Crossing → Bool → Bool
still_contacts h peer (crossing.Out m) calls = calls && not (same_host h m.flow.source && same_host peer m.flow.destination)
still_contacts h peer (crossing.Down g) calls = calls && not (same_host h g)
still_contacts h peer c calls = calls

abbrev pub contacts_now : List Called → Host → Host → List Crossing → Bool
contacts_now contacts h peer [] = list_any (is_contact h peer 0) contacts
contacts_now contacts h peer (c ∷ log) = list_any (is_contact h peer (length (c ∷ log))) contacts || still_contacts h peer c (contacts_now contacts h peer log)

-- what goes out next after a contact is an RST
abbrev pub AreContacts : List Called → List Crossing → Type 0
AreContacts contacts [] = Unit {0}
AreContacts contacts (crossing.Out m ∷ log) =
    (contacts_now contacts m.flow.source m.flow.destination log ≡ true → (m.flow.link.0 ≡ 0) × (orders_of m.text ≡ Legal command.Rst ∷ [])) × AreContacts contacts log
AreContacts contacts (c ∷ log) = AreContacts contacts log

-- some contacts leave the lives their fates
pub record CanBeLeft (log : List Crossing) (lives : List Life) (fates : List Fate) : Type 0 where
  pub contacts : List Called
  pub are : AreContacts contacts log
  pub left : AreLeft contacts log lives fates
