-- What of a log may change how far a life is, and how far it is by that. No public clause cites this file.
use Rattle.std.specs.Prelude.{◌≡◌, ℕ, ◌+◌, ◌==◌, ◌&&◌, ◌||◌, Bool, true, false, not, if◌then◌else◌, List}
use Rattle.std.specs.Prelude.{[], ◌∷◌, ◌++◌, length, drop, Option, Some, None}
use Rattle.interface.specs.Host.{Host, same_host}
use Rattle.interface.specs.declared.crossing.Crossing.{Crossing}
use Rattle.interface.specs.declared.crossing.Crossing.TheVariants as crossing
use Rattle.interface.specs.declared.message.HostMessage.{HostMessage}
use Rattle.ncp_control.specs.declared.command.Command.{Command}
use Rattle.ncp_control.specs.declared.command.Command.TheVariants as command
use Rattle.host_pairs.specs.Control.{Legal, Order, Wrong, orders_of, orders_within}
use Rattle.promise.specs.Ends.{Asking, Course, Dropped, Stage, Stopped, cut, ended_by, fails, own_asked}
use Rattle.promise.specs.Ends.{own_closed, partner_asked, partner_closed}
use Rattle.promise.specs.declared.life.Fate.{Fate}
use Rattle.promise.specs.declared.life.Life.{Life}
use Rattle.book_judge.specs.Fates.{over_at, suits}
use Rattle.book_judge.specs.declared.fates.deeds.Act.{Act}
use Rattle.book_judge.specs.declared.fates.deeds.Act.TheVariants as act
use Rattle.book_judge.specs.declared.fates.deeds.Deed.{Deed}

-- ---- deeds

abbrev pub deed : ℕ → Host → Host → Act → Deed
deed place host peer a = record { place = place; host = host; peer = peer; act = a }

-- what a command is, where a host takes it or sends it; most change nothing
abbrev pub act_of : Bool → Command → Option Act
act_of comes (command.Rts receive send link) = Some (act.Asks comes receive send)
act_of comes (command.Str send receive size) = Some (act.Asks comes send receive)
act_of comes (command.Cls own foreign) = Some (act.Closes comes own foreign)
act_of comes command.Rst = Some (act.Resets comes)
act_of false command.Rrp = Some act.Replies
act_of comes c = None

abbrev pub with_act : ℕ → Host → Host → Option Act → List Deed → List Deed
with_act place host peer None deeds = deeds
with_act place host peer (Some a) deeds = deed place host peer a ∷ deeds

-- the commands of a text
abbrev pub deeds_by : Bool → ℕ → Host → Host → List Order → List Deed
deeds_by comes place host peer [] = []
deeds_by comes place host peer (Legal c ∷ orders) =
    with_act place host peer (act_of comes c) (deeds_by comes place host peer orders)
deeds_by comes place host peer (Wrong code octets ∷ orders) = deeds_by comes place host peer orders

-- with the command that octets begin with the deeds are those of before, and this many octets are read by it
abbrev pub LeavesDeeds : Bool → ℕ → Host → Host → List ℕ → List Deed → List Deed → ℕ → Type 0
LeavesDeeds comes place host peer octets old new read =
    (more : ℕ) → old ++ deeds_by comes place host peer (orders_within (1 + more) octets)
    ≡ new ++ deeds_by comes place host peer (orders_within more (drop read octets))

-- a message that comes in, or that goes out: on link 0 it has commands
abbrev pub deeds_of : Bool → ℕ → HostMessage → List Deed
deeds_of true place m =
    if 0 == m.flow.link.0 then deeds_by true place m.flow.destination m.flow.source (orders_of m.text) else []
deeds_of false place m =
    if 0 == m.flow.link.0 then deeds_by false place m.flow.source m.flow.destination (orders_of m.text) else []

-- what crosses at a place
abbrev pub deeds_at : ℕ → Crossing → List Deed
deeds_at place (crossing.Out m) = deeds_of false place m
deeds_at place (crossing.In m) = deeds_of true place m
deeds_at place (crossing.Answer kind f) = if fails kind then deed place f.source f.destination act.Fails ∷ [] else []
deeds_at place (crossing.Down h) = deed place h h act.Stops ∷ []
deeds_at place (crossing.Up h) = deed place h h act.Starts ∷ []

-- of crossings, the newest first; the oldest deed comes first
abbrev pub deeds_in : List Crossing → List Deed
deeds_in [] = []
deeds_in (c ∷ log) = deeds_in log ++ deeds_at (length log) c

-- ---- steps

-- the request or the CLS of two sockets, that its host sends or takes
abbrev pub asked : Bool → Stage → Stage
asked true s = partner_asked s
asked false s = own_asked s

abbrev pub closed : Bool → ℕ → Stage → Stage
closed true place s = partner_closed place s
closed false place s = own_closed place s

-- whether they are those of a life, and the place that of its request
abbrev pub is_of : Life → Bool → ℕ → ℕ → Bool
is_of x true own foreign = own == x.foreign && foreign == x.socket
is_of x false own foreign = own == x.socket && foreign == x.foreign

abbrev pub stamp : Life → Bool → ℕ
stamp x true = x.partner_stamp
stamp x false = x.own_stamp

abbrev pub acts : Life → ℕ → Act → Course → Course
acts x place (act.Asks comes own foreign) k =
    if is_of x comes own foreign && place == stamp x comes then record k { stage = asked comes k.stage } else k
acts x place (act.Closes comes own foreign) k =
    if is_of x comes own foreign then ended_by (closed comes place) k else k
acts x place (act.Resets comes) k = record (ended_by (cut Dropped place) k) { owes = comes || k.owes }
acts x place act.Replies k = record (if k.owes then k else ended_by (cut Dropped place) k) { owes = false }
acts x place act.Fails k = if k.owes then k else ended_by (cut Dropped place) k
acts x place act.Stops k = record (ended_by (cut Stopped place) k) { owes = false }
acts x place act.Starts k = record k { owes = false }

abbrev pub owes_by : Act → Bool → Bool
owes_by (act.Asks comes own foreign) owes = owes
owes_by (act.Closes comes own foreign) owes = owes
owes_by (act.Resets comes) owes = comes || owes
owes_by act.Replies owes = false
owes_by act.Fails owes = owes
owes_by act.Stops owes = false
owes_by act.Starts owes = false

-- whether this is about one peer of its host
abbrev pub has_peer : Act → Bool
has_peer act.Stops = false
has_peer act.Starts = false
has_peer a = true

abbrev pub concerns : Life → Deed → Bool
concerns x d = same_host x.host d.host && (not (has_peer d.act) || same_host x.peer d.peer)

abbrev pub step : Life → Deed → Course → Course
step x d k = if concerns x d then acts x d.place d.act k else k

-- after deeds, the oldest first
abbrev pub after : Life → List Deed → Course → Course
after x [] k = k
after x (d ∷ deeds) k = after x deeds (step x d k)

abbrev pub opening : Course
opening = record { stage = Asking false false; owes = false; early = false }

-- ---- what is known of a life

-- its stage, and whether what ends it came too early
abbrev pub Pace : Type 0
Pace = Stage × Bool

abbrev pub pace_of : Course → Pace
pace_of k = (k.stage, k.early)

-- of one whose requests haven't both crossed nothing is
abbrev pub begun_by : Bool → Stage → Option Pace
begun_by early (Asking own partner) = None
begun_by early s = Some (s, early)

abbrev pub begun_of : Pace → Option Pace
begun_of p = begun_by p.1 p.0

-- so any fate is left to it; and else one that its stage leaves, if nothing came too early
abbrev pub suits_begun : Option Pace → Fate → Bool
suits_begun None f = true
suits_begun (Some p) f = not p.1 && suits p.0 f

-- the life at a place has no fate, or one that these deeds leave it
abbrev pub suits_after : List Deed → Life → Option Fate → Bool
suits_after deeds x None = true
suits_after deeds x (Some f) = suits_begun (begun_of (pace_of (after x deeds opening))) f

-- how much had crossed when it was over; and all of as much, where it isn't
abbrev pub end_by : ℕ → Option Pace → ℕ
end_by all None = all
end_by all (Some p) = over_at all p.0

abbrev pub end_after : ℕ → List Deed → Life → ℕ
end_after all deeds x = end_by all (begun_of (pace_of (after x deeds opening)))
