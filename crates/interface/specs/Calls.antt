-- What every carrier shows of its calls, whatever it is made of.
use Rattle.std.specs.Prelude.{◌≡◌, ℕ, Bool, true, false, List, [], ◌∷◌, ◌++◌, Option, Some, None, Result, Ok, Err, if◌then◌else◌, ◌==◌, ◌&&◌, filter, map, reverse}
use Rattle.interface.specs.Host.{Host}
pub use Rattle.interface.specs.Host.{host_before, InOrder}
use Rattle.interface.specs.Mailboxes.{is_up}
use Rattle.interface.specs.declared.carrier.CarrierFault.{CarrierFault}
use Rattle.interface.specs.declared.carrier.CarrierFault.TheVariants as fault
use Rattle.interface.specs.declared.crossing.Crossing.{Crossing}
use Rattle.interface.specs.declared.crossing.Crossing.TheVariants as crossing
use Rattle.interface.specs.declared.crossing.Inbound.{Inbound}
use Rattle.interface.specs.declared.crossing.Inbound.TheVariants as inbound
use Rattle.interface.specs.declared.event.NetEvent.{NetEvent}
use Rattle.interface.specs.declared.event.NetEvent.TheVariants as event
use Rattle.interface.specs.declared.message.HostMessage.{HostMessage}

-- the hosts of the network, all crossings so far (newest first), and whether running out of memory has stopped the carrier
pub record Seen : Type 0 where
  pub hosts : List Host
  pub log : List Crossing
  pub stopped : Bool

-- the same with these crossings, newest first, on the log
abbrev pub grown : Seen → List Crossing → Seen
grown s crossings = record { hosts = s.hosts; log = crossings ++ s.log; stopped = s.stopped }

abbrev pub halted : Seen → Seen
halted s = record { hosts = s.hosts; log = s.log; stopped = true }

abbrev pub is_memory : CarrierFault → Bool
is_memory fault.OutOfMemory = true
is_memory fault.NoSuch = false
is_memory fault.StillAlive = false
is_memory fault.IsDown = false
is_memory fault.IsUp = false
is_memory fault.Unsettled = false
is_memory fault.NotOutstanding = false
is_memory fault.Blocked = false
is_memory fault.NoRoom = false
is_memory fault.Stopped = false

abbrev pub is_halt : CarrierFault → Bool
is_halt fault.Stopped = true
is_halt fault.NoSuch = false
is_halt fault.StillAlive = false
is_halt fault.IsDown = false
is_halt fault.IsUp = false
is_halt fault.Unsettled = false
is_halt fault.NotOutstanding = false
is_halt fault.Blocked = false
is_halt fault.NoRoom = false
is_halt fault.OutOfMemory = false

-- a refusal shows nothing new, except that running out of memory stops the carrier; Stopped is given exactly if it has stopped
pub record ShowsRefusal (old : Seen) (e : CarrierFault) (new : Seen) : Type 0 where
  pub when_stopped : old.stopped ≡ is_halt e
  pub shown : new ≡ (if is_memory e then halted old else old)

-- a call that succeeds comes only before a stop, and adds these crossings
pub record ShowsCrossings (old : Seen) (crossings : List Crossing) (new : Seen) : Type 0 where
  pub running : old.stopped ≡ false
  pub shown : new ≡ grown old crossings

-- offering a message: it goes out
abbrev pub ShowsOffer : Seen → HostMessage → Result (Unit {0}) CarrierFault → Seen → Type 0
ShowsOffer old m (Ok done) new = ShowsCrossings old (crossing.Out m ∷ []) new
ShowsOffer old m (Err e) new = ShowsRefusal old e new

-- taking: what is given comes in, and is for the host that takes
abbrev pub crossing_of : Inbound → Crossing
crossing_of (inbound.Message m) = crossing.In m
crossing_of (inbound.Answer kind f) = crossing.Answer kind f

abbrev pub IsFor : Host → Inbound → Type 0
IsFor h (inbound.Message m) = m.flow.destination ≡ h
IsFor h (inbound.Answer kind f) = f.source ≡ h

abbrev pub ShowsTake : Seen → Host → Result (Option Inbound) CarrierFault → Seen → Type 0
ShowsTake old h (Ok None) new = ShowsCrossings old [] new
ShowsTake old h (Ok (Some i)) new = ShowsCrossings old (crossing_of i ∷ []) new × IsFor h i
ShowsTake old h (Err e) new = ShowsRefusal old e new

-- the hosts at an IMP that are up, in order
abbrev pub up_at : Seen → ℕ → List Host
up_at s imp = filter (λ h. h.imp == imp && is_up s.hosts h s.log) s.hosts

-- what an event adds: a host that stops or starts crosses, and an IMP that stops takes its hosts down in order; else nothing
abbrev pub step_crossings : Seen → NetEvent → List Crossing
step_crossings s (event.HostDown h) = crossing.Down h ∷ []
step_crossings s (event.HostUp h) = crossing.Up h ∷ []
step_crossings s (event.ImpDown imp) = reverse (map (λ h. crossing.Down h) (up_at s imp))
step_crossings s (event.Deliver line direction frame) = []
step_crossings s (event.Drop line direction frame) = []
step_crossings s (event.Garble line direction frame) = []
step_crossings s (event.Resend imp) = []
step_crossings s (event.Route imp) = []
step_crossings s (event.Claim imp) = []
step_crossings s (event.EndDown imp line) = []
step_crossings s (event.EndUp imp line) = []
step_crossings s (event.ImpUp imp) = []
step_crossings s (event.GiveUp f) = []
step_crossings s (event.Forget at from) = []
step_crossings s (event.Abandon f) = []
step_crossings s (event.Ask f) = []

abbrev pub ShowsStep : Seen → NetEvent → Result (Unit {0}) CarrierFault → Seen → Type 0
ShowsStep old e (Ok done) new = ShowsCrossings old (step_crossings old e) new
ShowsStep old e (Err f) new = ShowsRefusal old f new

-- a quiet round: nothing crosses
abbrev pub ShowsRound : Seen → Result (Unit {0}) CarrierFault → Seen → Type 0
ShowsRound old (Ok done) new = ShowsCrossings old [] new
ShowsRound old (Err e) new = ShowsRefusal old e new

-- a carrier, whatever it is made of: what it shows, and how each of its calls may go, from the carrier before and what it is
-- called with to the answer and the carrier after
pub record Calls (C : Type 0) : Type 1 where
  pub seen : C → Seen
  pub offers : C → HostMessage → Result (Unit {0}) CarrierFault → C → Type 0
  pub takes : C → Host → Result (Option Inbound) CarrierFault → C → Type 0
  pub steps : C → NetEvent → Result (Unit {0}) CarrierFault → C → Type 0
  -- a quiet round
  pub rounds : C → Result (Unit {0}) CarrierFault → C → Type 0
