-- What a service may hear of, as It is kept beside the service, and what several services may hear of at most.
use Rattle.std.specs.Prelude.{◌≡◌, ◌≤◌, ◌==◌, ◌&&◌, ◌||◌, ℕ, Bool, true, false, if◌then◌else◌, is_some, nat_le, min, max, List, [], ◌∷◌, ◌++◌}
use Rattle.host_pairs.specs.declared.notice.Notice.{Notice}
use Rattle.host_pairs.specs.declared.notice.Notice.TheVariants as notice
use Rattle.host_services.specs.Services.{Service, ServiceDeskState}
use Rattle.host_services.specs.Turns.{notice_heard}
use Rattle.host_services.specs.declared.hearing.Ear.{Ear}
use Rattle.host_services.specs.declared.hearing.Ear.TheVariants as ear
use Rattle.host_services.specs.declared.hearing.Scope.{Scope}
use Rattle.host_services.specs.declared.hearing.Subject.{Subject}
use Rattle.host_services.specs.declared.hearing.Subject.TheVariants as subject
use Rattle.host_services.specs.declared.service.Service.TheVariants as service

-- ---- what a notice is about

abbrev pub subject_of : Notice → Subject
subject_of (notice.Opened socket peer foreign own_stamp partner_stamp) = subject.Socket socket
subject_of (notice.Ended socket peer foreign) = subject.Socket socket
subject_of (notice.Arrived socket bits) = subject.Socket socket
subject_of (notice.PairReset peer) = subject.Reset
subject_of n = subject.Other

-- ---- one service

-- a server or a user with its outcome hears nothing any more, and before that it hears of its three sockets, and that connections
-- are gone. Where both its connections were opened and it has no outcome yet, it comes to one at any notice
abbrev pub ear_by : Bool → Bool → ℕ → ℕ → ℕ → Ear
ear_by over both asks receive send = if over then ear.Nothing else (if both then ear.Everything else ear.Begins asks receive send)

-- an echo service and a terminal hear of their two sockets
abbrev pub ear_of : Service → Ear
ear_of (service.Server s) = ear_by s.over (is_some s.receiving && is_some s.sending) s.listen s.receive s.send
ear_of (service.User s) = ear_by s.over (s.receiving && s.sending) s.own s.receive s.send
ear_of (service.Echo s) = ear.Ends s.receive s.send
ear_of (service.Terminal s) = ear.Ends s.receive s.send

-- whether it hears of a socket, and that connections are gone, and of anything else
abbrev pub hears_of : Ear → ℕ → Bool
hears_of ear.Nothing socket = false
hears_of ear.Everything socket = true
hears_of (ear.Begins asks receive send) socket = socket == asks || (socket == receive || socket == send)
hears_of (ear.Ends receive send) socket = socket == receive || socket == send

abbrev pub hears_resets : Ear → Bool
hears_resets ear.Nothing = false
hears_resets ear.Everything = true
hears_resets (ear.Begins asks receive send) = true
hears_resets (ear.Ends receive send) = false

abbrev pub hears_all : Ear → Bool
hears_all ear.Nothing = false
hears_all ear.Everything = true
hears_all (ear.Begins asks receive send) = false
hears_all (ear.Ends receive send) = false

-- whether a notice about this may do something to a service with this ear
abbrev pub hears : Ear → Subject → Bool
hears e (subject.Socket socket) = hears_of e socket
hears e subject.Reset = hears_resets e
hears e subject.Other = hears_all e

-- ---- several services

-- a socket is within the range of a scope
abbrev pub IsIn : Scope → ℕ → Type 0
IsIn s socket = (s.low ≤ socket) × (socket ≤ s.high)

-- a scope has room for what an ear hears of
abbrev pub IsHeardIn : Scope → Ear → Type 0
IsHeardIn s ear.Nothing = Unit {0}
IsHeardIn s ear.Everything = s.everything ≡ true
IsHeardIn s (ear.Begins asks receive send) = (s.resets ≡ true) × (IsIn s asks × (IsIn s receive × IsIn s send))
IsHeardIn s (ear.Ends receive send) = IsIn s receive × IsIn s send

abbrev pub AreHeardIn : Scope → List Ear → Type 0
AreHeardIn s [] = Unit {0}
AreHeardIn s (e ∷ es) = IsHeardIn s e × AreHeardIn s es

-- the scope is made as wide as it has to be for one socket more
abbrev pub with_socket : ℕ → Scope → Scope
with_socket socket s = record s { low = min s.low socket; high = max s.high socket }

-- and for one ear more
abbrev pub widened : Scope → Ear → Scope
widened s ear.Nothing = s
widened s ear.Everything = record s { everything = true }
widened s (ear.Begins asks receive send) = with_socket send (with_socket receive (with_socket asks (record s { resets = true })))
widened s (ear.Ends receive send) = with_socket send (with_socket receive s)

-- whether a notice about this may do something to a service with this scope
abbrev pub has_room : Scope → Subject → Bool
has_room s (subject.Socket socket) = nat_le s.low socket && nat_le socket s.high
has_room s subject.Reset = s.resets
has_room s subject.Other = false

abbrev pub is_heard_in : Scope → Subject → Bool
is_heard_in s t = s.everything || has_room s t

-- the services of all blocks, one block after another
abbrev pub all_in : List (List Service) → List Service
all_in [] = []
all_in (b ∷ blocks) = b ++ all_in blocks

-- a notice does nothing to these services
abbrev pub AreDeaf : List Service → Notice → Type 0
AreDeaf services n = (d : ServiceDeskState) → notice_heard n services d ≡ (services, d)
