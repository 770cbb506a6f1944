-- Which messages the notices of data report (NIC 8246, messages of data): one notice of each that goes out, and at most one of each that comes in.
use Rattle.std.specs.Prelude.{◌≡◌, ◌⊎◌, ℕ, ◌+◌, ◌==◌, Bool, true, false, if◌then◌else◌, List, [], ◌∷◌, ◌++◌, length}
use Rattle.interface.specs.Host.{Host}
use Rattle.interface.specs.declared.crossing.Crossing.{Crossing}
use Rattle.interface.specs.declared.crossing.Crossing.TheVariants as crossing
use Rattle.interface.specs.declared.message.HostMessage.{HostMessage}
use Rattle.ncp_control.specs.Numbers.{is_receive_socket}
use Rattle.host_pairs.specs.declared.notice.Notice.{Notice}
use Rattle.host_pairs.specs.declared.notice.Notice.TheVariants as notice
use Rattle.promise.specs.declared.book.Told.{Told}
use Rattle.promise.specs.Formed.{AreData, HasCrossed, coming, going, request}

-- ---- notices of data

-- a user is informed that bits were sent, or that they have arrived
abbrev pub is_data : Notice → Bool
is_data (notice.Sent socket bits) = true
is_data (notice.Arrived socket bits) = true
is_data n = false

-- those of a book, newest first
abbrev pub data_told : List Told → List Told
data_told [] = []
data_told (t ∷ told) = data_told told ++ (if is_data t.notice then t ∷ [] else [])

abbrev pub data_notice : Bool → ℕ → List Bool → Notice
data_notice true socket bits = notice.Arrived socket bits
data_notice false socket bits = notice.Sent socket bits

-- ---- the message of a notice

-- both requests of a connection between a host's socket and its peer have crossed, and the RTS of the two names this link
pub record HasLink (h peer : Host) (socket link : ℕ) (log : List Crossing) : Type 0 where
  pub foreign : ℕ
  pub size : ℕ
  pub own_stamp : ℕ
  pub partner_stamp : ℕ
  pub own : HasCrossed going h peer own_stamp (request socket foreign (if is_receive_socket socket then link else size)) log
  pub partner : HasCrossed coming peer h partner_stamp (request foreign socket (if is_receive_socket socket then size else link)) log

-- a notice of data reports a message just after it crossed: to the host that sent or took it, with the message's data, and a socket whose
-- connection has the message's link, which isn't 0
pub record TellsOf (takes : Bool) (h peer : Host) (m : HostMessage) (log : List Crossing) (t : Told) : Type 0 where
  pub socket : ℕ
  pub bits : List Bool
  pub told : t ≡ record { host = h; place = 1 + length log; notice = data_notice takes socket bits }
  pub holds : AreData takes m.text bits
  pub way : is_receive_socket socket ≡ takes
  pub off_control : (m.flow.link.0 == 0) ≡ false
  pub linked : HasLink h peer socket m.flow.link.0 log

-- what goes out is sent by its source to its destination, and what comes in has arrived at its destination from its source
abbrev pub Tells : Crossing → List Crossing → Told → Type 0
Tells (crossing.Out m) log t = TellsOf false m.flow.source m.flow.destination m log t
Tells (crossing.In m) log t = TellsOf true m.flow.destination m.flow.source m log t
Tells c log t = ⊥

-- what goes out on another link than 0 has to be reported by a notice
abbrev pub MayBeUntold : Crossing → Type 0
MayBeUntold (crossing.Out m) = (m.flow.link.0 == 0) ≡ true
MayBeUntold c = Unit {0}

-- crossings and notices of data, both newest first, one beside the other: each notice reports one crossing, and no two of the same one
abbrev pub AreTold : List Crossing → List Told → Type 0
AreTold [] [] = Unit {0}
AreTold [] (t ∷ told) = ⊥
AreTold (c ∷ log) [] = MayBeUntold c × AreTold log []
AreTold (c ∷ log) (t ∷ told) = (MayBeUntold c × AreTold log (t ∷ told)) ⊎ (Tells c log t × AreTold log told)

-- the notices of a book are formed where those of data report the messages that crossed
abbrev pub FormedNotices : List Crossing → List Told → Type 0
FormedNotices log told = AreTold log (data_told told)
