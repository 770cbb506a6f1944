-- What resets see of a network: contacts, messages, answers, and hosts that stop and start (NIC 8246, RST and RRP; BBN
-- Report 1822, RFNM). A list of events is read newest first.
use Rattle.std.specs.Prelude.{ℕ, ◌+◌, Bool, true, false, ◌&&◌, List, [], ◌∷◌, Option, Some, None, if◌then◌else◌}
use Rattle.interface.specs.Host.{Host, same_host, is_host}
use Rattle.interface.specs.declared.crossing.Answer.{Answer}

-- a message from host to host: RST and RRP each go by themselves, and nothing else matters to a reset
pub data Message : Type 0 where
  Reset : Message
  Reply : Message
  Other : (text : List Bool) → Message

pub data Event : Type 0 where
  -- the user of host `a` asks for a reset with host `b`
  Contact : (a b : Host) → Event
  -- a message of `a` for `b` goes out on a link
  Out : (a b : Host) → (link : ℕ) → (message : Message) → Event
  -- `b` takes a message of `a`
  In : (a b : Host) → (link : ℕ) → (message : Message) → Event
  -- `a` learns what became of its message for `b`
  Told : (a b : Host) → (link : ℕ) → (kind : Answer) → Event
  -- a host stops, or starts
  Down : (h : Host) → Event
  Up : (h : Host) → Event
  -- a host does something else by itself
  Idle : Event

-- the place of the next crossing: this many have been
abbrev pub place : List Event → ℕ
place [] = 0
place (Contact a b ∷ events) = place events
place (Idle ∷ events) = place events
place (e ∷ events) = 1 + place events

-- ---- what an event is for one host and one peer of it

pub data Part : Type 0 where
  Call : Part
  Send : (link : ℕ) → (message : Message) → Part
  Take : (message : Message) → Part
  Hear : (link : ℕ) → (kind : Answer) → Part
  Begin : Part

abbrev pub when : {A : Type 0} → Bool → A → Option A
when test x = if test then Some x else None

abbrev pub are : Host → Host → Host → Host → Bool
are a b x y = same_host a x && same_host b y

-- for host `a` and its peer `b`
abbrev pub part_of : Host → Host → Event → Option Part
part_of a b (Contact x y) = when (are a b x y) Call
part_of a b (Out x y l m) = when (are a b x y) (Send l m)
part_of a b (In x y l m) = when (are a b y x) (Take m)
part_of a b (Told x y l k) = when (are a b x y) (Hear l k)
part_of a b (Down x) = when (same_host a x) Begin
part_of a b (Up x) = when (same_host a x) Begin
part_of a b Idle = None

-- ---- hosts that are up

-- whether a host is up after one event more
abbrev pub up_after_event : Host → Event → Bool → Bool
up_after_event h (Down x) up = if same_host h x then false else up
up_after_event h (Up x) up = if same_host h x then true else up
up_after_event h e up = up

-- whether a host is up: at first, every host of the network is
abbrev pub is_up : List Host → Host → List Event → Bool
is_up hosts h [] = is_host hosts h
is_up hosts h (e ∷ events) = up_after_event h e (is_up hosts h events)
