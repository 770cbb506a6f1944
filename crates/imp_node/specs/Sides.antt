-- What an IMP knows of one flow, at its source and at its destination, and how a call moves it.
use Rattle.std.specs.Prelude.{◌≡◌, ℕ, Bool, false, List, [], ◌∷◌, ◌++◌, Option, Some, None, filter, All, if◌then◌else◌}
use Rattle.std.specs.FinMap as map
use Rattle.std.specs.Option.{option_map}
use Rattle.interface.specs.Flow.{same_flow}
use Rattle.interface.specs.declared.address.Flow.{Flow}
use Rattle.interface.specs.declared.crossing.Answer.{Answer}
use Rattle.link_table.specs.Flows.{ended_in}
use Rattle.link_table.specs.declared.destination.Fate.{Fate}
use Rattle.link_table.specs.declared.destination.Noted.{Noted}
use Rattle.packetiser.specs.Slots.{IsTable}
use Rattle.imp_node.specs.declared.waiting.Message.{Message}
use Rattle.imp_node.specs.declared.waiting.Told.{Told}
use Rattle.imp_node.specs.State.{State, host_at, is_up, number}
use Rattle.imp_node.specs.Queries.{outstanding, last}

-- ---- the two sides of a flow

-- its answers, of those that wait for a host
abbrev pub answers_of : Flow → List Told → List Answer
answers_of f [] = []
answers_of f (told ∷ others) = if same_flow f told.flow then told.kind ∷ answers_of f others else answers_of f others

-- its messages, of those that wait for a host
abbrev pub messages_of : Flow → List Message → List Message
messages_of f messages = filter (λ m. same_flow f m.flow) messages

-- at the source: whether the host is up, the number begun last, the outstanding one, and the answers that wait
pub record Sender : Type 0 where
  pub source : Bool
  pub last : Option ℕ
  pub outstanding : Option ℕ
  pub answers : List Answer

-- at the destination: whether the host is up, the number noted last with its message's fate, and the messages that wait
pub record Receiver : Type 0 where
  pub destination : Bool
  pub kept : Option Noted
  pub queue : List Message

abbrev pub sender : State → Flow → Sender
sender s f = record {
  source = is_up s f.source.host;
  last = last s f;
  outstanding = outstanding s f;
  answers = answers_of f (host_at s f.source.host).answers;
}

abbrev pub receiver : State → Flow → Receiver
receiver s f = record {
  destination = is_up s f.destination.host;
  kept = map.get s.kept f;
  queue = messages_of f (host_at s f.destination.host).queue;
}

-- ---- what becomes of a side

-- a message with this number was begun
abbrev pub begun_with : ℕ → Sender → Sender
begun_with n s = record s { last = Some n; outstanding = Some n }

-- an answer waits, if the host is up
abbrev pub told_with : Answer → Sender → Sender
told_with kind s = record s { answers = if s.source then s.answers ++ kind ∷ [] else s.answers }

-- the outstanding message has its answer
abbrev pub ended_with : Answer → Sender → Sender
ended_with kind s = told_with kind (record s { outstanding = None })

-- a number was noted, with the fate of its message
abbrev pub noted_with : ℕ → Fate → Receiver → Receiver
noted_with n new r = record r { kept = Some (record { number = n; fate = new }) }

-- the message of this number met another fate
abbrev pub fated_with : ℕ → Fate → Receiver → Receiver
fated_with n new r = record r { kept = option_map (ended_in n new) r.kept }

-- a message waits after the others
abbrev pub queued_with : Message → Receiver → Receiver
queued_with m r = record r { queue = r.queue ++ m ∷ [] }

-- ---- what a call does to flows

-- a flow stays as it was
pub record Unmoved (s t : State) (f : Flow) : Type 0 where
  pub sender : sender t f ≡ sender s f
  pub receiver : receiver t f ≡ receiver s f

-- all flows stay as they were
abbrev pub AllUnmoved : State → State → Type 0
AllUnmoved s t = (f : Flow) → Unmoved s t f

-- one flow is so now, and all others stay as they were
pub record Moved (s t : State) (g : Flow) (from : Sender) (to : Receiver) : Type 0 where
  pub sender : sender t g ≡ from
  pub receiver : receiver t g ≡ to
  pub others : (f : Flow) → same_flow f g ≡ false → Unmoved s t f

-- ---- what holds of an IMP after every call

-- it has its number and was not short of memory, answers and messages wait at their hosts, and its slots are sound
pub record IsImp (imp : ℕ) (s : State) : Type 0 where
  pub own : number s ≡ imp
  pub live : s.spent ≡ false
  pub answers : (h : ℕ) → All (λ told. told.flow.source ≡ record { imp = imp; host = h }) (host_at s h).answers
  pub queues : (h : ℕ) → All (λ m. m.flow.destination ≡ record { imp = imp; host = h }) (host_at s h).queue
  pub slots : IsTable s.slots
