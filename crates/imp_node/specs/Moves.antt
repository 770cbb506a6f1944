-- How each call moves the flows of an IMP.
use Rattle.std.specs.Prelude.{◌≡◌, Bool, true, false, List, [], ◌∷◌, Some, ◌⊎◌, if◌then◌else◌}
use Rattle.std.specs.FinMap as map
use Rattle.bit_messages.specs.Body.{has_mark, text_of}
use Rattle.interface.specs.declared.address.Flow.{Flow}
use Rattle.interface.specs.declared.crossing.Answer.{Answer}
use Rattle.interface.specs.declared.crossing.Answer.TheVariants as answer
use Rattle.interface.specs.declared.message.HostMessage.{HostMessage}
use Rattle.link_table.specs.Flows.{release_in, kept_in}
use Rattle.link_table.specs.Numbers.{is_new}
use Rattle.link_table.specs.declared.destination.Fate.{Fate}
use Rattle.link_table.specs.declared.destination.Fate.TheVariants as fate
use Rattle.link_table.specs.declared.destination.Noted.{Noted}
use Rattle.link_table.specs.declared.source.Release.{Release}
use Rattle.link_table.specs.declared.source.Release.TheVariants as release
use Rattle.packetiser.specs.PacketFields.{PacketFields, flow_of}
use Rattle.packetiser.specs.Slots.{answer_of}
use Rattle.packetiser.specs.declared.packet.PacketKind.{PacketKind}
use Rattle.packetiser.specs.declared.packet.PacketKind.TheVariants as kind
use Rattle.packetiser.specs.declared.reassembly.Added.TheVariants as piece
use Rattle.imp_channel.specs.Holding.{carried_by}
use Rattle.imp_channel.specs.declared.frame.Frame.{Frame}
use Rattle.imp_node.specs.declared.waiting.Message.{Message}
use Rattle.imp_node.specs.State.{State, number, is_up}
use Rattle.imp_node.specs.Flows.{next_number}
use Rattle.imp_node.specs.Queries.{is_request}
use Rattle.imp_node.specs.Offering.{Way, Nowhere, Here, Away}
use Rattle.imp_node.specs.Arrival.{Arrival, Passing, Old, Undeliverable, Replying, Piece, NoSlot, Whole, Unmarked, Answering, arrival}
use Rattle.imp_node.specs.Taking.{is_from_here}
use Rattle.imp_node.specs.Sides.{Sender, Receiver, sender, receiver, messages_of, begun_with, told_with, ended_with, noted_with, fated_with, queued_with, AllUnmoved, Moved}

-- ---- a message is offered

-- to nowhere: Dead waits; here: the next number is begun and noted, and the message waits; away: it is begun
abbrev pub OfferMoves : Way → HostMessage → State → State → Type 0
OfferMoves Nowhere m s t = Moved s t m.flow (told_with answer.Dead (sender s m.flow)) (receiver s m.flow)
OfferMoves Here m s t =
    Moved s t m.flow (begun_with (next_number s m.flow) (sender s m.flow))
    (queued_with (record { flow = m.flow; number = next_number s m.flow; text = m.text }) (noted_with (next_number s m.flow) fate.Waits (receiver s m.flow)))
OfferMoves Away m s t = Moved s t m.flow (begun_with (next_number s m.flow) (sender s m.flow)) (receiver s m.flow)

-- ---- a message ends

-- an answer with the outstanding number ends the message, and any other changes nothing
abbrev pub AnswerMoves : Release → Answer → Flow → State → State → Type 0
AnswerMoves release.Freed kind f s t = Moved s t f (ended_with kind (sender s f)) (receiver s f)
AnswerMoves release.Stale kind f s t = AllUnmoved s t

-- ---- a frame comes in

-- a piece of a message with a new number for a host of this IMP, or a question about one
pub record IsNewHere (s : State) (p : PacketFields) : Type 0 where
  pub request : is_request p.kind ≡ true
  pub here : p.destination.imp ≡ number s
  pub new : is_new (kept_in (map.get s.kept (flow_of p))) p.number ≡ true

-- a piece that made this body whole, for a host that is up
pub record MakesWhole (s : State) (p : PacketFields) (body : List Bool) : Type 0 where
  pub new : IsNewHere s p
  pub data_kind : p.kind ≡ kind.Data
  pub up : is_up s p.destination.host ≡ true
  pub whole : answer_of s.slots p ≡ piece.Whole body

-- a message ends before it is whole: a piece came and its host is down, which Dead reports, or a question, and Never reports that it
-- never came
abbrev pub IsRefused : Fate → PacketKind → State → PacketFields → Type 0
IsRefused fate.Dead told s p = (told ≡ kind.Dead) × (p.kind ≡ kind.Data) × (is_up s p.destination.host ≡ false)
IsRefused fate.Never told s p = (told ≡ kind.Never) × (p.kind ≡ kind.Ask)
IsRefused new told s p = ⊥

-- the packet that reports what became of a message of this fate; of one that waits nobody is notified
abbrev pub TellsFate : Fate → PacketKind → Type 0
TellsFate fate.Waits told = ⊥
TellsFate fate.Taken told = told ≡ kind.Rfnm
TellsFate fate.Dead told = told ≡ kind.Dead
TellsFate fate.Never told = told ≡ kind.Never

-- a question about the number noted last, which this packet answers
pub record IsAskedHere (s : State) (p : PacketFields) (told : PacketKind) : Type 0 where
  pub question : p.kind ≡ kind.Ask
  pub here : p.destination.imp ≡ number s
  pub noted : Noted
  pub kept : map.get s.kept (flow_of p) ≡ Some noted
  pub same : noted.number ≡ p.number
  pub tells : TellsFate noted.fate told

-- the packet that brings an answer
abbrev pub Tells : PacketKind → Answer → Type 0
Tells kind.Rfnm answer.Rfnm = Unit {0}
Tells kind.Dead answer.Dead = Unit {0}
Tells kind.Never answer.NotTaken = Unit {0}
Tells packet answer = ⊥

-- what the arrival of a packet says of it
abbrev pub ArrivalSays : Arrival → State → PacketFields → Type 0
ArrivalSays Passing s p = Unit {0}
ArrivalSays Old s p = Unit {0}
ArrivalSays (Undeliverable new told) s p = IsNewHere s p × IsRefused new told s p
ArrivalSays (Replying told) s p = IsAskedHere s p told
ArrivalSays Piece s p = IsNewHere s p × (p.kind ≡ kind.Data) × (answer_of s.slots p ≡ piece.Kept)
ArrivalSays NoSlot s p = IsNewHere s p × (answer_of s.slots p ≡ piece.Full)
ArrivalSays (Whole text) s p = (body : List Bool) × MakesWhole s p body × (has_mark body ≡ true) × (text ≡ text_of body)
ArrivalSays Unmarked s p = (body : List Bool) × MakesWhole s p body × (has_mark body ≡ false)
ArrivalSays (Answering kind) s p = (p.source.imp ≡ number s) × Tells p.kind kind

-- what it does to flows
abbrev pub ArrivalMoves : Arrival → PacketFields → State → State → Type 0
ArrivalMoves Passing p s t = AllUnmoved s t
ArrivalMoves Old p s t = AllUnmoved s t
ArrivalMoves (Undeliverable new told) p s t = Moved s t (flow_of p) (sender s (flow_of p)) (noted_with p.number new (receiver s (flow_of p)))
ArrivalMoves (Replying told) p s t = AllUnmoved s t
ArrivalMoves Piece p s t = AllUnmoved s t
ArrivalMoves NoSlot p s t = AllUnmoved s t
ArrivalMoves (Whole text) p s t =
    Moved s t (flow_of p) (sender s (flow_of p)) (queued_with (record { flow = flow_of p; number = p.number; text = text }) (noted_with p.number fate.Waits (receiver s (flow_of p))))
ArrivalMoves Unmarked p s t = Moved s t (flow_of p) (sender s (flow_of p)) (noted_with p.number fate.Never (receiver s (flow_of p)))
ArrivalMoves (Answering kind) p s t = AnswerMoves (release_in p.number (map.get s.sources (flow_of p))) kind (flow_of p) s t

-- a frame moves no flow, or brings a packet that moves flows by its arrival
abbrev pub FrameMoves : Frame → State → State → Type 0
FrameMoves f s t = AllUnmoved s t ⊎ ((p : PacketFields) × (carried_by f.content ≡ p ∷ []) × ArrivalMoves (arrival s p) p s t)

-- ---- a host takes a message

-- the message is gone from its flow's queue
abbrev pub without_first : List Message → Flow → Receiver → Receiver
without_first others f r = record r { queue = messages_of f others }

-- and its source is notified, if it is here and the message is outstanding
abbrev pub sender_told : Bool → Release → Answer → Sender → Sender
sender_told true release.Freed kind from = ended_with kind from
sender_told true release.Stale kind from = from
sender_told false release kind from = from

-- the source of a message that waited here is notified, or nothing is known to it yet
abbrev pub TellingMoves : Answer → Message → State → State → Type 0
TellingMoves kind m s t =
    Moved s t m.flow (sender_told (is_from_here s m) (release_in m.number (map.get s.sources m.flow)) kind (sender s m.flow)) (receiver s m.flow)

-- ---- a host goes down, or comes up

-- a message that waited is dead, and its source is notified if it is here and the message is outstanding, or nothing is known to it yet
abbrev pub ReturningMoves : Message → State → State → Type 0
ReturningMoves m s t =
    Moved s t m.flow (sender_told (is_from_here s m) (release_in m.number (map.get s.sources m.flow)) answer.Dead (sender s m.flow)) (fated_with m.number fate.Dead (receiver s m.flow))

-- a flow's sides where one of its hosts is this one
abbrev pub source_down : Bool → Sender → Sender
source_down here from = if here then record from { source = false; answers = [] } else from

abbrev pub destination_down : Bool → Receiver → Receiver
destination_down here to = if here then record to { destination = false; queue = [] } else to

abbrev pub source_up : Bool → Sender → Sender
source_up here from = if here then record from { source = true } else from

abbrev pub destination_up : Bool → Receiver → Receiver
destination_up here to = if here then record to { destination = true } else to

-- both sides of each flow become so
pub record Becomes (s t : State) (f : Flow) (from : Sender) (to : Receiver) : Type 0 where
  pub sender : sender t f ≡ from
  pub receiver : receiver t f ≡ to
