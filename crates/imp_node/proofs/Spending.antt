-- No call spends an IMP, save by running out of memory.
use Rattle.imp_node.proofs.Common.{Flow, Answer, HostMessage, PacketFields, PacketKind, ChannelFault, Frame, Received, Release, Message, Told, State, ImpTurn, host_at, Way, Nowhere, Here, Away, offered, from_host, asked_by, ask, replied, taken_by, to_host}
use Rattle.std.proofs.Common.{◌≡◌, ℕ, Bool, true, false, List, [], ◌∷◌, Option, Some, None, Result, Ok, Err, refl, ◌∙◌}
use Rattle.std.specs.Prelude.{if◌then◌else◌}
use Rattle.interface.specs.declared.crossing.Answer.TheVariants as answer
use Rattle.packetiser.specs.declared.packet.PacketKind.TheVariants as kind
use Rattle.imp_channel.specs.declared.line.Received.TheVariants as received
use Rattle.link_table.specs.declared.destination.Fate.TheVariants as fate
use Rattle.link_table.specs.declared.source.Release.TheVariants as release
use Rattle.imp_node.specs.Flows.{answered_by, fated}
use Rattle.imp_node.specs.Arrival.{Arrival, Passing, Old, Undeliverable, Replying, Piece, NoSlot, Whole, Unmarked, Answering, arrived, taken_frame, from_line}
use Rattle.imp_node.specs.Stopping.{message_returned, all_returned, stopped, host_down}

answered_spent : (r : Release) (kind : Answer) (f : Flow) (n : ℕ) (s : State) → (answered_by r kind f n s).spent ≡ s.spent
answered_spent release.Freed kind f n s = refl
answered_spent release.Stale kind f n s = refl

either_spent : (b : Bool) (s t u : State) → t.spent ≡ s.spent → u.spent ≡ s.spent → (if b then t else u).spent ≡ s.spent
either_spent true s t u e h = e
either_spent false s t u e h = h

replied_spent : (kind : Answer) (packet : PacketKind) (m : Message) (s : State) → (replied kind packet m s).spent ≡ s.spent
replied_spent kind packet m s = either_spent _ s _ _ (answered_spent _ kind m.flow _ s) refl

arrived_spent : (a : Arrival) (p : PacketFields) (s : State) → (arrived a p s).spent ≡ s.spent
arrived_spent Passing p s = refl
arrived_spent Old p s = refl
arrived_spent (Undeliverable new told) p s = refl
arrived_spent (Replying told) p s = refl
arrived_spent Piece p s = refl
arrived_spent NoSlot p s = refl
arrived_spent (Whole text) p s = refl
arrived_spent Unmarked p s = refl
arrived_spent (Answering kind) p s = answered_spent _ kind _ _ s

turn_spent : (b : Bool) (s : State) (t u : ImpTurn) → t.state.spent ≡ s.spent → u.state.spent ≡ s.spent → (if b then t else u).state.spent ≡ s.spent
turn_spent true s t u e h = e
turn_spent false s t u e h = h

taken_spent : (r : Result Received ChannelFault) (k : ℕ) (f : Frame) (s : State) → (taken_frame r k f s).state.spent ≡ s.spent
taken_spent (Ok (received.Fresh p)) k f s = turn_spent _ s _ _ (arrived_spent _ p _) refl
taken_spent (Ok received.Repeat) k f s = refl
taken_spent (Ok received.AckOnly) k f s = refl
taken_spent (Ok (received.Routes distances)) k f s = refl
taken_spent (Err fault) k f s = refl

pub from_line_spent : (s : State) (k : ℕ) (f : Frame) → (from_line s k f).state.spent ≡ s.spent
from_line_spent s k f = turn_spent _ s _ _ (taken_spent _ k f s) refl

offered_spent : (way : Way) (m : HostMessage) (s : State) → (offered way m s).spent ≡ s.spent
offered_spent Nowhere m s = refl
offered_spent Here m s = refl
offered_spent Away m s = refl

pub from_host_spent : (s : State) (m : HostMessage) → (from_host s m).state.spent ≡ s.spent
from_host_spent s m = offered_spent _ m s

taken_by_spent : (h : ℕ) (answers : List Told) (queue : List Message) (s : State) → (taken_by h answers queue s).spent ≡ s.spent
taken_by_spent h (told ∷ others) queue s = refl
taken_by_spent h [] (m ∷ others) s = replied_spent _ kind.Rfnm m _
taken_by_spent h [] [] s = refl

pub to_host_spent : (s : State) (h : ℕ) → (to_host s h).state.spent ≡ s.spent
to_host_spent s h = taken_by_spent h _ _ s

returned_spent : (m : Message) (s : State) → (message_returned m s).spent ≡ s.spent
returned_spent m s =
    let t : State = fated m.flow m.number fate.Dead s in
    either_spent _ s (replied answer.Dead kind.Dead m t) t (replied_spent _ kind.Dead m t) refl

all_returned_spent : (ms : List Message) (s : State) → (all_returned ms s).spent ≡ s.spent
all_returned_spent [] s = refl
all_returned_spent (m ∷ others) s = all_returned_spent others (message_returned m s) ∙ returned_spent m s

pub host_down_spent : (s : State) (h : ℕ) → (host_down s h).state.spent ≡ s.spent
host_down_spent s h = all_returned_spent (host_at s h).queue (stopped s h)

asked_spent : (o : Option ℕ) (f : Flow) (s : State) → (asked_by o f s).spent ≡ s.spent
asked_spent None f s = refl
asked_spent (Some n) f s = refl

pub ask_spent : (s : State) (f : Flow) → (ask s f).state.spent ≡ s.spent
ask_spent s f = asked_spent _ f s
