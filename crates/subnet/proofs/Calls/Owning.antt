-- No call changes the number of an IMP.
use Rattle.subnet.proofs.Common.{◌≡◌, ℕ, Bool, true, false, List, [], ◌∷◌, Option, Some, None, Result, Ok, Err, refl, ◌∙◌, Flow, Answer, PacketFields, PacketKind, ChannelFault, Frame, Received, HostMessage, Release, Message, Told, State, ImpTurn, number, host_at, answered_by, fated, Way, Nowhere, Here, Away, offered, asked_by, message_returned, all_returned, stopped, replied, taken_by, to_host, ImpCall, call_turn}
use Rattle.std.specs.Prelude.{if◌then◌else◌}
use Rattle.interface.specs.declared.crossing.Answer.TheVariants as answer
use Rattle.packetiser.specs.declared.packet.PacketKind.TheVariants as kind
use Rattle.imp_channel.specs.declared.line.Received.TheVariants as received
use Rattle.link_table.specs.declared.source.Release.TheVariants as release
use Rattle.link_table.specs.declared.destination.Fate.TheVariants as fate
use Rattle.imp_node.specs.Arrival.{Arrival, Passing, Old, Undeliverable, Replying, Piece, NoSlot, Whole, Unmarked, Answering, arrived, taken_frame, from_line}
use Rattle.subnet.specs.declared.imp_call.ImpCall.TheVariants as call

answered_own : (r : Release) (kind : Answer) (f : Flow) (n : ℕ) (s : State) → number (answered_by r kind f n s) ≡ number s
answered_own release.Freed kind f n s = refl
answered_own release.Stale kind f n s = refl

either_own : (b : Bool) (s t u : State) → number t ≡ number s → number u ≡ number s → number (if b then t else u) ≡ number s
either_own true s t u e h = e
either_own false s t u e h = h

replied_own : (kind : Answer) (packet : PacketKind) (m : Message) (s : State) → number (replied kind packet m s) ≡ number s
replied_own kind packet m s = either_own _ s _ _ (answered_own _ kind m.flow _ s) refl

arrived_own : (a : Arrival) (p : PacketFields) (s : State) → number (arrived a p s) ≡ number s
arrived_own Passing p s = refl
arrived_own Old p s = refl
arrived_own (Undeliverable new told) p s = refl
arrived_own (Replying told) p s = refl
arrived_own Piece p s = refl
arrived_own NoSlot p s = refl
arrived_own (Whole text) p s = refl
arrived_own Unmarked p s = refl
arrived_own (Answering kind) p s = answered_own _ kind _ _ s

turn_own : (b : Bool) (s : State) (t u : ImpTurn) → number t.state ≡ number s → number u.state ≡ number s → number (if b then t else u).state ≡ number s
turn_own true s t u e h = e
turn_own false s t u e h = h

taken_own : (r : Result Received ChannelFault) (k : ℕ) (f : Frame) (s : State) → number (taken_frame r k f s).state ≡ number s
taken_own (Ok (received.Fresh p)) k f s = turn_own _ s _ _ (arrived_own _ p _) refl
taken_own (Ok received.Repeat) k f s = refl
taken_own (Ok received.AckOnly) k f s = refl
taken_own (Ok (received.Routes distances)) k f s = refl
taken_own (Err fault) k f s = refl

from_line_own : (s : State) (k : ℕ) (f : Frame) → number (from_line s k f).state ≡ number s
from_line_own s k f = turn_own _ s _ _ (taken_own _ k f s) refl

offered_own : (way : Way) (m : HostMessage) (s : State) → number (offered way m s) ≡ number s
offered_own Nowhere m s = refl
offered_own Here m s = refl
offered_own Away m s = refl

taken_by_own : (h : ℕ) (answers : List Told) (queue : List Message) (s : State) → number (taken_by h answers queue s) ≡ number s
taken_by_own h (told ∷ others) queue s = refl
taken_by_own h [] (m ∷ others) s = replied_own _ kind.Rfnm m _
taken_by_own h [] [] s = refl

pub to_host_own : (s : State) (h : ℕ) → number (to_host s h).state ≡ number s
to_host_own s h = taken_by_own h _ _ s

returned_own : (m : Message) (s : State) → number (message_returned m s) ≡ number s
returned_own m s =
    let t : State = fated m.flow m.number fate.Dead s in
    either_own _ s (replied answer.Dead kind.Dead m t) t (replied_own _ kind.Dead m t) refl

all_returned_own : (ms : List Message) (s : State) → number (all_returned ms s) ≡ number s
all_returned_own [] s = refl
all_returned_own (m ∷ others) s = all_returned_own others (message_returned m s) ∙ returned_own m s

asked_own : (o : Option ℕ) (f : Flow) (s : State) → number (asked_by o f s) ≡ number s
asked_own None f s = refl
asked_own (Some n) f s = refl

pub call_own : (c : ImpCall) (s : State) → number (call_turn c s).state ≡ number s
call_own (call.Offer m) s = offered_own _ m s
call_own (call.Arrive k f) s = from_line_own s k f
call_own (call.Ask f) s = asked_own _ f s
call_own (call.HostDown h) s = all_returned_own (host_at s h).queue (stopped s h)
call_own c s = refl
