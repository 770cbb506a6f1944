-- One end of a line: what each call makes of it and answers.
use Rattle.std.specs.Prelude.{◌≡◌, ℕ, ◌+◌, ◌<◌, length, Bool, true, false, not, List, [], ◌∷◌, ◌++◌, replicate, slice_index_or, slice_set, is_some, is_none, IsSome, position, Option, Some, None, Result, Ok, Err, nat_le, if◌then◌else◌}
use Rattle.packetiser.specs.PacketFields.{PacketFields}
use Rattle.imp_channel.specs.Carriage.{Carriage}
use Rattle.imp_channel.specs.declared.fault.ChannelFault.{ChannelFault}
use Rattle.imp_channel.specs.declared.fault.ChannelFault.TheVariants as fault
use Rattle.imp_channel.specs.declared.fault.SubmitFault.{SubmitFault}
use Rattle.imp_channel.specs.declared.fault.SubmitFault.TheVariants as refusal
use Rattle.imp_channel.specs.declared.frame.Content.{Content}
use Rattle.imp_channel.specs.declared.frame.Content.TheVariants as content
use Rattle.imp_channel.specs.declared.frame.Frame.{Frame}
use Rattle.imp_channel.specs.declared.frame.TheConstants.{ACKS}
use Rattle.imp_channel.specs.declared.channel.Channel.{Channel}
use Rattle.imp_channel.specs.declared.channel.TheConstants.{CHANNELS}
use Rattle.imp_channel.specs.declared.line.Received.{Received}
use Rattle.imp_channel.specs.declared.line.Received.TheVariants as received

-- the channels that it sends on, and the bit that it expects next on each channel of the other end
pub record End : Type 0 where
  pub sending : List Channel
  pub expected : List Bool

-- a channel that has sent nothing: its first packet goes out under bit 0
abbrev pub opening_channel : Channel
opening_channel = record { bit = false; packet = None }

-- an end that was just reset
abbrev pub opening_end : End
opening_end = record { sending = replicate CHANNELS opening_channel; expected = replicate ACKS false }

abbrev pub channel_at : End → ℕ → Channel
channel_at e c = slice_index_or e.sending c opening_channel

abbrev pub expected_at : End → ℕ → Bool
expected_at e c = slice_index_or e.expected c false

-- whether two bits differ
abbrev pub differs : Bool → Bool → Bool
differs true y = not y
differs false y = y

-- Putting packets in.

abbrev pub is_free : Channel → Bool
is_free channel = is_none channel.packet

-- every frame of an end carries the bits that it expects next, as acknowledgements
abbrev pub frame_of : End → Content → Frame
frame_of e content = record { acks = e.expected; content = content }

abbrev pub frame_on : End → ℕ → Bool → PacketFields → Frame
frame_on e c bit packet = frame_of e (content.Packet (record { channel = c; bit = bit; packet = packet }))

-- this channel holds the packet until it is acknowledged
abbrev pub holding : End → ℕ → PacketFields → End
holding e c packet = record e { sending = slice_set e.sending c (record { bit = (channel_at e c).bit; packet = Some packet }) }

abbrev pub submitted_on : End → PacketFields → Option ℕ → Option (End × Frame)
submitted_on e packet None = None
submitted_on e packet (Some c) = Some (holding e c packet, frame_on e c (channel_at e c).bit packet)

-- a packet goes into the lowest free channel, under that channel's bit; `None` where all are busy
unfoldable pub submitted : End → PacketFields → Option (End × Frame)
submitted e packet = submitted_on e packet (position is_free e.sending)

-- a packet that isn't put in is handed back: all channels are busy, or one is free and no memory is left for a copy of the
-- packet's bits
abbrev pub IsRefusal : End → PacketFields → SubmitFault → Type 0
IsRefusal e packet (refusal.AllBusy back) = (back ≡ packet) × (submitted e packet ≡ None)
IsRefusal e packet (refusal.OutOfMemory back) = (back ≡ packet) × IsSome (submitted e packet) × (0 < length packet.bits)

-- Frames again, acknowledgements and routes.

abbrev pub frames_of : End → ℕ → Bool → Option PacketFields → List Frame
frames_of e c bit None = []
frames_of e c bit (Some packet) = frame_on e c bit packet ∷ []

-- the frames of the busy ones of these channels, of which the first is channel `c`
abbrev pub frames_from : End → ℕ → List Channel → List Frame
frames_from e c [] = []
frames_from e c (channel ∷ rest) = frames_of e c channel.bit channel.packet ++ frames_from e (c + 1) rest

-- the frames of all busy channels, in channel order
abbrev pub resent : End → List Frame
resent e = frames_from e 0 e.sending

abbrev pub acknowledgement : End → Frame
acknowledgement e = frame_of e content.Nothing

abbrev pub routes_frame : End → List ℕ → Frame
routes_frame e distances = frame_of e (content.Routes distances)

-- Taking frames.

-- a busy channel is acknowledged by a bit that differs from its packet's: it is free, and its next packet has the other bit
abbrev pub acknowledged : Bool → Channel → Channel
acknowledged ack channel =
    if is_some channel.packet
    then (if differs ack channel.bit then record { bit = not channel.bit; packet = None } else channel)
    else channel

-- each channel with its acknowledgement bit
abbrev pub all_acknowledged : List Bool → List Channel → List Channel
all_acknowledged acks [] = []
all_acknowledged [] (channel ∷ rest) = acknowledged false channel ∷ all_acknowledged [] rest
all_acknowledged (ack ∷ acks) (channel ∷ rest) = acknowledged ack channel ∷ all_acknowledged acks rest

-- a packet on a channel that isn't in use
abbrev pub is_foreign : Content → Bool
is_foreign (content.Packet carried) = nat_le CHANNELS carried.channel
is_foreign content.Nothing = false
is_foreign (content.Routes distances) = false

-- the packet has the bit that is expected on its channel
abbrev pub has_expected_bit : List Bool → Carriage → Bool
has_expected_bit expected carried = not (differs carried.bit (slice_index_or expected carried.channel false))

-- after the expected bit the other is expected
abbrev pub expected_after : List Bool → Content → List Bool
expected_after expected (content.Packet carried) =
    if has_expected_bit expected carried then slice_set expected carried.channel (not carried.bit) else expected
expected_after expected content.Nothing = expected
expected_after expected (content.Routes distances) = expected

-- what a frame brings to an end that expects these bits
abbrev pub brought : List Bool → Content → Received
brought expected (content.Packet carried) =
    if has_expected_bit expected carried then received.Fresh carried.packet else received.Repeat
brought expected content.Nothing = received.AckOnly
brought expected (content.Routes distances) = received.Routes distances

-- how `receive` answers a frame: one of a channel that isn't in use is refused
abbrev pub answer_to : End → Frame → Result Received ChannelFault
answer_to e f = if is_foreign f.content then Err fault.NotCanonical else Ok (brought e.expected f.content)

-- the end after a frame: a refused one changes nothing
abbrev pub state_after : End → Frame → End
state_after e f =
    if is_foreign f.content
    then e
    else record { sending = all_acknowledged f.acks e.sending; expected = expected_after e.expected f.content }

abbrev pub is_repeat_answer : Result Received ChannelFault → Bool
is_repeat_answer (Ok received.Repeat) = true
is_repeat_answer (Ok (received.Fresh packet)) = false
is_repeat_answer (Ok received.AckOnly) = false
is_repeat_answer (Ok (received.Routes distances)) = false
is_repeat_answer (Err e) = false

abbrev pub is_fresh_answer : Result Received ChannelFault → Bool
is_fresh_answer (Ok (received.Fresh packet)) = true
is_fresh_answer (Ok received.AckOnly) = false
is_fresh_answer (Ok (received.Routes distances)) = false
is_fresh_answer (Ok received.Repeat) = false
is_fresh_answer (Err e) = false
