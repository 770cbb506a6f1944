-- Two ends of a line under any schedule, and what it means that packets come out in order and once.
use Rattle.std.specs.Prelude.{◌≡◌, ℕ, Bool, false, List, [], ◌∷◌, ◌++◌, slice_get, Option, Some, None, Result, Ok, Err, nat_le, ◌==◌, if◌then◌else◌}
use Rattle.packetiser.specs.PacketFields.{PacketFields}
use Rattle.imp_channel.specs.declared.fault.ChannelFault.{ChannelFault}
use Rattle.imp_channel.specs.declared.frame.Content.{Content}
use Rattle.imp_channel.specs.declared.frame.Content.TheVariants as content
use Rattle.imp_channel.specs.declared.frame.Frame.{Frame}
use Rattle.imp_channel.specs.declared.line.Received.{Received}
use Rattle.imp_channel.specs.declared.line.Received.TheVariants as received
use Rattle.imp_channel.specs.Line.{End, opening_end, channel_at, submitted, resent, acknowledgement, routes_frame, answer_to, state_after}

-- one end over a whole run
pub record Side : Type 0 where
  -- its channels, and the bits that it expects
  pub state : End
  -- every frame that it wrote, oldest first
  pub written : List Frame
  -- the place, in that list, of the frame that the other end took last; it never goes back
  pub reached : ℕ
  -- the packets that were handed to `submit` here and put in, by the channel of their frame, oldest first
  pub put : ℕ → List PacketFields
  -- the packets that `receive` answered as fresh here, by the channel of their frame, oldest first
  pub given : ℕ → List PacketFields
  -- the packets whose channel was busy before a frame was taken here and free after it, by that channel, oldest first
  pub freed : ℕ → List PacketFields

-- a side that was just reset
abbrev pub opening_side : Side
opening_side = record { state = opening_end; written = []; reached = 0; put = λ _. []; given = λ _. []; freed = λ _. [] }

-- what an end can do: a packet or a vector comes from above, and a frame is taken from its place in the list
-- that the other end wrote
pub data Act : Type 0 where
  Submit : (packet : PacketFields) → Act
  Resend : Act
  Acknowledge : Act
  Tell : (distances : List ℕ) → Act
  Take : (place : ℕ) → Act

-- a frame brings a packet on this channel
abbrev pub is_on : ℕ → Content → Bool
is_on c (content.Packet carried) = carried.channel == c
is_on c content.Nothing = false
is_on c (content.Routes distances) = false

-- a packet that was handed in or given together with a frame, where that frame is on this channel
abbrev pub on_channel : ℕ → Content → PacketFields → List PacketFields
on_channel c content packet = if is_on c content then packet ∷ [] else []

-- the packet that `receive` answered as fresh to a frame on this channel
abbrev pub given_on : ℕ → Content → Result Received ChannelFault → List PacketFields
given_on c content (Ok (received.Fresh packet)) = on_channel c content packet
given_on c content (Ok received.AckOnly) = []
given_on c content (Ok (received.Routes distances)) = []
given_on c content (Ok received.Repeat) = []
given_on c content (Err e) = []

-- the packet of a channel that was busy and is free
abbrev pub freed_by : Option PacketFields → Option PacketFields → List PacketFields
freed_by None after = []
freed_by (Some packet) None = packet ∷ []
freed_by (Some packet) (Some other) = []

abbrev pub writes : List Frame → Side → Side
writes frames s = record s { written = s.written ++ frames }

-- this packet was handed to `submit`; where all channels are busy nothing happens
abbrev pub puts_in : PacketFields → Option (End × Frame) → Side → Side
puts_in packet None s = s
puts_in packet (Some (e, f)) s =
    record s { state = e; written = s.written ++ f ∷ []; put = λ c. s.put c ++ on_channel c f.content packet }

abbrev pub takes : Frame → Side → Side
takes f s = record s {
  state = state_after s.state f;
  given = λ c. s.given c ++ given_on c f.content (answer_to s.state f);
  freed = λ c. s.freed c ++ freed_by (channel_at s.state c).packet (channel_at (state_after s.state f) c).packet;
}

abbrev pub takes_at : ℕ → Option Frame → Side → Side → Side × Side
takes_at place None me you = (me, you)
takes_at place (Some f) me you = (takes f me, record you { reached = place })

-- both sides after one act of the first; a frame before the one that was taken last isn't taken any more
abbrev pub acted : Act → Side → Side → Side × Side
acted (Submit packet) me you = (puts_in packet (submitted me.state packet) me, you)
acted Resend me you = (writes (resent me.state) me, you)
acted Acknowledge me you = (writes (acknowledgement me.state ∷ []) me, you)
acted (Tell distances) me you = (writes (routes_frame me.state distances ∷ []) me, you)
acted (Take place) me you =
    if nat_le you.reached place then takes_at place (slice_get you.written place) me you else (me, you)

-- which end acts
pub data Event : Type 0 where
  Left : (act : Act) → Event
  Right : (act : Act) → Event

-- both sides of a line
pub record Sides : Type 0 where
  pub left : Side
  pub right : Side

abbrev pub opening_sides : Sides
opening_sides = record { left = opening_side; right = opening_side }

abbrev pub sides_after : Event → Sides → Sides
sides_after (Left act) s = let both = acted act s.left s.right in record { left = both.0; right = both.1 }
sides_after (Right act) s = let both = acted act s.right s.left in record { left = both.1; right = both.0 }

-- a schedule, its first event first
abbrev pub run : List Event → Sides → Sides
run [] s = s
run (event ∷ rest) s = run rest (sides_after event s)

-- one packet: it is put in, its frame is taken twice, and the acknowledgement is taken
abbrev pub one_packet : PacketFields → List Event
one_packet packet =
    Left (Submit packet) ∷ Right (Take 0) ∷ Right (Take 0) ∷ Right Acknowledge ∷ Left (Take 0) ∷ []

-- one list begins another
pub record Begins {X : Type 0} (front whole : List X) : Type 0 where
  pub rest : List X
  pub joined : front ++ rest ≡ whole

-- on this channel of the line from one side to the other:
pub record InOrder (c : ℕ) (from to : Side) : Type 0 where
  -- the packets given are the first of those put in, in their order, each once
  pub given : Begins (to.given c) (from.put c)
  -- every packet whose channel became free was given
  pub freed : Begins (from.freed c) (to.given c)
