-- A law of src/law.rt: its fields are the clauses.
use Rattle.std.specs.FinMap as map
use Rattle.std.specs.Prelude.{List, None, [], if◌then◌else◌, length, true, ℕ, ◌<◌, ◌==◌, ◌∷◌, ◌≡◌}
use Rattle.imp_channel.specs.declared.frame.Frame.{Frame}
use Rattle.interface.specs.declared.address.Flow.{Flow}
use Rattle.interface.specs.declared.crossing.Answer.TheVariants as answer
use Rattle.interface.specs.declared.message.HostMessage.{HostMessage}
use Rattle.link_table.specs.Flows.{release_in}
use Rattle.link_table.specs.Keys.{is_from}
use Rattle.link_table.specs.declared.destination.Fate.TheVariants as fate
use Rattle.packetiser.specs.PacketFields.{PacketFields}
use Rattle.imp_node.specs.Arrival.{arrival, from_line}
use Rattle.imp_node.specs.Asking.{ask}
use Rattle.imp_node.specs.Lines.{claim, end_down, end_up, resend, route}
use Rattle.imp_node.specs.Moves.{ArrivalSays, Becomes, FrameMoves, OfferMoves, ReturningMoves, destination_down}
use Rattle.imp_node.specs.Moves.{destination_up, sender_told, source_down, source_up, without_first}
use Rattle.imp_node.specs.Offering.{from_host, way_of}
use Rattle.imp_node.specs.Sides.{AllUnmoved, Moved, answers_of, ended_with, fated_with, receiver, sender}
use Rattle.imp_node.specs.State.{State, host_at, is_up}
use Rattle.imp_node.specs.Stopping.{abandon, forget, give_up, host_up, message_returned, stopped}
use Rattle.imp_node.specs.Taking.{is_from_here, to_host}
use Rattle.imp_node.specs.declared.waiting.Message.{Message}
use Rattle.imp_node.specs.declared.waiting.Told.{Told}

-- How each call moves the flows of an IMP: what becomes of the named flow at its source and at its destination, and
-- that all other flows stay as they were.
pub record Moving : Type 0 where
  -- a message is offered: see `OfferMoves`
  pub from_host : (s : State) (m : HostMessage) → OfferMoves (way_of s m.flow) m s (from_host s m).state
  -- a frame moves no flow, or brings a packet that moves its own by what its arrival is, and that says what the packet
  -- is
  pub from_line : (s : State) (k : ℕ) (f : Frame) → FrameMoves f s (from_line s k f).state
  pub arrivals : (s : State) (p : PacketFields) → ArrivalSays (arrival s p) s p
  -- a host takes the oldest answer that waits for it: its flow has one answer less
  pub answer_taken :
      (s : State) (h : ℕ) (t : Told) (others : List Told) → is_up s h ≡ true → (host_at s h).answers ≡ t ∷ others →
      t.flow.source.host ≡ h →
      Moved s (to_host s h).state t.flow (record (sender s t.flow) { answers = answers_of t.flow others })
      (receiver s t.flow)
  -- else the oldest message: its flow has one message less, its fate is Taken, and its source is informed where it is
  -- at this IMP
  pub message_taken :
      (s : State) (h : ℕ) (m : Message) (others : List Message) → is_up s h ≡ true → (host_at s h).answers ≡ [] →
      (host_at s h).queue ≡ m ∷ others → m.flow.destination.host ≡ h →
      Moved s (to_host s h).state m.flow
      (sender_told (is_from_here s m) (release_in m.number (map.get s.sources m.flow)) answer.Rfnm (sender s m.flow))
      (without_first others m.flow (fated_with m.number fate.Taken (receiver s m.flow)))
  -- if neither waits, nothing changes
  pub nothing_taken :
      (s : State) (h : ℕ) → (host_at s h).answers ≡ [] → (host_at s h).queue ≡ [] → AllUnmoved s (to_host s h).state
  -- the outstanding message of a flow is given up, or last numbers are forgotten
  pub give_up :
      (s : State) (f : Flow) → Moved s (give_up s f).state f (ended_with answer.Incomplete (sender s f)) (receiver s f)
  pub forget :
      (s : State) (imp : ℕ) (f : Flow) →
      Becomes s (forget s imp).state f (sender s f)
      (record (receiver s f) { kept = if is_from imp f then None else map.get s.kept f })
  -- a host goes down by these two steps: it stops, and then each message that waited for it is dead, and its source is
  -- notified
  pub stopped :
      (s : State) (h : ℕ) (f : Flow) →
      Becomes s (stopped s h) f (source_down (f.source.host == h) (sender s f))
      (destination_down (f.destination.host == h) (receiver s f))
  pub returned : (m : Message) (s : State) → ReturningMoves m s (message_returned m s)
  -- a host comes up
  pub host_up :
      (s : State) (h : ℕ) (f : Flow) → h < length s.hosts →
      Becomes s (host_up s h).state f (source_up (f.source.host == h) (sender s f))
      (destination_up (f.destination.host == h) (receiver s f))
  -- the other calls move no flow
  pub resend : (s : State) → AllUnmoved s (resend s).state
  pub route : (s : State) → AllUnmoved s (route s).state
  pub claim : (s : State) → AllUnmoved s (claim s).state
  pub end_down : (s : State) (k : ℕ) → AllUnmoved s (end_down s k).state
  pub end_up : (s : State) (k : ℕ) → AllUnmoved s (end_up s k).state
  pub abandon : (s : State) (f : Flow) → AllUnmoved s (abandon s f).state
  pub ask : (s : State) (f : Flow) → AllUnmoved s (ask s f).state
