-- A law of src/law.rt: its fields are the clauses.
use Rattle.std.specs.Prelude.{[], false, length, replicate, ◌∷◌, ◌≡◌}
use Rattle.packetiser.specs.declared.packet.PacketKind.TheVariants as kind
use Rattle.imp_node.specs.Arrival.{from_line, ignored}
use Rattle.imp_node.specs.Examples.{ack_frame, busy, first_packet, flow, host, messages_between, only_packet}
use Rattle.imp_node.specs.Examples.{packet_frame, serving, slots_of, unmarked_packet}
use Rattle.imp_node.specs.Flows.{answer_packet}
use Rattle.imp_node.specs.Lines.{on_port}
use Rattle.imp_node.specs.State.{host_at}
use Rattle.imp_node.specs.Stopping.{host_down}

-- What a fresh packet for a host of the IMP comes to. Host 0 at IMP 1 is served over port 0, from IMP 2.
pub record WorkedArrivals : Type 0 where
  -- the one packet of an empty message: it is acknowledged, and the message waits
  pub queued :
      (host_at (from_line (serving []) 0 (packet_frame 0 (only_packet (flow (host 0 2) (host 0 1) 2) 0))).state 0).queue
      ≡ messages_between (host 0 2) (host 0 1) 1
  pub acknowledged :
      (from_line (serving []) 0 (packet_frame 0 (only_packet (flow (host 0 2) (host 0 1) 2) 0))).frames
      ≡ on_port 0 ack_frame ∷ []
  -- the sixteenth message has room, and for the seventeenth the frame counts as lost
  pub sixteen :
      length
      (host_at (from_line (serving (messages_between (host 0 2) (host 0 1) 15)) 0
      (packet_frame 0 (only_packet (flow (host 0 2) (host 0 1) 50) 0))).state 0).queue
      ≡ 16
  pub lost :
      from_line (serving (messages_between (host 0 2) (host 0 1) 16)) 0
      (packet_frame 0 (only_packet (flow (host 0 2) (host 0 1) 50) 0))
      ≡ ignored (serving (messages_between (host 0 2) (host 0 1) 16))
  -- a body without a mark calls for no room in the queue: it is acknowledged, and no message waits
  pub unmarked :
      (from_line (serving (messages_between (host 0 2) (host 0 1) 16)) 0
      (packet_frame 0 (unmarked_packet (flow (host 0 2) (host 0 1) 50) 0))).frames
      ≡ on_port 0 ack_frame ∷ []
  pub no_message :
      (host_at
      (from_line (serving []) 0 (packet_frame 0 (unmarked_packet (flow (host 0 2) (host 0 1) 50) 0))).state 0).queue
      ≡ []
  -- a piece of a longer message is lost where eight other flows have the slots, and kept beside seven
  pub no_slot :
      from_line (record (serving []) { slots = slots_of 8 }) 0
      (packet_frame 0 (first_packet (flow (host 0 2) (host 0 1) 8) 0 (replicate 1008 false)))
      ≡ ignored (record (serving []) { slots = slots_of 8 })
  pub eighth_slot :
      length
      (from_line (record (serving []) { slots = slots_of 7 }) 0
      (packet_frame 0 (first_packet (flow (host 0 2) (host 0 1) 7) 0 (replicate 1008 false)))).state.slots
      ≡ 8
  -- a message for a host that isn't there is acknowledged, and Dead goes back
  pub undeliverable :
      (from_line (serving []) 0 (packet_frame 0 (only_packet (flow (host 0 2) (host 2 1) 5) 7))).frames
      ≡ on_port 0 ack_frame ∷
      on_port 0
      (record (packet_frame 0 (answer_packet kind.Dead (flow (host 0 2) (host 2 1) 5) 7)) { acks = ack_frame.acks }) ∷
      []
  -- that Dead calls for room: beside 32 packets the frame counts as lost, but not where no live route leads to the
  -- source
  pub dead_has_room :
      from_line (busy 32) 1 (packet_frame 0 (only_packet (flow (host 0 3) (host 2 1) 5) 0)) ≡ ignored (busy 32)
  pub dead_is_dropped :
      (from_line (busy 32) 1 (packet_frame 0 (only_packet (flow (host 0 5) (host 2 1) 5) 0))).frames
      ≡ on_port 1 ack_frame ∷ []
  -- a piece for a host that is down clears its flow's slot, and no other
  pub slot_cleared :
      (from_line (host_down (record (serving []) { slots = slots_of 2 }) 0).state 0
      (packet_frame 0 (first_packet (flow (host 0 2) (host 0 1) 1) 0 (replicate 1008 false)))).state.slots
      ≡ slots_of 1
  -- an answer to a message that isn't outstanding is acknowledged, and nothing waits for the host
  pub stale :
      (from_line (serving []) 0 (packet_frame 0 (answer_packet kind.Rfnm (flow (host 0 1) (host 0 2) 5) 0))).frames
      ≡ on_port 0 ack_frame ∷ []
  pub none_told :
      (host_at
      (from_line (serving []) 0
      (packet_frame 0 (answer_packet kind.Rfnm (flow (host 0 1) (host 0 2) 5) 0))).state 0).answers
      ≡ []
