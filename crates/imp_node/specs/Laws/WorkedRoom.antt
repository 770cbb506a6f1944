-- A law of src/law.rt: its fields are the clauses.
use Rattle.std.specs.Prelude.{None, Some, [], length, ◌∷◌, ◌≡◌}
use Rattle.interface.specs.declared.carrier.CarrierFault.TheVariants as fault
use Rattle.imp_node.specs.Arrival.{from_line, ignored}
use Rattle.imp_node.specs.Examples.{ack_frame, busy, empty_message, flow, host, only_packet, packet_frame}
use Rattle.imp_node.specs.Lines.{on_port}
use Rattle.imp_node.specs.Offering.{from_host_refusal}
use Rattle.imp_node.specs.Room.{stored_count}

-- The store has 32 places, those in channels counted, and a frame without room counts as lost.
pub record WorkedRoom : Type 0 where
  -- of 32 packets for one neighbour eight are in channels, and all 32 count
  pub counted : (stored_count (busy 32) ≡ 32) × (length (busy 32).store ≡ 24)
  -- then a fresh packet for that neighbour changes nothing and is not acknowledged
  pub lost : from_line (busy 32) 1 (packet_frame 0 (only_packet (flow (host 0 3) (host 0 2) 5) 0)) ≡ ignored (busy 32)
  -- room is asked for before acknowledgements are taken: that the same frame would free a channel does not help
  pub asked_before :
      from_line (busy 32) 0
      (record (packet_frame 0 (only_packet (flow (host 0 2) (host 0 2) 5) 0)) { acks = ack_frame.acks })
      ≡ ignored (busy 32)
  -- a packet without a route is dropped, so it calls for no room, and is acknowledged
  pub dropped :
      (from_line (busy 32) 1 (packet_frame 0 (only_packet (flow (host 0 3) (host 0 5) 5) 0))).frames
      ≡ on_port 1 ack_frame ∷ []
  -- the 32nd packet has room: it is acknowledged, and waits as the 24th
  pub stored :
      (from_line (busy 31) 1 (packet_frame 0 (only_packet (flow (host 0 3) (host 0 2) 5) 0))).frames
      ≡ on_port 1 ack_frame ∷ []
  pub waiting :
      length (from_line (busy 31) 1 (packet_frame 0 (only_packet (flow (host 0 3) (host 0 2) 5) 0))).state.store ≡ 24
  -- a repeat calls for no room and changes nothing, but is acknowledged again
  pub repeated :
      from_line (from_line (busy 31) 1 (packet_frame 0 (only_packet (flow (host 0 3) (host 0 2) 5) 0))).state 1
      (packet_frame 0 (only_packet (flow (host 0 3) (host 0 2) 5) 0))
      ≡ record {
        state = (from_line (busy 31) 1 (packet_frame 0 (only_packet (flow (host 0 3) (host 0 2) 5) 0))).state;
        frames = on_port 1 ack_frame ∷ [];
      }
  -- a host's message of one packet has room beside 31 packets, and none beside 32
  pub offered : from_host_refusal (busy 31) (empty_message (flow (host 0 1) (host 0 2) 40)) ≡ None
  pub no_room : from_host_refusal (busy 32) (empty_message (flow (host 0 1) (host 0 2) 40)) ≡ Some fault.NoRoom
