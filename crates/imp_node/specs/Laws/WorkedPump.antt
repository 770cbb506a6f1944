-- A law of src/law.rt: its fields are the clauses.
use Rattle.std.specs.Prelude.{None, Some, [], false, map, replicate, true, ◌++◌, ◌∷◌, ◌≡◌}
use Rattle.imp_channel.specs.declared.frame.Content.TheVariants as content
use Rattle.imp_node.specs.Arrival.{from_line}
use Rattle.imp_node.specs.Examples.{ack_frame, busy, flow, from_2, from_3, host, imp, only_packet, packet_frame}
use Rattle.imp_node.specs.Examples.{packets_to}
use Rattle.imp_node.specs.Lines.{on_port}
use Rattle.imp_node.specs.Pump.{pump}

-- Waiting packets go out in order, into the lowest free channels of their routes' lines.
pub record WorkedPump : Type 0 where
  -- two packets for a neighbour that was heard go into channels 0 and 1 of its line
  pub in_order :
      (pump [] (imp 1 (Some from_2 ∷ []) (packets_to 2 2))).frames
      ≡ on_port 0 (packet_frame 0 (only_packet (flow (host 0 1) (host 0 2) 0) 0)) ∷
      on_port 0 (packet_frame 1 (only_packet (flow (host 0 1) (host 0 2) 1) 0)) ∷ []
  pub gone : (pump [] (imp 1 (Some from_2 ∷ []) (packets_to 2 2))).state.store ≡ []
  -- of nine packets the ninth waits, and a packet after it that is for another neighbour goes out
  pub overtaken :
      map (λ out. out.port) (pump [] (imp 1 (Some from_2 ∷ Some from_3 ∷ []) (packets_to 2 9 ++ packets_to 3 1))).frames
      ≡ replicate 8 0 ++ 1 ∷ []
  pub waits :
      (pump [] (imp 1 (Some from_2 ∷ Some from_3 ∷ []) (packets_to 2 9 ++ packets_to 3 1))).state.store
      ≡ only_packet (flow (host 0 1) (host 0 2) 8) 0 ∷ []
  -- once its channel is acknowledged it goes out, under the channel's other bit
  pub freed :
      (from_line (busy 9) 0 ack_frame).frames
      ≡ on_port 0
      (record {
        acks = replicate 8 false;
        content =
            content.Packet (record { channel = 0; bit = true; packet = only_packet (flow (host 0 1) (host 0 2) 8) 0 });
      }) ∷
      []
  -- packets without a live route are dropped
  pub dropped : (pump [] (imp 1 (None ∷ Some from_3 ∷ []) (packets_to 2 2))).state ≡ imp 1 (None ∷ Some from_3 ∷ []) []
