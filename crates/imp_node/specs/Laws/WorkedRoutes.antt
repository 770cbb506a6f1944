-- A law of src/law.rt: its fields are the clauses.
use Rattle.std.specs.Prelude.{Some, [], false, map, replicate, ◌-◌, ◌∷◌, ◌≡◌}
use Rattle.imp_channel.specs.declared.frame.Content.TheVariants as content
use Rattle.interface.specs.Host.{most_imps}
use Rattle.routing.specs.Vector.{infinite}
use Rattle.imp_node.specs.Examples.{busy, flow, from_1, from_2, from_3, from_3_near_2, host, imp, only_packet}
use Rattle.imp_node.specs.Examples.{packet_frame, packets_to}
use Rattle.imp_node.specs.Lines.{end_down, on_port, resend, route}
use Rattle.imp_node.specs.Pump.{pump}

-- What an IMP announces of routes, and that packets find another one.
pub record WorkedRoutes : Type 0 where
  -- the middle one of three IMPs in a row
  pub told :
      (route (imp 2 (Some from_1 ∷ Some from_3 ∷ []) [])).frames
      ≡ map
      (λ k.
      on_port k
      (record { acks = replicate 8 false; content = content.Routes (1 ∷ 0 ∷ 1 ∷ replicate (most_imps - 3) infinite) }))
      (0 ∷ 1 ∷ [])
  -- a packet in a channel of a line that goes down takes the line of another neighbour that knows a route
  pub rerouted :
      (end_down (pump [] (imp 1 (Some from_2 ∷ Some from_3_near_2 ∷ []) (packets_to 2 1))).state 0).frames
      ≡ on_port 1 (packet_frame 0 (only_packet (flow (host 0 1) (host 0 2) 0) 0)) ∷ []
  -- and is dropped where none does
  pub unrouted : (end_down (busy 1) 0).frames ≡ []
  pub nothing_kept : (end_down (busy 1) 0).state.store ≡ []
  -- of nine packets eight are in channels: the one that waits goes first on the other line, and the last of the eight
  -- waits now
  pub waiting_first :
      (end_down (pump [] (imp 1 (Some from_2 ∷ Some from_3_near_2 ∷ []) (packets_to 2 9))).state 0).state.store
      ≡ only_packet (flow (host 0 1) (host 0 2) 7) 0 ∷ []
  -- and those of channels go in order of their channels
  pub channels_in_order :
      (end_down (pump [] (imp 1 (Some from_2 ∷ Some from_3_near_2 ∷ []) (packets_to 2 2))).state 0).frames
      ≡ on_port 1 (packet_frame 0 (only_packet (flow (host 0 1) (host 0 2) 0) 0)) ∷
      on_port 1 (packet_frame 1 (only_packet (flow (host 0 1) (host 0 2) 1) 0)) ∷ []
  -- what is not acknowledged is sent again, in order of its channels
  pub sent_again : (resend (busy 2)).frames ≡ (pump [] (imp 1 (Some from_2 ∷ Some from_3 ∷ []) (packets_to 2 2))).frames
