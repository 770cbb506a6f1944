-- A law of src/law.rt: its fields are the clauses.
use Rattle.std.specs.FinMap as map
use Rattle.std.specs.Prelude.{Some, [], false, replicate, true, ◌∷◌, ◌≡◌}
use Rattle.imp_channel.specs.declared.frame.Content.TheVariants as content
use Rattle.link_table.specs.declared.destination.Fate.TheVariants as fate
use Rattle.packetiser.specs.declared.packet.PacketKind.TheVariants as kind
use Rattle.imp_node.specs.Arrival.{from_line}
use Rattle.imp_node.specs.Contents.{packets}
use Rattle.imp_node.specs.Examples.{ack_frame, flow, host, messages_between, only_packet, packet_frame, sent_imp}
use Rattle.imp_node.specs.Examples.{serving, unmarked_packet}
use Rattle.imp_node.specs.Flows.{answer_packet, noted}
use Rattle.imp_node.specs.Lines.{on_port}
use Rattle.imp_node.specs.Stopping.{host_down}
use Rattle.imp_node.specs.Taking.{to_host}

-- What is kept of messages that were not taken, and what a repeat brings. Host 0 at IMP 1 is served over port 0, from
-- host 0 at IMP 2 on link 2.
pub record WorkedFates : Type 0 where
  -- a body without a mark never comes: that is noted of its number, and so a question about it is answered
  pub unmarked :
      map.get (from_line (serving []) 0 (packet_frame 0 (unmarked_packet (flow (host 0 2) (host 0 1) 2) 0))).state.kept
      (flow (host 0 2) (host 0 1) 2)
      ≡ Some (record { number = 0; fate = fate.Never })
  pub unmarked_asked :
      (from_line (from_line (serving []) 0 (packet_frame 0 (unmarked_packet (flow (host 0 2) (host 0 1) 2) 0))).state 0
      (packet_frame 1 (answer_packet kind.Ask (flow (host 0 2) (host 0 1) 2) 0))).frames
      ≡ on_port 0 (record { acks = true ∷ true ∷ replicate 6 false; content = content.Nothing }) ∷
      on_port 0
      (record
      (packet_frame 0
      (answer_packet kind.Never (flow (host 0 2) (host 0 1) 2) 0)) { acks = true ∷ true ∷ replicate 6 false }) ∷ []
  -- a message that waits for a host that goes down is dead, and not one that never came
  pub stopped :
      map.get
      (host_down
      (noted (flow (host 0 2) (host 0 1) 2) 0 fate.Waits
      (serving (messages_between (host 0 2) (host 0 1) 1))) 0).state.kept (flow (host 0 2) (host 0 1) 2)
      ≡ Some (record { number = 0; fate = fate.Dead })
  -- what becomes of message 0 is passed over where number 5 was noted since
  pub older_stopped :
      map.get
      (host_down
      (noted (flow (host 0 2) (host 0 1) 2) 5 fate.Waits
      (serving (messages_between (host 0 2) (host 0 1) 1))) 0).state.kept (flow (host 0 2) (host 0 1) 2)
      ≡ Some (record { number = 5; fate = fate.Waits })
  pub older_taken :
      map.get
      (to_host
      (noted (flow (host 0 2) (host 0 1) 2) 5 fate.Waits
      (serving (messages_between (host 0 2) (host 0 1) 1))) 0).state.kept (flow (host 0 2) (host 0 1) 2)
      ≡ Some (record { number = 5; fate = fate.Waits })
  -- the acknowledgement bits of a repeat count: they free the channel of the packet that went out. Without them it
  -- stays there
  pub repeat_frees :
      packets (from_line (from_line sent_imp 0 (packet_frame 0 (only_packet (flow (host 0 2) (host 0 1) 2) 0))).state 0
      (record (packet_frame 0 (only_packet (flow (host 0 2) (host 0 1) 2) 0)) { acks = ack_frame.acks })).state
      ≡ []
  pub repeat_keeps :
      packets (from_line (from_line sent_imp 0 (packet_frame 0 (only_packet (flow (host 0 2) (host 0 1) 2) 0))).state 0
      (packet_frame 0 (only_packet (flow (host 0 2) (host 0 1) 2) 0))).state
      ≡ only_packet (flow (host 0 1) (host 0 2) 7) 0 ∷ []
