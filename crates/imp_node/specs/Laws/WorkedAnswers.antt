-- A law of src/law.rt: its fields are the clauses.
use Rattle.std.specs.Prelude.{None, Some, [], false, true, ◌∷◌, ◌≡◌}
use Rattle.interface.specs.declared.carrier.CarrierFault.TheVariants as fault
use Rattle.packetiser.specs.declared.packet.PacketKind.TheVariants as kind
use Rattle.imp_node.specs.Arrival.{from_line, from_line_refusal, ignored}
use Rattle.imp_node.specs.Examples.{busy, empty_message, flow, from_2, host, imp, messages_between, only_packet}
use Rattle.imp_node.specs.Examples.{packet_frame, packets_to, serving, slots_of}
use Rattle.imp_node.specs.Flows.{answer_packet}
use Rattle.imp_node.specs.Lines.{end_down, end_down_refusal, end_up_refusal}
use Rattle.imp_node.specs.Offering as offering
use Rattle.imp_node.specs.Offering.{from_host}
use Rattle.imp_node.specs.Queries.{holds, holds_data, holds_packet, touches}
use Rattle.imp_node.specs.Stopping.{abandon_refusal, forget_refusal, host_down, host_down_refusal, host_up_refusal}
use Rattle.imp_node.specs.Taking.{to_host_refusal}

-- The refusals of the other calls, and what an IMP says that it holds.
pub record WorkedAnswers : Type 0 where
  -- hosts and ends of lines that are down, up or not there
  pub host_not_there :
      (to_host_refusal (serving []) 2 ≡ Some fault.NoSuch) × (host_down_refusal (serving []) 2 ≡ Some fault.NoSuch) ×
      (host_up_refusal (serving []) 2 ≡ Some fault.NoSuch)
  pub host_is_down :
      (to_host_refusal (host_down (serving []) 0).state 0 ≡ Some fault.IsDown) ×
      (host_down_refusal (host_down (serving []) 0).state 0 ≡ Some fault.IsDown)
  pub host_is_up : host_up_refusal (serving []) 0 ≡ Some fault.IsUp
  pub end_not_there :
      (end_down_refusal (serving []) 1 ≡ Some fault.NoSuch) × (end_up_refusal (serving []) 1 ≡ Some fault.NoSuch) ×
      (from_line_refusal (serving []) 1 ≡ Some fault.NoSuch)
  pub end_is_down : end_down_refusal (end_down (serving []) 0).state 0 ≡ Some fault.IsDown
  pub end_is_up : end_up_refusal (serving []) 0 ≡ Some fault.IsUp
  pub own_numbers : (forget_refusal (serving []) 1 ≡ Some fault.NoSuch) × (forget_refusal (serving []) 2 ≡ None)
  pub slots :
      (abandon_refusal (record (serving []) { slots = slots_of 1 }) (flow (host 0 2) (host 0 1) 0) ≡ None) ×
      (abandon_refusal (record (serving []) { slots = slots_of 1 }) (flow (host 0 2) (host 0 1) 1) ≡ Some fault.NoSuch)
  -- a taking whose RFNM has no room is refused, and a frame at an end that is down is ignored
  pub no_room :
      to_host_refusal (record (serving (messages_between (host 0 2) (host 0 1) 1)) { store = packets_to 2 32 }) 0
      ≡ Some fault.NoRoom
  pub ignored :
      from_line (end_down (serving []) 0).state 0 (packet_frame 0 (only_packet (flow (host 0 2) (host 0 1) 2) 0))
      ≡ ignored (end_down (serving []) 0).state
  -- packets in channels and those that wait, messages in queues: each with its flow and its number
  pub in_channel :
      (holds (busy 9) (flow (host 0 1) (host 0 2) 0) 0 ≡ true) ×
      (holds (busy 9) (flow (host 0 1) (host 0 2) 0) 1 ≡ false)
  pub waiting :
      (holds (busy 9) (flow (host 0 1) (host 0 2) 8) 0 ≡ true) ×
      (holds (busy 9) (flow (host 0 1) (host 0 2) 9) 0 ≡ false)
  pub in_slot : holds (record (serving []) { slots = slots_of 1 }) (flow (host 0 2) (host 0 1) 0) 0 ≡ true
  pub in_queue :
      (holds (serving (messages_between (host 0 2) (host 0 1) 1)) (flow (host 0 2) (host 0 1) 2) 0 ≡ true) ×
      (holds_data (serving (messages_between (host 0 2) (host 0 1) 1)) 2 1 ≡ true)
  -- a packet that waits and one in a channel are held in the store or a channel; a piece in a slot is not
  pub packet_held : (holds_packet (imp 1 (None ∷ []) (packets_to 2 1)) ≡ true) × (holds_packet (busy 1) ≡ true)
  pub no_packet_held :
      (holds_packet (busy 0) ≡ false) × (holds_packet (record (serving []) { slots = slots_of 1 }) ≡ false)
  -- an answer that waits for a host does not count
  pub answers_aside :
      touches (from_host (imp 1 (None ∷ []) []) (empty_message (flow (host 0 1) (host 0 2) 7))).state 2 ≡ false
  -- data from one IMP to another; an RFNM is none, but is something of a flow from or to both
  pub «data» :
      (holds_data (busy 1) 1 2 ≡ true) × (holds_data (busy 1) 2 1 ≡ false) × (touches (busy 1) 1 ≡ true) ×
      (touches (busy 1) 2 ≡ true) × (touches (busy 1) 3 ≡ false)
  pub no_data :
      (holds_data (imp 1 [] (answer_packet kind.Rfnm (flow (host 0 2) (host 0 1) 5) 0 ∷ [])) 2 1 ≡ false) ×
      (touches (imp 1 [] (answer_packet kind.Rfnm (flow (host 0 2) (host 0 1) 5) 0 ∷ [])) 2 ≡ true)
  -- a question counts as data, and what reports that a message never came doesn't
  pub questions :
      (holds_data (imp 1 [] (answer_packet kind.Ask (flow (host 0 2) (host 0 1) 5) 0 ∷ [])) 2 1 ≡ true) ×
      (holds_data (imp 1 [] (answer_packet kind.Never (flow (host 0 2) (host 0 1) 5) 0 ∷ [])) 2 1 ≡ false)
  -- what would begin a number: from a host here that is up, to an IMP with a route or a host here that is up
  pub begins :
      (offering.begins (imp 1 (Some from_2 ∷ []) []) (flow (host 0 1) (host 0 2) 7) ≡ true) ×
      (offering.begins (imp 1 (Some from_2 ∷ []) []) (flow (host 0 1) (host 1 1) 7) ≡ true)
  pub begins_none :
      (offering.begins (imp 1 (None ∷ []) []) (flow (host 0 1) (host 0 2) 7) ≡ false) ×
      (offering.begins (imp 1 (Some from_2 ∷ []) []) (flow (host 0 3) (host 0 2) 7) ≡ false) ×
      (offering.begins (imp 1 (Some from_2 ∷ []) []) (flow (host 0 1) (host 2 1) 7) ≡ false)
