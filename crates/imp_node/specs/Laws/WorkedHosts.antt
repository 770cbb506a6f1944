-- A law of src/law.rt: its fields are the clauses.
use Rattle.std.specs.Prelude.{None, Some, [], false, true, ◌++◌, ◌∷◌, ◌≡◌}
use Rattle.interface.specs.declared.carrier.CarrierFault.TheVariants as fault
use Rattle.interface.specs.declared.crossing.Answer.TheVariants as answer
use Rattle.interface.specs.declared.crossing.Inbound.TheVariants as inbound
use Rattle.packetiser.specs.declared.packet.PacketKind.TheVariants as kind
use Rattle.imp_node.specs.Examples.{empty_message, flow, from_2, host, imp, messages_between, only_packet, packet_frame}
use Rattle.imp_node.specs.Examples.{packets_to, queueing, serving}
use Rattle.imp_node.specs.Flows.{answer_packet}
use Rattle.imp_node.specs.Lines.{on_port}
use Rattle.imp_node.specs.Offering.{from_host, from_host_refusal}
use Rattle.imp_node.specs.Room.{stored_count}
use Rattle.imp_node.specs.State.{host_at}
use Rattle.imp_node.specs.Stopping.{host_down}
use Rattle.imp_node.specs.Taking as taking
use Rattle.imp_node.specs.Taking.{next_for, to_host, to_host_refusal}

-- Hosts at IMP 1: what they send, take and leave to others.
pub record WorkedHosts : Type 0 where
  -- nothing was heard of IMP 2, so Dead waits at once, no frame goes out, and no number is begun
  pub nowhere :
      (host_at (from_host (imp 1 (None ∷ []) []) (empty_message (flow (host 0 1) (host 0 2) 7))).state 0).answers
      ≡ record { kind = answer.Dead; flow = flow (host 0 1) (host 0 2) 7 } ∷ []
  pub nothing_sent : (from_host (imp 1 (None ∷ []) []) (empty_message (flow (host 0 1) (host 0 2) 7))).frames ≡ []
  pub accepted : from_host_refusal (imp 1 (None ∷ []) []) (empty_message (flow (host 0 1) (host 0 2) 7)) ≡ None
  pub blocked :
      from_host_refusal (from_host (imp 1 (None ∷ []) []) (empty_message (flow (host 0 1) (host 0 2) 7))).state
      (empty_message (flow (host 0 1) (host 0 2) 7))
      ≡ Some fault.Blocked
  -- IMP 2 was heard: the packet of an empty message goes out, with the number 0
  pub away :
      (from_host (imp 1 (Some from_2 ∷ []) []) (empty_message (flow (host 0 1) (host 0 2) 7))).frames
      ≡ on_port 0 (packet_frame 0 (only_packet (flow (host 0 1) (host 0 2) 7) 0)) ∷ []
  -- within one IMP a message waits after fifteen others, and has no room after sixteen
  pub within :
      from_host_refusal (queueing (messages_between (host 0 1) (host 1 1) 15))
      (empty_message (flow (host 0 1) (host 1 1) 17))
      ≡ None
  pub queue_full :
      from_host_refusal (queueing (messages_between (host 0 1) (host 1 1) 16))
      (empty_message (flow (host 0 1) (host 1 1) 18))
      ≡ Some fault.NoRoom
  pub here :
      (host_at (from_host (queueing (messages_between (host 0 1) (host 1 1) 15))
      (empty_message (flow (host 0 1) (host 1 1) 17))).state 1).queue
      ≡ messages_between (host 0 1) (host 1 1) 16
  -- a flow that isn't idle is blocked, whether or not there would be room
  pub blocked_first :
      from_host_refusal (from_host (queueing (messages_between (host 0 1) (host 1 1) 15))
      (empty_message (flow (host 0 1) (host 1 1) 17))).state (empty_message (flow (host 0 1) (host 1 1) 17))
      ≡ Some fault.Blocked
  -- the refusals before that: a host of another IMP, a host that isn't there
  pub other_imp :
      from_host_refusal (imp 1 (Some from_2 ∷ []) []) (empty_message (flow (host 0 3) (host 0 2) 7)) ≡ Some fault.NoSuch
  pub other_host :
      from_host_refusal (imp 1 (Some from_2 ∷ []) []) (empty_message (flow (host 2 1) (host 0 2) 7)) ≡ Some fault.NoSuch
  -- a message that is taken gives its source an RFNM, which goes out in the same step, and not before
  pub taken :
      next_for (serving (messages_between (host 0 2) (host 0 1) 2)) 0
      ≡ Some (inbound.Message (empty_message (flow (host 0 2) (host 0 1) 2)))
  pub rfnm :
      (to_host (serving (messages_between (host 0 2) (host 0 1) 2)) 0).frames
      ≡ on_port 0 (packet_frame 0 (answer_packet kind.Rfnm (flow (host 0 2) (host 0 1) 2) 0)) ∷ []
  -- without a live route to the source the RFNM is dropped, so that beside 32 packets the message is taken all the same
  pub needs_no_room :
      to_host_refusal (record (serving (messages_between (host 0 5) (host 0 1) 1)) { store = packets_to 2 32 }) 0 ≡ None
  -- a source at the same IMP whose message is not outstanding any more gets none
  pub given_up : (host_at (to_host (queueing (messages_between (host 0 1) (host 1 1) 1)) 1).state 0).answers ≡ []
  -- a host that goes down gives Dead to the source of each message that waited, and not to itself
  pub dead :
      (host_down
      (serving (messages_between (host 0 1) (host 0 1) 1 ++ messages_between (host 0 2) (host 0 1) 2)) 0).frames
      ≡ on_port 0 (packet_frame 0 (answer_packet kind.Dead (flow (host 0 2) (host 0 1) 2) 0)) ∷
      on_port 0 (packet_frame 1 (answer_packet kind.Dead (flow (host 0 2) (host 0 1) 3) 0)) ∷ []
  pub cleared :
      host_at (host_down (serving (messages_between (host 0 2) (host 0 1) 2)) 0).state 0
      ≡ record { up = false; answers = []; queue = [] }
  -- only where there is room: beside 31 packets the first Dead is stored, and the second is not
  pub dead_with_room :
      stored_count
      (host_down (record (serving (messages_between (host 0 2) (host 0 1) 2)) { store = packets_to 2 31 }) 0).state
      ≡ 32
  -- a host gets something where an answer or a message waits, and nothing refuses the taking
  pub gives :
      (taking.gives (serving (messages_between (host 0 2) (host 0 1) 1)) 0 ≡ true) ×
      (taking.gives (from_host (imp 1 (None ∷ []) []) (empty_message (flow (host 0 1) (host 0 2) 7))).state 0 ≡ true)
  pub gives_nothing :
      (taking.gives (serving []) 0 ≡ false) × (taking.gives (serving []) 2 ≡ false) ×
      (taking.gives (record (serving (messages_between (host 0 2) (host 0 1) 1)) { store = packets_to 2 32 }) 0 ≡ false)
  -- nothing waits: nothing is given
  pub nothing :
      (to_host_refusal (serving []) 0 ≡ None) × (next_for (serving []) 0 ≡ None) ×
      ((to_host (serving []) 0).frames ≡ [])
