-- The laws of src/ that are longer than a line: each is a record, and its fields are the clauses.
use Rattle.std.specs.Prelude.{None, Some, [], false, replicate, true, ◌-◌, ◌∷◌, ◌≡◌}
use Rattle.imp_channel.specs.declared.frame.Content.TheVariants as content
use Rattle.imp_node.specs.Examples.{ack_frame, flow, host, no_acks, only_packet, packet_frame, packets_to}
use Rattle.imp_node.specs.State.{no_host}
use Rattle.interface.specs.Host.{most_imps}
use Rattle.interface.specs.declared.carrier.CarrierFault.TheVariants as fault
use Rattle.interface.specs.declared.event.Direction.TheVariants as way
use Rattle.interface.specs.declared.event.NetEvent.TheVariants as event
use Rattle.routing.specs.Vector.{infinite}
use Rattle.subnet.specs.Alive.{is_alive, messages, packets}
use Rattle.subnet.specs.Events as events
use Rattle.subnet.specs.Events.{deliver, drop_frame, giving_up_refusal, offer_refusal, quiet_round, refreshed}
use Rattle.subnet.specs.Events.{starting_refusal, step_refusal, stepped, take_refusal}
use Rattle.subnet.specs.Examples.{ask_frame, begun_up_to, data_frame, expecting, first_in_row, flow_1_3, flow_3_1}
use Rattle.subnet.specs.Examples.{imp_1, imp_2, keeping_ours, keeping_own, last_in_row, middle_in_row, never_frame}
use Rattle.subnet.specs.Examples.{opened_pair, our_message, our_queued, ours, pair, passing_frame, past_one, rfnm_frame}
use Rattle.subnet.specs.Examples.{row, sending_ours, serving_ours, triangle, wire}
use Rattle.subnet.specs.Net.{frames_on, wire_at}

-- Frames that are delivered and dropped.
pub record WorkedFrames : Type 0 where
  -- a frame that is delivered stays alive, and its acknowledgement goes back
  pub stays :
      (deliver (pair (Some imp_1) (Some imp_2) (data_frame 0 ∷ []) []) 0 way.Forward 0).lines
      ≡ wire (data_frame 0 ∷ []) (ack_frame ∷ []) ∷ []
  pub came :
      messages (deliver (pair (Some imp_1) (Some imp_2) (data_frame 0 ∷ []) []) 0 way.Forward 0) ≡ our_queued 0 ∷ []
  -- a frame that is dropped is gone, and no other
  pub dropped :
      (drop_frame
      (pair (Some imp_1) (Some imp_2) (data_frame 0 ∷ data_frame 1 ∷ data_frame 2 ∷ []) []) 0 way.Forward 1).lines
      ≡ wire (data_frame 0 ∷ data_frame 2 ∷ []) [] ∷ []
  pub killed :
      (is_alive (pair (Some imp_1) (Some imp_2) (data_frame 1 ∷ []) []) ours 1 ≡ true) ×
      (is_alive (drop_frame (pair (Some imp_1) (Some imp_2) (data_frame 1 ∷ []) []) 0 way.Forward 0) ours 1 ≡ false)
  -- a frame that arrives garbled is gone too, and nothing is acknowledged
  pub garbled :
      stepped (pair (Some imp_1) (Some imp_2) (data_frame 0 ∷ data_frame 1 ∷ []) []) (event.Garble 0 way.Forward 0)
      ≡ pair (Some imp_1) (Some imp_2) (data_frame 1 ∷ []) []
  -- at an IMP that is down it is not refused, and ignored
  pub ignored :
      (step_refusal (pair (Some imp_1) None (data_frame 0 ∷ []) []) (event.Deliver 0 way.Forward 0) ≡ None) ×
      (deliver (pair (Some imp_1) None (data_frame 0 ∷ []) []) 0 way.Forward 0 ≡ pair (Some imp_1) None
      (data_frame 0 ∷ []) [])
  -- frames and lines that aren't there, in the way that is named
  pub no_frame :
      (step_refusal (pair (Some imp_1) (Some imp_2) (data_frame 0 ∷ []) []) (event.Deliver 0 way.Forward 1)
      ≡ Some fault.NoSuch) ×
      (step_refusal (pair (Some imp_1) (Some imp_2) (data_frame 0 ∷ []) []) (event.Drop 0 way.Back 0)
      ≡ Some fault.NoSuch) ×
      (step_refusal (pair (Some imp_1) (Some imp_2) (data_frame 0 ∷ []) []) (event.Deliver 1 way.Forward 0)
      ≡ Some fault.NoSuch)

-- What is alive, and the four refusals that wait for packets to die.
pub record WorkedStillAlive : Type 0 where
  -- data, an answer that travels, a question and a message in a queue are alive; an answer that waits for its host is
  -- not
  pub alive :
      (is_alive (pair (Some imp_1) (Some imp_2) (data_frame 0 ∷ []) []) ours 0 ≡ true) ×
      (is_alive (pair (Some imp_1) (Some imp_2) [] (rfnm_frame 0 ∷ [])) ours 0 ≡ true) ×
      (is_alive (pair (Some imp_1) (Some serving_ours) [] []) ours 0 ≡ true) ×
      (is_alive (pair (Some sending_ours) (Some imp_2) [] []) ours 0 ≡ true)
  pub asked :
      (is_alive (pair (Some imp_1) (Some imp_2) (ask_frame 0 ∷ []) []) ours 0 ≡ true) ×
      (is_alive (pair (Some imp_1) (Some imp_2) [] (never_frame 0 ∷ [])) ours 0 ≡ true)
  pub other :
      (is_alive (pair (Some imp_1) (Some serving_ours) (data_frame 0 ∷ []) []) ours 1 ≡ false) ×
      (is_alive (pair (Some imp_1) (Some serving_ours) (data_frame 0 ∷ []) []) (flow (host 0 1) (host 0 2) 8) 0 ≡ false)
  -- an offer: the number 32,767 before the last is alive, and the next one is not in the way
  pub offer_window :
      offer_refusal (pair (Some (begun_up_to 32767)) (Some imp_2) (data_frame 0 ∷ []) []) our_message
      ≡ Some fault.StillAlive
  pub offer_within :
      offer_refusal (pair (Some (begun_up_to 32767)) (Some imp_2) (data_frame 1 ∷ []) []) our_message ≡ None
  -- a question about it counts too, and so does the packet that says that it never came
  pub offer_asked :
      (offer_refusal (pair (Some (begun_up_to 32767)) (Some imp_2) (ask_frame 0 ∷ []) []) our_message
      ≡ Some fault.StillAlive) ×
      (offer_refusal (pair (Some (begun_up_to 32767)) (Some imp_2) [] (never_frame 0 ∷ [])) our_message
      ≡ Some fault.StillAlive)
  -- numbers wrap around, also where fewer were begun; an answer counts like data
  pub offer_round :
      offer_refusal (pair (Some (begun_up_to 0)) (Some imp_2) [] (rfnm_frame 32769 ∷ [])) our_message
      ≡ Some fault.StillAlive
  -- before the first number nothing is in the way
  pub offer_first : offer_refusal (pair (Some imp_1) (Some imp_2) (data_frame 32769 ∷ []) []) our_message ≡ None
  -- or the destination's IMP keeps the number that would be begun: number 0 was taken and answered, and 1 to 65,535
  -- were given up. Another number that it keeps is not in the way, and neither is this one once it was forgotten
  pub offer_kept :
      offer_refusal (pair (Some (begun_up_to 65535)) (Some keeping_ours) [] []) our_message ≡ Some fault.StillAlive
  pub offer_unkept : offer_refusal (pair (Some (begun_up_to 65534)) (Some keeping_ours) [] []) our_message ≡ None
  pub forget_kept : step_refusal (pair (Some (begun_up_to 65535)) (Some keeping_ours) [] []) (event.Forget 2 1) ≡ None
  pub offer_forgotten :
      offer_refusal (stepped (pair (Some (begun_up_to 65535)) (Some keeping_ours) [] []) (event.Forget 2 1)) our_message
      ≡ None
  -- `NoRoom` comes after it; and what would begin no number, without a route or from a host that is down, does not wait
  pub offer_full :
      (offer_refusal (pair (Some (record (begun_up_to 32767) { store = packets_to 3 32 })) (Some imp_2)
      (data_frame 0 ∷ []) []) our_message ≡ Some fault.StillAlive) ×
      (offer_refusal (pair (Some (record (begun_up_to 32767) { store = packets_to 3 32 })) (Some imp_2)
      (data_frame 1 ∷ []) []) our_message ≡ Some fault.NoRoom)
  pub offer_nowhere :
      offer_refusal (pair (Some (record (begun_up_to 32767) { routes = record { own = 1; heard = None ∷ []; claims = false } }))
      (Some imp_2) (data_frame 0 ∷ []) []) our_message
      ≡ None
  pub offer_down :
      offer_refusal (pair (Some (record (begun_up_to 32767) { hosts = no_host ∷ no_host ∷ [] })) (Some imp_2)
      (data_frame 0 ∷ []) []) our_message
      ≡ Some fault.IsDown
  -- giving up: the outstanding number is alive, as data, as an answer that travels, as a question, or in a queue
  pub give_up_data :
      giving_up_refusal (pair (Some expecting) (Some imp_2) (data_frame 0 ∷ []) []) ours ≡ Some fault.StillAlive
  pub give_up_rfnm :
      giving_up_refusal (pair (Some expecting) (Some imp_2) [] (rfnm_frame 0 ∷ [])) ours ≡ Some fault.StillAlive
  pub give_up_asked :
      (giving_up_refusal (pair (Some expecting) (Some imp_2) (ask_frame 0 ∷ []) []) ours ≡ Some fault.StillAlive) ×
      (giving_up_refusal (pair (Some expecting) (Some imp_2) [] (never_frame 0 ∷ [])) ours ≡ Some fault.StillAlive)
  pub give_up_queued : giving_up_refusal (pair (Some expecting) (Some serving_ours) [] []) ours ≡ Some fault.StillAlive
  pub give_up_other : giving_up_refusal (pair (Some expecting) (Some imp_2) (data_frame 1 ∷ []) []) ours ≡ None
  pub give_up_none :
      giving_up_refusal (pair (Some imp_1) (Some imp_2) (data_frame 0 ∷ []) []) ours ≡ Some fault.NotOutstanding
  -- forgetting, at IMP 2 what came from IMP 1: data or a question from there is alive, on a line or in a queue. Data
  -- the other way and answers don't count, and neither does the packet that says that a message never came
  pub forget_data :
      step_refusal (pair (Some imp_1) (Some imp_2) (data_frame 0 ∷ []) []) (event.Forget 2 1) ≡ Some fault.StillAlive
  pub forget_asked :
      step_refusal (pair (Some imp_1) (Some imp_2) (ask_frame 0 ∷ []) []) (event.Forget 2 1) ≡ Some fault.StillAlive
  pub forget_queued :
      step_refusal (pair (Some imp_1) (Some serving_ours) [] []) (event.Forget 2 1) ≡ Some fault.StillAlive
  pub forget_back : step_refusal (pair (Some imp_1) (Some imp_2) (data_frame 0 ∷ []) []) (event.Forget 1 2) ≡ None
  pub forget_answer : step_refusal (pair (Some imp_1) (Some imp_2) [] (rfnm_frame 0 ∷ [])) (event.Forget 2 1) ≡ None
  pub forget_never : step_refusal (pair (Some imp_1) (Some imp_2) [] (never_frame 0 ∷ [])) (event.Forget 2 1) ≡ None
  -- or a message from there to here is outstanding; one the other way doesn't count
  pub forget_awaited :
      step_refusal (pair (Some expecting) (Some imp_2) [] []) (event.Forget 2 1) ≡ Some fault.StillAlive
  pub forget_own : step_refusal (pair (Some expecting) (Some imp_2) [] []) (event.Forget 1 2) ≡ None
  -- an IMP comes up: something of a flow from it is alive, also an answer or a question. What only travelled over it
  -- for others doesn't count
  pub start_answer : starting_refusal (pair None (Some imp_2) [] (rfnm_frame 0 ∷ [])) 1 ≡ Some fault.StillAlive
  pub start_asked :
      (starting_refusal (pair None (Some imp_2) (ask_frame 0 ∷ []) []) 1 ≡ Some fault.StillAlive) ×
      (starting_refusal (pair (Some imp_1) None [] (never_frame 0 ∷ [])) 2 ≡ Some fault.StillAlive)
  pub start_destination : starting_refusal (pair (Some imp_1) None (data_frame 0 ∷ []) []) 2 ≡ Some fault.StillAlive
  pub start_passing : starting_refusal (pair None (Some imp_2) (passing_frame ∷ []) []) 1 ≡ None
  -- or another IMP keeps the number of a flow from it; what it keeps itself, of its own flows or of others, is not in
  -- the way
  pub start_kept : starting_refusal (pair None (Some keeping_ours) [] []) 1 ≡ Some fault.StillAlive
  pub start_own : starting_refusal (pair (Some keeping_own) (Some imp_2) [] []) 1 ≡ Some fault.IsUp
  pub start_keeper : starting_refusal (pair (Some imp_1) (Some keeping_ours) [] []) 2 ≡ Some fault.IsUp
  -- or a message to a host at it is outstanding at another IMP
  pub start_awaited : starting_refusal (pair (Some expecting) None [] []) 2 ≡ Some fault.StillAlive

-- Which refusal comes first, and when a taking gives something.
pub record WorkedRefusals : Type 0 where
  -- what is still alive comes before an IMP that is down or up
  pub forget_down :
      (step_refusal (pair (Some imp_1) None (data_frame 0 ∷ []) []) (event.Forget 2 1) ≡ Some fault.StillAlive) ×
      (step_refusal (pair (Some imp_1) None [] []) (event.Forget 2 1) ≡ Some fault.IsDown)
  pub start_up :
      (step_refusal (pair (Some imp_1) (Some imp_2) (data_frame 0 ∷ []) []) (event.ImpUp 1) ≡ Some fault.StillAlive) ×
      (step_refusal (pair (Some imp_1) (Some imp_2) [] []) (event.ImpUp 1) ≡ Some fault.IsUp)
  -- an IMP forgets no flows of its own, also where it is down, and none of an IMP that isn't there
  pub forget_itself :
      (step_refusal (pair (Some imp_1) None [] []) (event.Forget 2 2) ≡ Some fault.NoSuch) ×
      (step_refusal (pair (Some imp_1) (Some imp_2) [] []) (event.Forget 2 3) ≡ Some fault.NoSuch)
  -- at an IMP that is down: its timers, its ends of lines and its hosts
  pub imp_down :
      (step_refusal (pair None (Some imp_2) [] []) (event.Resend 1) ≡ Some fault.IsDown) ×
      (step_refusal (pair None (Some imp_2) [] []) (event.Route 1) ≡ Some fault.IsDown) ×
      (step_refusal (pair None (Some imp_2) [] []) (event.ImpDown 1) ≡ Some fault.IsDown) ×
      (step_refusal (pair None (Some imp_2) [] []) (event.EndDown 1 0) ≡ Some fault.IsDown) ×
      (step_refusal (pair None (Some imp_2) [] []) (event.EndUp 1 0) ≡ Some fault.IsDown)
  pub hosts_down :
      (step_refusal (pair None (Some imp_2) [] []) (event.HostUp (host 0 1)) ≡ Some fault.IsDown) ×
      (step_refusal (pair None (Some imp_2) [] []) (event.HostDown (host 0 1)) ≡ Some fault.IsDown) ×
      (step_refusal (pair None (Some imp_2) [] []) (event.GiveUp ours) ≡ Some fault.IsDown) ×
      (offer_refusal (pair None (Some imp_2) [] []) our_message ≡ Some fault.IsDown) ×
      (take_refusal (pair None (Some imp_2) [] []) (host 0 1) ≡ Some fault.IsDown)
  -- it has no slot
  pub no_slot : step_refusal (pair (Some imp_1) None [] []) (event.Abandon ours) ≡ Some fault.NoSuch
  -- what isn't there comes first, also at an IMP that is down: a line, a host, an IMP
  pub not_there :
      (step_refusal (pair None (Some imp_2) [] []) (event.EndDown 1 1) ≡ Some fault.NoSuch) ×
      (step_refusal (pair None (Some imp_2) [] []) (event.HostUp (host 2 1)) ≡ Some fault.NoSuch) ×
      (take_refusal (pair None (Some imp_2) [] []) (host 2 1) ≡ Some fault.NoSuch) ×
      (step_refusal (pair None (Some imp_2) [] []) (event.GiveUp (flow (host 2 1) (host 0 2) 7)) ≡ Some fault.NoSuch) ×
      (step_refusal (pair None (Some imp_2) [] []) (event.ImpUp 3) ≡ Some fault.NoSuch) ×
      (step_refusal (pair None (Some imp_2) [] []) (event.Resend 0) ≡ Some fault.NoSuch)
  -- a line that has no end at this IMP
  pub other_line :
      (step_refusal (record (pair (Some imp_1) (Some imp_2) [] []) { lines = triangle }) (event.EndDown 1 2)
      ≡ Some fault.NoSuch) ×
      (step_refusal (record (pair (Some imp_1) (Some imp_2) [] []) { lines = triangle }) (event.EndUp 2 0)
      ≡ Some fault.IsUp)
  -- a host gets something where a message waits for it, and nothing where none does, where its IMP is down, or where
  -- the network doesn't have it
  pub gives : events.gives (pair (Some imp_1) (Some serving_ours) [] []) (host 0 2) ≡ true
  pub gives_nothing :
      (events.gives (pair (Some imp_1) (Some serving_ours) [] []) (host 1 2) ≡ false) ×
      (events.gives (pair (Some imp_1) None [] []) (host 0 2) ≡ false) ×
      (events.gives (record (pair (Some imp_1) (Some serving_ours) [] []) { hosts = [] }) (host 0 2) ≡ false)

-- What a quiet round does to IMPs and frames.
pub record WorkedRounds : Type 0 where
  -- after one round from the opening each IMP has heard what the other could announce before the round, and no frame is
  -- left
  pub heard : quiet_round opened_pair ≡ pair (Some imp_1) (Some imp_2) [] []
  -- an IMP sends its distances before it sends again
  pub told_first :
      (refreshed (pair (Some sending_ours) None [] []) 1).lines
      ≡ wire (record { acks = no_acks; content = content.Routes (0 ∷ 1 ∷ replicate (most_imps - 2) infinite) } ∷
      data_frame 0 ∷ []) [] ∷ []
  -- a packet that came before is sent again and acknowledged, and its acknowledgement is delivered in the same round
  pub acknowledged :
      (packets (quiet_round (pair (Some sending_ours) (Some past_one) [] [])) ≡ []) ×
      ((quiet_round (pair (Some sending_ours) (Some past_one) [] [])).lines ≡ wire [] [] ∷ [])
  -- lines have their turns in order, one direction after the other. So what IMP 1 sends by IMP 2 to IMP 3, which is
  -- down, has gone over both lines after one round
  pub passed_on :
      frames_on way.Back
      (wire_at
      (quiet_round
      (row (Some first_in_row) (Some middle_in_row) None (packet_frame 0 (only_packet flow_1_3 0) ∷ []) [])).lines 1)
      ≡ []
  -- and what comes over the second line is on the first one after it
  pub too_late :
      frames_on way.Back
      (wire_at
      (quiet_round (row (Some first_in_row) (Some middle_in_row) (Some last_in_row) []
      (packet_frame 0 (only_packet flow_3_1 0) ∷ []))).lines 0)
      ≡ packet_frame 0 (only_packet flow_3_1 0) ∷ []
  -- an IMP that is down announces nothing, and frames to it are dropped
  pub down : quiet_round (pair (Some imp_1) None (data_frame 0 ∷ []) []) ≡ pair (Some imp_1) None [] []
