-- The laws of src/ that are longer than a line: each is a record, and its fields are the clauses.
use Rattle.std.specs.List.{All}
use Rattle.std.specs.Prelude.{List, None, Option, Some, [], codes, false, is_ok, replicate, true, ℕ, ◌*◌, ◌∷◌, ◌≡◌}
use Rattle.imp_channel.specs.Line.{opening_end}
use Rattle.imp_channel.specs.declared.frame.Content.TheVariants as content
use Rattle.imp_node.specs.Examples.{ack_frame, host}
use Rattle.imp_node.specs.State.{State, opening_node}
use Rattle.interface.specs.Host.{Host}
use Rattle.interface.specs.declared.crossing.Answer.TheVariants as answer
use Rattle.interface.specs.declared.event.Direction.TheVariants as way
use Rattle.interface.specs.declared.event.NetEvent.TheVariants as net
use Rattle.link_table.specs.declared.destination.Fate.TheVariants as fate
use Rattle.link_table.specs.declared.source.Standing.TheVariants as standing
use Rattle.replay.specs.Output.{Shown}
use Rattle.replay.specs.Replay.{Happens, IsOneCall, Replays}
use Rattle.script.specs.declared.event.RawEvent.TheVariants as event
use Rattle.script.specs.declared.event.RawEvent.{RawEvent}
use Rattle.subnet.specs.Calls.{Kept, running}
use Rattle.subnet.specs.Events.{stepped}
use Rattle.subnet.specs.Examples.{data_frame, imp_1, imp_2, opened_pair, pair, past_one, sending_ours, serving_ours}
use Rattle.subnet.specs.Net.{Net}
use Rattle.subnet.specs.Opening.{hosts_from, opening_subnet}
use Rattle.subnet.specs.Working.{subnet_calls}
use Rattle.subnet.specs.declared.Ends.{Ends}
use Rattle.trace.specs.Changes.{AreOfOne}
use Rattle.trace.specs.Elements.{by_round, events_of}
use Rattle.trace.specs.Flows.{told}
use Rattle.trace.specs.Texts.{trace_line}
use Rattle.trace.specs.Traces.{SaysAll, TellsEvent, change_text}
use Rattle.trace.specs.declared.element.Spot.{Spot}
use Rattle.subnet_trace.specs.Elements.{beginning, calm_left, calm_of, elements_of}
use Rattle.subnet_trace.specs.Parts.{Part, SamePart, is_named, is_part, parts_of, parts_of_net}
use Rattle.subnet_trace.specs.Texts.{channel_text, frame_text, heard_text, host_object, imp_text, kept_of, kept_part}
use Rattle.subnet_trace.specs.Texts.{line_text, next_text, packet_text, port_object, slot_text, source_part, sources_of}
use Rattle.subnet_trace.specs.Texts.{told_text, whole_text}
use Rattle.subnet_trace.specs.Told.{IsOneNetwork, IsPlaced, IsReached, IsTold, SameTexts}
use Rattle.subnet_trace.specs.Traced.{subnet_inside}
use Rattle.subnet_trace.specs.Worked as worked
use Rattle.subnet_trace.specs.Worked.{arrives, flow, frame_on, full_at_2, gone, heard_on_two, lonely, long, looping}
use Rattle.subnet_trace.specs.Worked.{nowhere, past_at_1, piece, rfnm, sending_at_2, sends, slot, takes, tells}
use Rattle.subnet_trace.specs.Worked.{two_lines, with_dead}
use Rattle.subnet_trace.specs.declared.place.Stage.TheVariants as stage

-- An event of a script is its elementary events one after another: each of them only, as a line of a script, leaves
-- what the event leaves and prints what it prints. So a calm is a list of calls of the subnet.
pub record Elementary : Type 0 where
  -- of subnets that have no IMP where their network has none
  pub course :
      (old new : Kept) (e : RawEvent) (shown : List Shown) → IsPlaced old.net → Happens subnet_calls old e new shown →
      Replays subnet_calls old (events_of (elements_of old.net e)) new shown
  -- each is one call of the subnet, and none a calm
  pub one_call : (n : Net) (e : RawEvent) → All IsOneCall (events_of (elements_of n e))
  -- all events keep it so, calms too, and so each subnet that a replay comes to is one
  pub placed :
      (old new : Kept) (e : RawEvent) (shown : List Shown) → IsPlaced old.net → Happens subnet_calls old e new shown →
      IsPlaced new.net
  pub reached :
      (hosts : List Host) (sites : List (Option ℕ)) (ends : List Ends) (events : List RawEvent) (k : Kept)
      (shown : List Shown) →
      Replays subnet_calls (running (opening_subnet hosts sites ends)) events k shown → IsPlaced k.net
  -- what is left of a calm where it begins is all of it
  pub beginning : (n : Net) (rounds : ℕ) → calm_left n (beginning rounds) ≡ calm_of n rounds

-- What is traced of an event says all of it, though a calm is traced up to its first still round only.
pub record Saying : Type 0 where
  -- of each subnet that a replay comes to
  pub events :
      (sites : List (Option ℕ)) (ends : List Ends) (old new other : Kept) (spot : Spot) (e : RawEvent)
      (lines : List (List ℕ)) (shown : List Shown) → IsReached sites ends old →
      TellsEvent subnet_calls subnet_inside old (spot, e) new lines → Happens subnet_calls old e other shown →
      SaysAll subnet_calls subnet_inside spot old new lines other shown

-- What an elementary event's parts do not name is as before.
pub record Rest : Type 0 where
  pub parts :
      (old new : Kept) (e : RawEvent) (shown : List Shown) (p : Part) → IsPlaced old.net → IsOneCall e →
      Happens subnet_calls old e new shown → is_part old.net p ≡ true → is_named p (parts_of old.net e) ≡ false →
      SamePart p old.net new.net
  -- the hosts of the network, its IMPs and the ends of its lines never change
  pub network :
      (old new : Kept) (e : RawEvent) (shown : List Shown) → IsOneCall e → Happens subnet_calls old e new shown →
      IsOneNetwork old.net new.net
  -- where the network has no IMP there never is one
  pub placed :
      (old new : Kept) (e : RawEvent) (shown : List Shown) → IsPlaced old.net → IsOneCall e →
      Happens subnet_calls old e new shown → IsPlaced new.net
  pub opening :
      (hosts : List Host) (sites : List (Option ℕ)) (ends : List Ends) → IsPlaced (opening_subnet hosts sites ends)

-- A refused event changes no part.
pub record Refused : Type 0 where
  pub parts :
      (old new : Kept) (e : RawEvent) (shown : List Shown) → IsOneCall e → (h : Happens subnet_calls old e new shown) →
      is_ok h.outcome ≡ false → change_text subnet_inside old new ≡ codes "{}"

-- What `trace::law::changes` says of parts of one network is of the parts of all subnets that replays over one network
-- come to.
pub record Changes : Type 0 where
  pub rises :
      (sites : List (Option ℕ)) (ends : List Ends) (one other : Kept) → IsReached sites ends one →
      IsReached sites ends other → AreOfOne (parts_of_net one.net) (parts_of_net other.net)

-- The texts of all parts determine the whole state, but for the log, in every state that a replay comes to.
pub record Whole : Type 0 where
  -- of two subnets of one network of which `IsTold` holds
  pub texts :
      (one other : Net) → IsTold one → IsTold other → IsOneNetwork one other → SameTexts one other →
      other ≡ record one { log = other.log }
  -- it holds of each subnet that a replay comes to, and the network is that of the opening
  pub reached : (sites : List (Option ℕ)) (ends : List Ends) (k : Kept) → IsReached sites ends k → IsTold k.net
  pub network :
      (sites : List (Option ℕ)) (ends : List Ends) (k : Kept) → IsReached sites ends k →
      IsOneNetwork (opening_subnet (hosts_from 0 sites) sites ends) k.net
  -- so two replays over one network that end with the same texts end in the same state, but for the log
  pub replays :
      (sites : List (Option ℕ)) (ends : List Ends) (one other : Kept) → IsReached sites ends one →
      IsReached sites ends other → SameTexts one.net other.net → other.net ≡ record one.net { log = other.net.log }

-- Packets, channels, slots and frames.
pub record WorkedPackets : Type 0 where
  pub piece :
      packet_text piece
      ≡ codes "{\"kind\":\"data\",\"from\":\"0/1\",\"to\":\"1/2\",\"link\":5,\"number\":7,\"place\":3,\"last\":true,\"bits\":16,\"octets\":\"8000\"}"
  pub rfnm :
      packet_text rfnm
      ≡ codes "{\"kind\":\"rfnm\",\"from\":\"0/1\",\"to\":\"1/2\",\"link\":5,\"number\":7,\"place\":0,\"last\":true,\"bits\":0,\"octets\":\"\"}"
  -- a free channel has the bit of its next packet only
  pub free : channel_text (record { bit = true; packet = None }) ≡ codes "{\"bit\":1}"
  pub busy :
      channel_text (record { bit = false; packet = Some worked.rfnm })
      ≡ codes "{\"bit\":0,\"packet\":{\"kind\":\"rfnm\",\"from\":\"0/1\",\"to\":\"1/2\",\"link\":5,\"number\":7,\"place\":0,\"last\":true,\"bits\":0,\"octets\":\"\"}}"
  pub slot :
      slot_text slot
      ≡ codes "[{\"kind\":\"data\",\"from\":\"0/1\",\"to\":\"1/2\",\"link\":5,\"number\":7,\"place\":1,\"last\":false,\"bits\":16,\"octets\":\"8000\"},{\"kind\":\"data\",\"from\":\"0/1\",\"to\":\"1/2\",\"link\":5,\"number\":7,\"place\":3,\"last\":true,\"bits\":16,\"octets\":\"8000\"}]"
  -- acknowledgement bits are in the order of their channels
  pub acks :
      frame_text (record { acks = true ∷ replicate 7 false; content = content.Nothing })
      ≡ codes "{\"acks\":\"10000000\"}"
  pub packet :
      frame_text (record {
        acks = replicate 8 false;
        content = content.Packet (record { channel = 3; bit = true; packet = worked.rfnm });
      })
      ≡ codes "{\"acks\":\"00000000\",\"channel\":3,\"bit\":1,\"packet\":{\"kind\":\"rfnm\",\"from\":\"0/1\",\"to\":\"1/2\",\"link\":5,\"number\":7,\"place\":0,\"last\":true,\"bits\":0,\"octets\":\"\"}}"
  -- the second of these distances is infinite
  pub routes :
      frame_text (record { acks = replicate 8 false; content = content.Routes (1 ∷ 63 ∷ 0 ∷ []) })
      ≡ codes "{\"acks\":\"00000000\",\"routes\":{\"1\":1,\"3\":0}}"

-- Hosts, ports, flows, IMPs and lines.
pub record WorkedParts : Type 0 where
  pub source :
      told (source_part (opening_node 1 1 0) (flow, standing.Outstanding 7))
      ≡ codes "\"source 0/1 1/2 5\":{\"state\":\"outstanding\",\"number\":7}"
  pub idle :
      told (source_part (opening_node 1 1 0) (flow, standing.Idle 7))
      ≡ codes "\"source 0/1 1/2 5\":{\"state\":\"idle\",\"number\":7}"
  -- a Dead that was given at once waits: the flow is not idle, though its last number is. A Dead of another flow
  -- doesn't matter
  pub dead :
      told (source_part (with_dead flow) (flow, standing.Idle 7))
      ≡ codes "\"source 0/1 1/2 5\":{\"state\":\"dead\",\"number\":7}"
  pub other_dead :
      told (source_part (with_dead (record flow { link = record { 0 = 6 } })) (flow, standing.Idle 7))
      ≡ codes "\"source 0/1 1/2 5\":{\"state\":\"idle\",\"number\":7}"
  pub answered :
      told (source_part (with_dead flow) (flow, standing.Answered 7))
      ≡ codes "\"source 0/1 1/2 5\":{\"state\":\"answered\",\"number\":7}"
  pub kept :
      told (kept_part (flow, record { number = 7; fate = fate.Waits }))
      ≡ codes "\"kept 0/1 1/2 5\":{\"fate\":\"waits\",\"number\":7}"
  -- an IMP that is down knows of no flow
  pub none_known : (sources_of None ≡ []) × (kept_of None ≡ [])
  pub host :
      host_object (record {
        up = true;
        answers = record { kind = answer.NotTaken; flow = flow } ∷ [];
        queue = record { flow = flow; number = 7; text = true ∷ [] } ∷ [];
      })
      ≡ codes "{\"up\":true,\"messages\":[{\"from\":\"0/1\",\"to\":\"1/2\",\"link\":5,\"number\":7,\"bits\":1,\"octets\":\"80\"}],\"answers\":[{\"kind\":\"nottaken\",\"from\":\"0/1\",\"to\":\"1/2\",\"link\":5}]}"
  pub port :
      port_object (record { up = false; line = opening_end })
      ≡ codes "{\"up\":false,\"sending\":[{\"bit\":0},{\"bit\":0},{\"bit\":0},{\"bit\":0},{\"bit\":0},{\"bit\":0},{\"bit\":0},{\"bit\":0}],\"expected\":\"00000000\"}"
  pub heard : heard_text (Some (0 ∷ 62 ∷ [])) ≡ codes "{\"1\":0,\"2\":62}"
  pub nothing_heard : heard_text None ≡ codes "null"
  pub imp :
      imp_text (Some (opening_node 1 0 1))
      ≡ codes "{\"hosts\":[],\"ports\":[{\"up\":true,\"sending\":[{\"bit\":0},{\"bit\":0},{\"bit\":0},{\"bit\":0},{\"bit\":0},{\"bit\":0},{\"bit\":0},{\"bit\":0}],\"expected\":\"00000000\"}],\"routes\":[null],\"store\":[],\"slots\":[],\"distances\":{\"1\":0},\"next\":{}}"
  pub next : next_text heard_on_two ≡ codes "{\"2\":1,\"3\":0}"
  pub imp_down : imp_text None ≡ codes "null"
  pub line :
      line_text (record {
        a = 1;
        b = 2;
        forward = [];
        back = record { acks = replicate 8 false; content = content.Nothing } ∷ [];
      })
      ≡ codes "{\"+\":[],\"-\":[{\"acks\":\"00000000\"}]}"

-- Why `IsTold` asks what it asks: in each row two values have one text.
pub record WorkedUntold : Type 0 where
  -- a decimal has 64 digits, so it doesn't distinguish numbers that have more: of packets, of frames, of messages and
  -- of flows
  pub number : packet_text (record rfnm { number = long }) ≡ packet_text (record rfnm { number = 2 * long })
  pub place : packet_text (record rfnm { place = long }) ≡ packet_text (record rfnm { place = 2 * long })
  pub link : packet_text (record rfnm { link = long }) ≡ packet_text (record rfnm { link = 2 * long })
  pub imp_number :
      packet_text (record rfnm { source = record { imp = long; host = 0 } })
      ≡ packet_text (record rfnm { source = record { imp = 2 * long; host = 0 } })
  pub host_number :
      packet_text (record rfnm { source = record { imp = 1; host = long } })
      ≡ packet_text (record rfnm { source = record { imp = 1; host = 2 * long } })
  pub channel : frame_text (frame_on long) ≡ frame_text (frame_on (2 * long))
  pub message :
      whole_text (record { flow = flow; number = long; text = [] })
      ≡ whole_text (record { flow = flow; number = 2 * long; text = [] })
  pub answer :
      told_text (record { kind = answer.Dead; flow = record flow { link = record { 0 = long } } })
      ≡ told_text (record { kind = answer.Dead; flow = record flow { link = record { 0 = 2 * long } } })
  pub begun :
      told (source_part (opening_node 1 1 0) (flow, standing.Idle long))
      ≡ told (source_part (opening_node 1 1 0) (flow, standing.Idle (2 * long)))
  pub noted :
      told (kept_part (flow, record { number = long; fate = fate.Waits }))
      ≡ told (kept_part (flow, record { number = 2 * long; fate = fate.Waits }))
  -- a distance of 64 is not printed, as one of 63 isn't, nor that the last ones are missing
  pub too_far : heard_text (Some (64 ∷ [])) ≡ heard_text (Some (63 ∷ []))
  pub too_few : heard_text (Some (0 ∷ [])) ≡ heard_text (Some (0 ∷ 63 ∷ []))
  -- a slot is its pieces: its own flow and number are not printed
  pub no_pieces : slot_text (record slot { pieces = [] }) ≡ slot_text (record slot { number = 8; pieces = [] })
  pub slot_number : slot_text slot ≡ slot_text (record slot { number = 8 })
  pub slot_flow : slot_text slot ≡ slot_text (record slot { flow = record flow { link = record { 0 = 6 } } })
  -- that memory ran out in an IMP is not printed
  pub spent : imp_text (Some (opening_node 1 0 1)) ≡ imp_text (Some (record (opening_node 1 0 1) { spent = true }))
  -- a network without IMPs and lines has no parts, however many places for IMPs there are, and whatever is there
  pub nowhere : (imps : List (Option State)) (p : Part) → is_part (nowhere imps) p ≡ false

-- The elementary events of calms.
pub record WorkedCalms : Type 0 where
  -- all IMPs send their distances, and then each frame is delivered and dropped: first those that go forward, and then
  -- those that go back
  pub opened :
      calm_of opened_pair 1 ≡ tells 1 1 ∷ tells 1 2 ∷ arrives 1 0 way.Forward ∷ gone 1 0 way.Forward ∷
      arrives 1 0 way.Back ∷ gone 1 0 way.Back ∷ []
  -- an IMP that holds a packet sends it again, after it has sent its distances. The acknowledgement comes in the same
  -- round, so that the IMP holds nothing in the next one
  pub again :
      calm_of (pair (Some sending_ours) (Some past_one) [] []) 2 ≡ tells 1 1 ∷ sends 1 1 ∷ tells 1 2 ∷
      arrives 1 0 way.Forward ∷ gone 1 0 way.Forward ∷ arrives 1 0 way.Forward ∷ gone 1 0 way.Forward ∷
      arrives 1 0 way.Back ∷ gone 1 0 way.Back ∷ arrives 1 0 way.Back ∷ gone 1 0 way.Back ∷ tells 2 1 ∷ tells 2 2 ∷
      arrives 2 0 way.Forward ∷ gone 2 0 way.Forward ∷ arrives 2 0 way.Back ∷ gone 2 0 way.Back ∷ []
  -- the other way IMP 1 acknowledges when the turn of the line is over, and so this frame goes in the next round. Its
  -- distances have acknowledged the packet before that
  pub later :
      calm_of (pair (Some past_at_1) (Some sending_at_2) [] []) 2 ≡ tells 1 1 ∷ tells 1 2 ∷ sends 1 2 ∷
      arrives 1 0 way.Forward ∷ gone 1 0 way.Forward ∷ arrives 1 0 way.Back ∷ gone 1 0 way.Back ∷ arrives 1 0 way.Back ∷
      gone 1 0 way.Back ∷ tells 2 1 ∷ tells 2 2 ∷ arrives 2 0 way.Forward ∷ gone 2 0 way.Forward ∷
      arrives 2 0 way.Forward ∷ gone 2 0 way.Forward ∷ arrives 2 0 way.Back ∷ gone 2 0 way.Back ∷ []
  -- no frame that comes while a line has its turn goes in the same turn. Only a line that leads back to its IMP shows
  -- it: here the packet is passed on, and acknowledged
  pub looping :
      calm_of looping 1 ≡ tells 1 1 ∷ sends 1 1 ∷ arrives 1 0 way.Forward ∷ gone 1 0 way.Forward ∷
      arrives 1 0 way.Forward ∷ gone 1 0 way.Forward ∷ []
  -- hosts take when all lines have had their turns
  pub taking :
      calm_of (pair (Some imp_1) (Some serving_ours) [] []) 1 ≡ tells 1 1 ∷ tells 1 2 ∷ arrives 1 0 way.Forward ∷
      gone 1 0 way.Forward ∷ arrives 1 0 way.Back ∷ gone 1 0 way.Back ∷ takes 1 (host 0 2) ∷ []
  -- a taking that would be refused is none: the store of the IMP has no room for the RFNM
  pub no_room : calm_of (pair None (Some full_at_2) [] []) 1 ≡ tells 1 2 ∷ sends 1 2 ∷ replicate 9 (gone 1 0 way.Back)
  -- an IMP that is down announces nothing, and frames to it are dropped and not delivered
  pub down :
      calm_of (pair (Some imp_1) None (data_frame 0 ∷ []) []) 1 ≡ tells 1 1 ∷ gone 1 0 way.Forward ∷
      gone 1 0 way.Forward ∷ []
  pub all_down :
      calm_of two_lines 2 ≡ gone 1 0 way.Forward ∷ gone 1 0 way.Forward ∷ gone 1 0 way.Back ∷ gone 1 1 way.Back ∷ []
  pub quiet : calm_of (pair None None [] []) 2 ≡ []

-- What is left of a calm at a place.
pub record WorkedPlaces : Type 0 where
  -- an IMP has sent its distances, or has not
  pub told :
      calm_left (pair (Some sending_ours) None [] [])
      (record { round = 1; rounds = 1; stage = stage.Refreshing 1 true }) ≡ sends 1 1 ∷ gone 1 0 way.Forward ∷ []
  pub telling :
      calm_left (pair (Some imp_1) (Some imp_2) [] [])
      (record { round = 1; rounds = 1; stage = stage.Refreshing 2 false }) ≡ tells 1 2 ∷ arrives 1 0 way.Back ∷
      gone 1 0 way.Back ∷ []
  -- a frame was delivered, or was not; of two frames that are live, one came when the turn had begun
  pub delivered :
      calm_left two_lines (record { round = 1; rounds = 1; stage = stage.Carrying 0 way.Forward 0 true })
      ≡ gone 1 0 way.Forward ∷ gone 1 0 way.Back ∷ gone 1 1 way.Back ∷ []
  pub carrying :
      calm_left two_lines (record { round = 1; rounds = 1; stage = stage.Carrying 0 way.Forward 1 false })
      ≡ gone 1 0 way.Forward ∷ gone 1 0 way.Back ∷ gone 1 1 way.Back ∷ []
  -- the turn of a line is over, and so is its last one
  pub turn :
      calm_left two_lines (record { round = 1; rounds = 1; stage = stage.Carrying 0 way.Forward 0 false })
      ≡ gone 1 0 way.Back ∷ gone 1 1 way.Back ∷ []
  pub last_turn :
      calm_left two_lines (record { round = 1; rounds = 1; stage = stage.Carrying 0 way.Back 0 false })
      ≡ gone 1 1 way.Back ∷ []
  -- the hosts from this one on take; frames stay for the next round
  pub taking :
      calm_left (pair None (Some serving_ours) [] (ack_frame ∷ []))
      (record { round = 1; rounds = 1; stage = stage.Taking 2 1 }) ≡ takes 1 (host 0 2) ∷ []
  pub taken :
      calm_left (pair None (Some serving_ours) [] (ack_frame ∷ []))
      (record { round = 1; rounds = 1; stage = stage.Taking 2 0 }) ≡ []
  -- the round is over
  pub over :
      calm_left two_lines (record { round = 1; rounds = 2; stage = stage.Over }) ≡ gone 2 0 way.Forward ∷
      gone 2 0 way.Forward ∷ gone 2 0 way.Back ∷ gone 2 1 way.Back ∷ []

-- Where the trace of a calm ends: with its first still round.
pub record Endings : Type 0 where
  -- a round that sends distances to no one changes nothing
  pub rounds : by_round (calm_of lonely 2) ≡ (tells 1 1 ∷ []) ∷ (tells 2 1 ∷ []) ∷ []
  pub unmoved : stepped lonely (net.Route 1) ≡ lonely
  -- so the first round has a line, and no other
  pub once :
      (spot : Spot) →
      TellsEvent subnet_calls subnet_inside (running lonely) (spot, event.Calm 2) (running lonely)
      (trace_line spot (tells 1 1) None [] (codes "{}") ∷ [])
  pub too_early :
      (spot : Spot) (new : Kept) →
      TellsEvent subnet_calls subnet_inside (running lonely) (spot, event.Calm 2) new [] → ⊥
  pub too_late :
      (spot : Spot) (new : Kept) (one other : List ℕ) →
      TellsEvent subnet_calls subnet_inside (running lonely) (spot, event.Calm 2) new (one ∷ other ∷ []) → ⊥
