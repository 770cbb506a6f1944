-- The boxes, and a map that says at once whether something of a flow waits.
use Rattle.std.specs.Prelude.{◌≡◌, Bool, filter, true, false, not, List, [], ◌∷◌, ◌++◌, Option, Some, None, IsSome, if◌then◌else◌}
use Rattle.std.specs.FinMap as map
use Rattle.interface.specs.Host.{Host, is_host}
use Rattle.interface.specs.Flow.{flow_cmp}
use Rattle.leader1822.specs.Boxes.{Boxes, WaitingAnswer, for_host, is_of, is_rfnm_about, one_if, queued_for, queued_if, rest, told_dead, with_queue, is_rfnm, is_running, offered, inbound_taken, given_up, host_stopped, host_started}
use Rattle.leader1822.specs.Inside.Named.{IsNamed}
use Rattle.leader1822.specs.Inside.Soundness.{texts_for, kinds_for, IsSound}
use Rattle.interface.specs.declared.address.Flow.{Flow}
use Rattle.interface.specs.declared.crossing.Answer.{Answer}
use Rattle.interface.specs.declared.crossing.Answer.TheVariants as answer
use Rattle.interface.specs.declared.crossing.Inbound.{Inbound}
use Rattle.interface.specs.declared.crossing.Inbound.TheVariants as inbound
use Rattle.leader1822.specs.declared.flows.Pending.{Pending}
use Rattle.leader1822.specs.declared.flows.Pending.TheVariants as pending
use Rattle.interface.specs.declared.message.HostMessage.{HostMessage}

-- what waits of each flow of which anything waits
abbrev pub Flows : Type 0
Flows = map.FinMap flow_cmp Pending

pub record Held : Type 0 where
  pub boxes : Boxes
  pub flows : Flows

-- what waits of a flow, by its texts and its answers
abbrev pub pending_of : List (List Bool) → List Answer → Option Pending
pending_of (t ∷ ts) kinds = Some pending.Message
pending_of [] (k ∷ kinds) = Some (pending.Answer k)
pending_of [] [] = None

abbrev pub is_message : Option Pending → Bool
is_message None = false
is_message (Some pending.Message) = true
is_message (Some (pending.Answer kind)) = false

-- this waits of a flow whose message has no other answer than an RFNM yet
abbrev pub is_unanswered : Option Pending → Bool
is_unanswered None = false
is_unanswered (Some pending.Message) = true
is_unanswered (Some (pending.Answer kind)) = is_rfnm kind

-- the map says of each flow what waits
pub record IsIndexed (c : Held) : Type 0 where
  pub each : (f : Flow) → map.get c.flows f ≡ pending_of (texts_for c.boxes f) (kinds_for c.boxes f)
  pub named : (f : Flow) → IsSome (map.get c.flows f) → IsNamed f

pub record IsKept (c : Held) : Type 0 where
  pub sound : IsSound c.boxes
  pub indexed : c.boxes.stopped ≡ false → IsIndexed c

-- ---- the map after each call

-- this waits of the flow, or nothing
abbrev pub put : Flows → Flow → Option Pending → Flows
put flows f None = map.remove flows f
put flows f (Some p) = map.insert flows f p

abbrev pub answer_if : Bool → Answer → Option Pending
answer_if test kind = if test then Some (pending.Answer kind) else None

abbrev pub held_admitted : Held → HostMessage → Held
held_admitted c m = record {
  boxes = record c.boxes {
    messages = queued_if (is_running c.boxes.hosts c.boxes.down m.flow.destination) c.boxes.messages m.flow.destination m;
    answers = queued_if (not (is_running c.boxes.hosts c.boxes.down m.flow.destination)) c.boxes.answers m.flow.source (answer.Dead, m.flow);
  };
  flows = map.insert c.flows m.flow (if is_running c.boxes.hosts c.boxes.down m.flow.destination then pending.Message else pending.Answer answer.Dead);
}

abbrev pub held_offered : Held → HostMessage → Held
held_offered c m = record {
  boxes = offered c.boxes m;
  flows = map.insert c.flows m.flow (if is_running c.boxes.hosts c.boxes.down m.flow.destination then pending.Message else pending.Answer answer.Dead);
}

abbrev pub held_taken : Held → Host → Option Inbound → Held
held_taken c h None = c
held_taken c h (Some (inbound.Answer kind f)) = record { boxes = inbound_taken c.boxes h (Some (inbound.Answer kind f)); flows = map.remove c.flows f }
held_taken c h (Some (inbound.Message m)) = record {
  boxes = inbound_taken c.boxes h (Some (inbound.Message m));
  flows = put c.flows m.flow (answer_if (is_running c.boxes.hosts c.boxes.down m.flow.source) answer.Rfnm);
}

abbrev pub held_given_up : Held → Flow → Held
held_given_up c f = record { boxes = given_up c.boxes f; flows = put c.flows f (answer_if (not (is_host c.boxes.down f.source)) answer.Incomplete) }

-- without the flows of these answers
abbrev pub cleared : Flows → List WaitingAnswer → Flows
cleared flows [] = flows
cleared flows (a ∷ answers) = cleared (map.remove flows a.1) answers

-- Dead waits of the flows of these messages, where their sources run
abbrev pub flows_dead : List Host → List Host → Flows → List HostMessage → Flows
flows_dead hosts down flows [] = flows
flows_dead hosts down flows (m ∷ ms) = flows_dead hosts down (put flows m.flow (answer_if (is_running hosts down m.flow.source) answer.Dead)) ms

abbrev pub held_stopped : Held → Host → Held
held_stopped c h = record {
  boxes = host_stopped c.boxes h;
  flows = flows_dead c.boxes.hosts (c.boxes.down ++ h ∷ []) (cleared c.flows (for_host c.boxes.answers h)) (for_host c.boxes.messages h);
}

abbrev pub held_started : Held → Host → Held
held_started c h = record { boxes = host_started c.boxes h; flows = c.flows }

-- ---- the steps that these calls are made of

-- a message waits for its destination, and an answer for the source of its flow
abbrev pub with_message : Held → HostMessage → Held
with_message c m = record {
  boxes = record c.boxes { messages = queued_for c.boxes.messages m.flow.destination m };
  flows = map.insert c.flows m.flow pending.Message;
}

abbrev pub with_answer : Held → Answer → Flow → Held
with_answer c kind f = record {
  boxes = record c.boxes { answers = queued_for c.boxes.answers f.source (kind, f) };
  flows = map.insert c.flows f (pending.Answer kind);
}

-- or no answer, where the source doesn't run
abbrev pub with_answer_for_running : Held → Answer → Flow → Held
with_answer_for_running c kind f = record {
  boxes = record c.boxes { answers = queued_if (is_running c.boxes.hosts c.boxes.down f.source) c.boxes.answers f.source (kind, f) };
  flows = put c.flows f (answer_if (is_running c.boxes.hosts c.boxes.down f.source) kind);
}

-- Dead waits of each of these messages whose source runs
abbrev pub with_dead : Held → List HostMessage → Held
with_dead c ms = record {
  boxes = record c.boxes { answers = told_dead c.boxes.hosts c.boxes.down c.boxes.answers ms };
  flows = flows_dead c.boxes.hosts c.boxes.down c.flows ms;
}

-- without the first answer, or message, that waits for a host; without all answers for it
abbrev pub without_first_answer : Boxes → Host → Boxes
without_first_answer b h = record b { answers = with_queue b.answers h (rest (for_host b.answers h)) }

abbrev pub without_first_message : Boxes → Host → Boxes
without_first_message b h = record b { messages = with_queue b.messages h (rest (for_host b.messages h)) }

abbrev pub without_answers : Held → Host → Held
without_answers c h = record {
  boxes = record c.boxes { answers = with_queue c.boxes.answers h [] };
  flows = cleared c.flows (for_host c.boxes.answers h);
}

-- Incomplete takes the place of a message that waits, if the source is up, and of an RFNM that waits
abbrev pub without_message : Held → Flow → Held
without_message c f = record {
  boxes = record c.boxes {
    messages = with_queue c.boxes.messages f.destination (filter (λ m. not (is_of f m)) (for_host c.boxes.messages f.destination));
    answers = with_queue c.boxes.answers f.source
        (for_host c.boxes.answers f.source ++ one_if (not (is_host c.boxes.down f.source)) (answer.Incomplete, f));
  };
  flows = put c.flows f (answer_if (not (is_host c.boxes.down f.source)) answer.Incomplete);
}

abbrev pub without_rfnm : Held → Flow → Held
without_rfnm c f = record {
  boxes = record c.boxes {
    messages = with_queue c.boxes.messages f.destination (for_host c.boxes.messages f.destination);
    answers = with_queue c.boxes.answers f.source
        (filter (λ a. not (is_rfnm_about f a)) (for_host c.boxes.answers f.source) ++ (answer.Incomplete, f) ∷ []);
  };
  flows = map.insert c.flows f (pending.Answer answer.Incomplete);
}
