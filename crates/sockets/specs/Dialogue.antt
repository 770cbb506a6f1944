-- Two hosts and what is in transit between them, step by step: words for worked examples.
use Rattle.std.specs.Prelude.{ℕ, ◌+◌, Bool, not, if◌then◌else◌, List, [], ◌∷◌, ◌++◌, find, filter, map, Option, Some, None}
use Rattle.interface.specs.Host.{Host, same_host}
use Rattle.interface.specs.Flow.{same_flow}
use Rattle.interface.specs.declared.address.Flow.{Flow}
use Rattle.interface.specs.declared.crossing.Answer.{Answer}
use Rattle.interface.specs.declared.crossing.Answer.TheVariants as answer
use Rattle.interface.specs.declared.crossing.Inbound.TheVariants as inbound
use Rattle.interface.specs.declared.message.HostMessage.{HostMessage}
use Rattle.sockets.specs.Accepting.{accepted}
use Rattle.sockets.specs.Pairs.{NcpState, opening_state}
use Rattle.sockets.specs.Requests.{served, served_notices}
use Rattle.sockets.specs.Sending.{next_out, offered}
use Rattle.host_pairs.specs.declared.notice.Notice.{Notice}
use Rattle.sockets.specs.declared.request.Request.{Request}

-- two hosts, the messages and the answers that wait for them, how many crossings there were, and the notices to each host, in order
pub record Talk : Type 0 where
  pub left : NcpState
  pub right : NcpState
  pub messages : List HostMessage
  pub answers : List (Answer × Flow)
  pub place : ℕ
  pub notices : List (Host × Notice)

abbrev pub opening_talk : Host → Host → Talk
opening_talk left right = record { left = opening_state left; right = opening_state right; messages = []; answers = []; place = 0; notices = [] }

-- the list without its first element that passes
abbrev pub without_first : {A : Type 0} → (A → Bool) → List A → List A
without_first test [] = []
without_first test (x ∷ xs) = if test x then xs else x ∷ without_first test xs

-- what can happen in a dialogue
pub data Step : Type 0 where
  -- the host's user asks for something
  Ask : (host : Host) → (request : Request) → Step
  -- the host's next message goes out
  Offer : (host : Host) → Step
  -- the host takes the oldest answer that waits for it, else the oldest message
  Take : (host : Host) → Step
  -- the message of this flow is given up
  GiveUp : (flow : Flow) → Step

abbrev pub state_of : Talk → Host → NcpState
state_of t h = if same_host h t.left.own then t.left else t.right

abbrev pub with_state : Talk → Host → NcpState → Talk
with_state t h s = record t { left = if same_host h t.left.own then s else t.left; right = if same_host h t.left.own then t.right else s }

-- a host's state and The notice
abbrev pub talk_turned : Host → NcpState × List Notice → Talk → Talk
talk_turned h turn t = record (with_state t h turn.0) { notices = t.notices ++ map (λ n. (h, n)) turn.1 }

abbrev pub crossed : Talk → Talk
crossed t = record t { place = t.place + 1 }

abbrev pub is_for : Host → HostMessage → Bool
is_for h m = same_host h m.flow.destination

abbrev pub is_told_to : Host → Answer × Flow → Bool
is_told_to h a = same_host h a.1.source

-- what goes out waits for its destination
abbrev pub out : Host → Option HostMessage → Talk → Talk
out h None t = t
out h (Some m) t = crossed (talk_turned h (offered (state_of t h) t.place) (record t { messages = t.messages ++ m ∷ [] }))

-- for a message that is taken RFNM waits for its source
abbrev pub talk_taken : Host → Option (Answer × Flow) → Option HostMessage → Talk → Talk
talk_taken h (Some (kind, f)) m t =
    crossed (talk_turned h (accepted (state_of t h) (inbound.Answer kind f) t.place) (record t { answers = without_first (is_told_to h) t.answers }))
talk_taken h None (Some m) t =
    crossed (talk_turned h (accepted (state_of t h) (inbound.Message m) t.place) (record t { messages = without_first (is_for h) t.messages; answers = t.answers ++ (answer.Rfnm, m.flow) ∷ [] }))
talk_taken h None None t = t

-- the message, or its RFNM, is gone, and Incomplete waits for its source
abbrev pub given_up : Flow → Talk → Talk
given_up f t = record t {
  messages = filter (λ m. not (same_flow f m.flow)) t.messages;
  answers = filter (λ a. not (same_flow f a.1)) t.answers ++ (answer.Incomplete, f) ∷ [];
}

abbrev pub talk_after : Step → Talk → Talk
talk_after (Ask h r) t = talk_turned h (served (state_of t h) r, served_notices (state_of t h) r) t
talk_after (Offer h) t = out h (next_out (state_of t h)) t
talk_after (Take h) t = talk_taken h (find (is_told_to h) t.answers) (find (is_for h) t.messages) t
talk_after (GiveUp f) t = given_up f t

-- one step after another
abbrev pub played : List Step → Talk → Talk
played [] t = t
played (step ∷ steps) t = played steps (talk_after step t)
