-- What the plain boxes keep true: their log is a run, and what waits fits the mailboxes.
use Rattle.std.specs.Prelude.{◌≡◌, Bool, true, false, List, [], ◌∷◌, ◌++◌, if◌then◌else◌, ◌⊎◌}
use Rattle.interface.specs.Host.{Host}
use Rattle.interface.specs.Mailboxes.{Box, Empty, WaitsWith, Fits, IsRun, box_of, is_up}
use Rattle.interface.specs.Calls.{InOrder}
use Rattle.leader1822.specs.Boxes.{Boxes, WaitingAnswer, for_host, is_of, is_about, is_running, is_to, is_told_to}
use Rattle.interface.specs.declared.address.Flow.{Flow}
use Rattle.interface.specs.declared.crossing.Answer.{Answer}
use Rattle.interface.specs.declared.message.HostMessage.{HostMessage}

-- the texts of a flow's messages that wait, oldest first
abbrev pub texts_of : Flow → List HostMessage → List (List Bool)
texts_of f [] = []
texts_of f (m ∷ queue) = (if is_of f m then m.text ∷ [] else []) ++ texts_of f queue

-- the answers about a flow that wait, oldest first
abbrev pub kinds_of : Flow → List WaitingAnswer → List Answer
kinds_of f [] = []
kinds_of f (a ∷ answers) = (if is_about f a then a.0 ∷ [] else []) ++ kinds_of f answers

-- what waits of one flow fits its box
pub record FitsBox (source destination : Bool) (texts : List (List Bool)) (kinds : List Answer) (box : Box) : Type 0 where
  -- no message waits, or one, for a host that is up, and then the box holds it and no answer waits
  pub queued : (texts ≡ []) ⊎ ((t : List Bool) × (texts ≡ t ∷ []) × WaitsWith box t × (kinds ≡ []) × (destination ≡ true))
  -- while the source is up and no message waits, one answer waits that fits the box, or the box is empty
  pub told : source ≡ true → texts ≡ [] → ((kinds ≡ []) × (box ≡ Empty)) ⊎ ((k : Answer) × (kinds ≡ k ∷ []) × Fits k box)
  -- no answer waits for a host that is down
  pub shut : source ≡ false → kinds ≡ []

-- what waits of a flow: messages for its destination, and answers for its source
abbrev pub texts_for : Boxes → Flow → List (List Bool)
texts_for b f = texts_of f (for_host b.messages f.destination)

abbrev pub kinds_for : Boxes → Flow → List Answer
kinds_for b f = kinds_of f (for_host b.answers f.source)

abbrev pub FlowFits : Boxes → Flow → Type 0
FlowFits b f = FitsBox (is_running b.hosts b.down f.source) (is_running b.hosts b.down f.destination) (texts_for b f) (kinds_for b f) (box_of f b.log)

-- these messages are for the host
abbrev pub AreTo : Host → List HostMessage → Type 0
AreTo h [] = Unit {0}
AreTo h (m ∷ ms) = (is_to h m ≡ true) × AreTo h ms

-- these answers are for the host
abbrev pub AreToldTo : Host → List WaitingAnswer → Type 0
AreToldTo h [] = Unit {0}
AreToldTo h (a ∷ xs) = (is_told_to h a ≡ true) × AreToldTo h xs

-- while nothing has stopped the boxes
pub record Matches (b : Boxes) : Type 0 where
  pub up : (h : Host) → is_up b.hosts h b.log ≡ is_running b.hosts b.down h
  pub flows : (f : Flow) → FlowFits b f
  pub sent : (h : Host) → AreTo h (for_host b.messages h)
  pub told : (h : Host) → AreToldTo h (for_host b.answers h)

pub record IsSound (b : Boxes) : Type 0 where
  pub ordered : InOrder b.hosts
  pub run : IsRun b.hosts b.log
  pub matches : b.stopped ≡ false → Matches b

-- where memory ran out, what waits may be anything, and hosts and log stay
pub record KeepsLog (old new : Boxes) : Type 0 where
  pub hosts : new.hosts ≡ old.hosts
  pub log : new.log ≡ old.log
