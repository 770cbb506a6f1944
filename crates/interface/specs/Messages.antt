-- What every host may rely on, whatever carries its messages: an RFNM speaks of one message that was taken once, no
-- message is taken twice, and one of which its source gets NotTaken is never taken.
use Rattle.std.specs.Prelude.{◌≡◌, Bool, true, false, List, [], ◌∷◌, ◌++◌, ◌||◌, ◌&&◌, if◌then◌else◌, ◌⊎◌}
use Rattle.interface.specs.Mailboxes.{same_flow}
use Rattle.interface.specs.declared.address.Flow.{Flow}
use Rattle.interface.specs.declared.crossing.Answer.{Answer}
use Rattle.interface.specs.declared.crossing.Answer.TheVariants as answer
use Rattle.interface.specs.declared.crossing.Crossing.{Crossing}
use Rattle.interface.specs.declared.crossing.Crossing.TheVariants as crossing
use Rattle.interface.specs.declared.message.HostMessage.{HostMessage}

-- the texts of a flow's messages that were taken in this part of a log, newest first
abbrev pub taken_in : Flow → List Crossing → List (List Bool)
taken_in f [] = []
taken_in f (crossing.Out m ∷ log) = taken_in f log
taken_in f (crossing.In m ∷ log) = if same_flow f m.flow then m.text ∷ taken_in f log else taken_in f log
taken_in f (crossing.Answer kind g ∷ log) = taken_in f log
taken_in f (crossing.Down h ∷ log) = taken_in f log
taken_in f (crossing.Up h ∷ log) = taken_in f log

-- whether a message of the flow went out in this part of a log
abbrev pub went_out : Flow → List Crossing → Bool
went_out f [] = false
went_out f (crossing.Out m ∷ log) = same_flow f m.flow || went_out f log
went_out f (crossing.In m ∷ log) = went_out f log
went_out f (crossing.Answer kind g ∷ log) = went_out f log
went_out f (crossing.Down h ∷ log) = went_out f log
went_out f (crossing.Up h ∷ log) = went_out f log

-- a log ends in the flow's last message out and what came since
pub record SinceLastOut (f : Flow) (log : List Crossing) : Type 0 where
  pub since : List Crossing
  pub message : HostMessage
  pub before : List Crossing
  pub parts : log ≡ since ++ crossing.Out message ∷ before
  pub flow : message.flow ≡ f
  pub last : went_out f since ≡ false

-- the flow's last message out was taken exactly once since, with its text
pub record TakenOnce (f : Flow) (log : List Crossing) : Type 0 where
  pub out : SinceLastOut f log
  pub once : taken_in f out.since ≡ out.message.text ∷ []

-- logs are read newest first: what is `newer` came after what is `older`
pub record SafeMessages (log : List Crossing) : Type 0 where
  -- below each RFNM, the flow's last message out was taken once, with its text
  pub answered : (newer older : List Crossing) (f : Flow) → log ≡ newer ++ crossing.Answer answer.Rfnm f ∷ older → TakenOnce f older
  -- between one message out and the flow's next, at most one message is taken, with that text
  pub once : (newer since before : List Crossing) (m : HostMessage) → log ≡ newer ++ (since ++ crossing.Out m ∷ before) → went_out m.flow since ≡ false
      → (taken_in m.flow since ≡ []) ⊎ (taken_in m.flow since ≡ m.text ∷ [])
  -- before a flow's first message out none is taken
  pub none_before : (newer older : List Crossing) (f : Flow) → log ≡ newer ++ older → went_out f older ≡ false → taken_in f older ≡ []

-- ---- what NotTaken promises

abbrev pub is_not_taken : Answer → Bool
is_not_taken answer.Rfnm = false
is_not_taken answer.Incomplete = false
is_not_taken answer.Dead = true
is_not_taken answer.NotTaken = true

-- whether the flow's source was said in this part of a log that its message was not taken: by Dead or by NotTaken
abbrev pub told_not_taken : Flow → List Crossing → Bool
told_not_taken f [] = false
told_not_taken f (crossing.Out m ∷ log) = told_not_taken f log
told_not_taken f (crossing.In m ∷ log) = told_not_taken f log
told_not_taken f (crossing.Answer kind g ∷ log) = (same_flow f g && is_not_taken kind) || told_not_taken f log
told_not_taken f (crossing.Down h ∷ log) = told_not_taken f log
told_not_taken f (crossing.Up h ∷ log) = told_not_taken f log

-- between one message out and the flow's next: once its source gets Dead or NotTaken, the message is taken neither before nor after.
-- `newer` is any later part of the log
pub record NeverTaken (log : List Crossing) : Type 0 where
  pub never : (newer since before : List Crossing) (m : HostMessage) → log ≡ newer ++ (since ++ crossing.Out m ∷ before) → went_out m.flow since ≡ false
      → told_not_taken m.flow since ≡ true → taken_in m.flow since ≡ []
