-- One flow as the whole network holds it: what its two IMPs and its two hosts keep for it, and its packets.
use Rattle.std.specs.Prelude.{ℕ, Bool, true, false, List, Option}
use Rattle.interface.specs.declared.crossing.Answer.{Answer}
use Rattle.interface.specs.Mailboxes.{Box, Mail}
use Rattle.link_table.specs.declared.destination.Fate.{Fate}

-- a packet carries a piece of a message, or notifies the source that the message was taken, or that its host is down; or it
-- asks the destination what became of the message, or notifies the source that the message never came
pub data Kind : Type 0 where
  Data : Kind
  Rfnm : Kind
  Dead : Kind
  Ask : Kind
  Never : Kind

-- what travels to the destination: data and questions
abbrev pub is_request : Kind → Bool
is_request Kind.Data = true
is_request Kind.Rfnm = false
is_request Kind.Dead = false
is_request Kind.Ask = true
is_request Kind.Never = false

-- what notifies the source that the message wasn't taken and never will be
abbrev pub is_refusal : Kind → Bool
is_refusal Kind.Data = false
is_refusal Kind.Rfnm = false
is_refusal Kind.Dead = true
is_refusal Kind.Ask = false
is_refusal Kind.Never = true

-- a packet of the flow. Of data: which piece it is, whether the last one, and the piece's bits
pub record Packet : Type 0 where
  pub kind : Kind
  pub number : ℕ
  pub place : ℕ
  pub last : Bool
  pub bits : List Bool

-- a whole message in the queue of its host
pub record Queued : Type 0 where
  pub number : ℕ
  pub text : List Bool

-- The state of one flow anywhere, its packets aside. An IMP that is down holds nothing: no number, no answer, no queue.
pub record View : Type 0 where
  -- at the source: whether its IMP is up, and the host itself
  pub from_up : Bool
  pub source : Bool
  -- the number begun last, and the one that is outstanding
  pub last : Option ℕ
  pub outstanding : Option ℕ
  -- the answers that wait for the source
  pub answers : List Answer
  -- at the destination: whether its IMP is up, and the host itself
  pub to_up : Bool
  pub destination : Bool
  -- the last number noted there, and what became of its message
  pub kept : Option ℕ
  pub fate : Fate
  -- the whole messages that wait for the destination
  pub queue : List Queued
  -- what the hosts have seen: the flow's mailbox
  pub box : Box

-- the mailbox and the two hosts
abbrev pub mail_now : View → Mail
mail_now v = record { source = v.source; destination = v.destination; box = v.box }
