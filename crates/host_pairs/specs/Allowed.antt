-- What may go out of a pair, and what is read again: words for the laws of one host.
use Rattle.std.specs.Prelude.{◌≡◌, map, take, ℕ, ◌*◌, ◌<◌, ◌≤◌, Bool, true, false, List, [], ◌∷◌, length, Some, is_some}
use Rattle.ncp_control.specs.Packing.{packed_count}
use Rattle.ncp_control.specs.declared.command.Command.{Command}
use Rattle.ncp_control.specs.declared.command.Command.TheVariants as command
use Rattle.host_pairs.specs.Control.{Legal, orders_of}
use Rattle.host_pairs.specs.Entries.{is_receiving, is_open, is_answered, is_busy}
use Rattle.host_pairs.specs.Pair.{PairState}
use Rattle.ncp_control.specs.Phases.{is_want}
use Rattle.host_pairs.specs.Queue.{are_joint}
use Rattle.host_pairs.specs.Parcels.{Parcel, Reset, Reply, Commands, Bytes}
use Rattle.host_pairs.specs.declared.entry.Entry.{Entry}
use Rattle.ncp_control.specs.declared.phase.Phase.TheVariants as phase

-- ---- what may go out of a pair

-- an RST goes of a pair that wants a reset, while nothing is outstanding
pub record MayReset (q : PairState) : Type 0 where
  pub wanted : q.phase ≡ phase.Want
  pub silent : q.busy ≡ []

-- an RRP that is owed goes where no RST waits, while nothing is outstanding
pub record MayReply (q : PairState) : Type 0 where
  pub owed : q.owed ≡ true
  pub unwanted : is_want q.phase ≡ false
  pub silent : q.busy ≡ []

-- all else goes of a pair that is ready and owes nothing
pub record MaySpeak (q : PairState) : Type 0 where
  pub ready : q.phase ≡ phase.Ready
  pub owes : q.owed ≡ false

-- this many bytes go of an open sending end with a link, if its last message is answered: no more than wait, than were granted, and than one message holds
pub record MaySend (q : PairState) (e : Entry) (size count : ℕ) : Type 0 where
  pub sends : is_receiving e ≡ false
  pub is_opened : is_open e ≡ true
  pub linked : is_some e.link ≡ true
  pub answered : is_answered q.busy e.link ≡ true
  pub bytes : e.size ≡ Some size
  pub some : 0 < count
  pub waits : size * count ≤ length e.bits
  pub granted_bits : size * count ≤ e.allocation.bits
  pub granted_message : 0 < e.allocation.messages
  pub fits : size * count ≤ 8023

-- what has to hold of a pair for each thing that may go out of it: commands as many as fit, and only if link 0 is free
pub record MayCommand (q : PairState) (count : ℕ) : Type 0 where
  pub answered : is_busy q.busy 0 ≡ false
  pub front : count ≡ packed_count q.queue

abbrev pub MayGo : PairState → Parcel → Type 0
MayGo q Reset = MayReset q
MayGo q Reply = MayReply q
MayGo q (Commands count) = MaySpeak q × MayCommand q count
MayGo q (Bytes e size count) = MaySpeak q × MaySend q e size count

-- ---- what is read again

-- the commands in the message that this goes out in
abbrev pub commands_of : PairState → Parcel → List Command
commands_of q Reset = command.Rst ∷ []
commands_of q Reply = command.Rrp ∷ []
commands_of q (Commands count) = take count q.queue
commands_of q (Bytes e size count) = []

-- whoever takes a control message reads just these commands in it; and with others goes neither an RST nor an RRP
abbrev pub IsReadAs : PairState → Parcel → List Bool → Type 0
IsReadAs q Reset text = orders_of text ≡ map Legal (commands_of q Reset)
IsReadAs q Reply text = orders_of text ≡ map Legal (commands_of q Reply)
IsReadAs q (Commands count) text = (orders_of text ≡ map Legal (commands_of q (Commands count))) × (are_joint q.queue ≡ true)
IsReadAs q (Bytes e size count) text = Unit {0}
