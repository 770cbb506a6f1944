-- What two lives have in common while nothing waits between them (BBN Report 1822, RFNM; NIC 8246, messages of data).
use Rattle.std.specs.Prelude.{◌≡◌, ℕ, Bool, false, true, List, [], ◌++◌, None, Some}
use Rattle.std.specs.List.{Contains}
use Rattle.interface.specs.Host.{Host}
use Rattle.interface.specs.Mailboxes.{Empty, Waiting, box_of}
use Rattle.interface.specs.declared.address.Flow.{Flow}
use Rattle.interface.specs.declared.crossing.Crossing.{Crossing}
use Rattle.host_pairs.specs.Entries.{is_open, was_closed}
use Rattle.host_pairs.specs.Parcels.{sendable}
use Rattle.host_pairs.specs.declared.entry.Entry.{Entry}
use Rattle.sockets.specs.Pairs.{pair_with}
use Rattle.sockets.specs.Sending.{next_out}
use Rattle.promise.specs.Safe.{Match, control_flow}
use Rattle.net_sim.specs.Story.{Moment, program}
use Rattle.net_sim.specs.Timeline.{crossings_of}
use Rattle.net_sim.specs.Told.{kept_in}
use Rattle.promise.specs.declared.life.Life.{Life}
use Rattle.world_keeps_lives.specs.Lives.{AddsUp, HasOpenEnd}

-- no message of a flow waits to be taken
abbrev pub NoneWaits : Flow → List Crossing → Type 0
NoneWaits f log = (place : ℕ) (text : List Bool) → box_of f log ≡ Waiting place text → ⊥

-- a receiving life and the sending one that it matches aren't over, the receiver's end is open, and no message waits on its link
pub record AreAtRest (moments : List Moment) (receiver sender : Life) : Type 0 where
  pub there : Contains (kept_in moments).book.lives receiver
  pub sender_there : Contains (kept_in moments).book.lives sender
  pub matches : Match (crossings_of moments) receiver sender
  pub goes : receiver.ended ≡ false
  pub sender_goes : sender.ended ≡ false
  pub end : HasOpenEnd (program receiver.host moments) receiver
  pub opened : is_open end.end ≡ true
  pub link : ℕ
  pub linked : end.end.link ≡ Some link
  pub silent : NoneWaits (record { source = receiver.peer; destination = receiver.host; link = record { 0 = link } }) (crossings_of moments)

-- then all that was sent was taken, at every moment
abbrev pub AllRest : List Moment → Type 0
AllRest moments =
    (later earlier : List Moment) → moments ≡ later ++ earlier → (receiver sender : Life) → AreAtRest earlier receiver sender
    → (receiver.bits ≡ sender.bits) × (receiver.messages ≡ sender.messages)

-- ---- what the ends may still carry

-- no command of either of two hosts waits to be taken by the other, or to go out to it
pub record AreSilent (a b : Host) (moments : List Moment) : Type 0 where
  pub there : NoneWaits (control_flow a b) (crossings_of moments)
  pub back : NoneWaits (control_flow b a) (crossings_of moments)
  pub queue : (pair_with b (program a moments).peers).queue ≡ []
  pub queue_back : (pair_with a (program b moments).peers).queue ≡ []

-- lives at rest, and no command is on its way between their hosts
pub record AreSettled (moments : List Moment) (receiver sender : Life) : Type 0 where
  pub rest : AreAtRest moments receiver sender
  pub giver : HasOpenEnd (program sender.host moments) sender
  pub silent : AreSilent receiver.host sender.host moments

-- the sender's counters are the receiver's, which are what was granted and neither used nor returned
pub record Agree (receiver : Life) (taker giver : Entry) : Type 0 where
  pub counters : giver.allocation ≡ taker.allocation
  pub left : AddsUp receiver giver.allocation

-- so it is at every moment
abbrev pub AllAgree : List Moment → Type 0
AllAgree moments =
    (later earlier : List Moment) → moments ≡ later ++ earlier → (receiver sender : Life) → (settled : AreSettled earlier receiver sender)
    → Agree receiver settled.rest.end.end settled.giver.end

-- ---- where nothing is left to be done

-- each message from one host to another was answered, on any link
abbrev pub NoneOut : Host → Host → List Crossing → Type 0
NoneOut from to log = (link : ℕ) → box_of (record { source = from; destination = to; link = record { 0 = link } }) log ≡ Empty

-- so it is between two hosts both ways, and the program of neither has anything to say
pub record AreIdle (a b : Host) (moments : List Moment) : Type 0 where
  pub there : NoneOut a b (crossings_of moments)
  pub back : NoneOut b a (crossings_of moments)
  pub mute : next_out (program a moments) ≡ None
  pub mute_back : next_out (program b moments) ≡ None

-- a receiving life and the sending one that it matches aren't over, and between their hosts nothing is left to be done
pub record AreCalm (moments : List Moment) (receiver sender : Life) : Type 0 where
  pub there : Contains (kept_in moments).book.lives receiver
  pub sender_there : Contains (kept_in moments).book.lives sender
  pub matches : Match (crossings_of moments) receiver sender
  pub goes : receiver.ended ≡ false
  pub sender_goes : sender.ended ≡ false
  pub end : HasOpenEnd (program receiver.host moments) receiver
  pub giver : HasOpenEnd (program sender.host moments) sender
  pub idle : AreIdle receiver.host sender.host moments

-- nobody has closed the receiving end. The sending one is open; at most its own user has closed it, while bits are queued there. What is queued waits for allocation
pub record AreOpen (taker giver : Entry) : Type 0 where
  pub unclosed : was_closed taker ≡ false
  pub opened : is_open giver ≡ true
  pub drains : was_closed giver ≡ true → giver.bits ≡ [] → ⊥
  pub waits : sendable giver ≡ 0

-- then all that was sent was taken, the ends agree, and they are open, at every moment
abbrev pub AllCalm : List Moment → Type 0
AllCalm moments =
    (later earlier : List Moment) → moments ≡ later ++ earlier → (receiver sender : Life) → (calm : AreCalm earlier receiver sender)
    → (receiver.bits ≡ sender.bits) × (receiver.messages ≡ sender.messages) × Agree receiver calm.end.end calm.giver.end × AreOpen calm.end.end calm.giver.end
