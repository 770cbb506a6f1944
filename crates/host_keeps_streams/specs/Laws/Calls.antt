-- The laws of src/calls.rt: what each call of a host's program is on each link.
use Rattle.std.specs.Prelude.{◌++◌, ◌∷◌, ◌≡◌, [], Bool, false, find, List, Some, true, ℕ}
use Rattle.interface.specs.Host.{Host}
use Rattle.interface.specs.declared.crossing.Answer.TheVariants as answer
use Rattle.ncp_control.specs.Command.{IsCommand}
use Rattle.ncp_control.specs.DataHeader.{header_of}
use Rattle.ncp_control.specs.Numbers.{is_receive_socket}
use Rattle.ncp_control.specs.declared.command.Command.{Command}
use Rattle.ncp_control.specs.declared.command.Command.TheVariants as command
use Rattle.host_pairs.specs.Asked.{closed_end, passes, receiver_requested, requested, with_end, with_more_bits}
use Rattle.host_pairs.specs.Commands.{desk_taken, granted}
use Rattle.host_pairs.specs.Data.{data_taken}
use Rattle.host_pairs.specs.Desk.{desk_of, DeskState}
use Rattle.host_pairs.specs.Entries.{called_off, free_link, is_mine_on, is_open, sending_end, was_closed}
use Rattle.host_pairs.specs.Pair.{PairState}
use Rattle.host_pairs.specs.Parcels.{Bytes, command_gone, next_of, parcel_gone}
use Rattle.host_pairs.specs.Turn.{answered_turn, freed, TurnState}
use Rattle.host_pairs.specs.declared.entry.Entry.{Entry}
use Rattle.host_pairs.specs.declared.listener.Listener.{Listener}
use Rattle.stream_law.specs.Receivers.{Receiver}
use Rattle.stream_law.specs.Receivers as receivers
use Rattle.stream_law.specs.Senders.{Sender}
use Rattle.stream_law.specs.Senders as senders
use Rattle.host_keeps_streams.specs.Closings.{all_received, all_sent, MayAllReceive, MayAllSend}
use Rattle.host_keeps_streams.specs.Ends.{HasReceiver}
use Rattle.host_keeps_streams.specs.Formed.{AreSound, FindsFree, HasSaid}
use Rattle.host_keeps_streams.specs.Moves.{asks_for, bytes_sent, closes, data_received, on_link, received_by}
use Rattle.host_keeps_streams.specs.Moves.{received_out, sent_by, sent_out, told_on}
use Rattle.host_keeps_streams.specs.Names.{is_among, IsNewReceived, IsNewSent, IsSending, named, NewNumber, NewReceived}
use Rattle.host_keeps_streams.specs.Names.{NewSent, numbers}

-- Each command of the peer is, on each link, a list of the law's moves: `received_by` gives those of the receiver,
-- `sent_by` those of the sender.
pub record Commands : Type 0 where
  -- the law lets the receiver make them, and has the end on the link after them. A request that makes a new end has a
  -- new number
  pub received :
      (name : ℕ → ℕ → ℕ) (link said : ℕ) (peer : Host) (busy : List ℕ) (stamp : ℕ) (c : Command) (d : DeskState)
      (r : Receiver) → IsCommand c → AreSound name d.entries → NewReceived name c d.entries r →
      HasReceiver name link d.entries r →
      MayAllReceive (received_by name link said c d) r ×
      HasReceiver name link (desk_taken peer busy stamp c d).entries (all_received (received_by name link said c d) r)
  -- and the sender too, where an RTS finds the law's link free if it finds the program's free
  pub sent :
      (name : ℕ → ℕ → ℕ) (link said : ℕ) (peer : Host) (busy : List ℕ) (stamp : ℕ) (c : Command) (d : DeskState)
      (s : Sender) → IsCommand c → AreSound name d.entries → NewSent name c d.entries s → FindsFree link c d.entries s →
      IsSending name link d.entries s →
      MayAllSend (sent_by name link said busy c d s) s ×
      IsSending name link (desk_taken peer busy stamp c d).entries (all_sent (sent_by name link said busy c d s) s)
  -- what holds of all ends stays so
  pub sound :
      (name : ℕ → ℕ → ℕ) (peer : Host) (busy : List ℕ) (stamp : ℕ) (c : Command) (d : DeskState) → IsCommand c →
      NewNumber name c d.entries → AreSound name d.entries → AreSound name (desk_taken peer busy stamp c d).entries

-- Names of connections may change where no end has them: so sockets whose end is gone get a new number.
pub record Naming : Type 0 where
  -- where each end keeps its number, what the law has is so under the other names too
  pub received :
      (name other : ℕ → ℕ → ℕ) (link : ℕ) (entries : List Entry) (r : Receiver) →
      numbers other entries ≡ numbers name entries → HasReceiver name link entries r → HasReceiver other link entries r
  pub sent :
      (name other : ℕ → ℕ → ℕ) (link : ℕ) (entries : List Entry) (s : Sender) →
      numbers other entries ≡ numbers name entries → IsSending name link entries s → IsSending other link entries s
  pub sound :
      (name other : ℕ → ℕ → ℕ) (entries : List Entry) → numbers other entries ≡ numbers name entries →
      AreSound name entries → AreSound other entries

-- A message of data of the peer, on any link, is a matter of the receiver of its link.
pub record Data : Type 0 where
  -- the receiver of the link takes it or drops it, and no other makes a move
  pub received :
      (name : ℕ → ℕ → ℕ) (link l : ℕ) (text : List Bool) (d : DeskState) (r : Receiver) →
      HasReceiver name link d.entries r →
      MayAllReceive (data_received link l text (header_of text)) r ×
      HasReceiver name link (data_taken l text d).entries (all_received (data_received link l text (header_of text)) r)
  -- no sender makes a move, and what holds of all ends is kept
  pub sent :
      (name : ℕ → ℕ → ℕ) (link l : ℕ) (text : List Bool) (d : DeskState) (s : Sender) →
      IsSending name link d.entries s → IsSending name link (data_taken l text d).entries s
  pub sound :
      (name : ℕ → ℕ → ℕ) (l : ℕ) (text : List Bool) (d : DeskState) → AreSound name d.entries →
      AreSound name (data_taken l text d).entries

-- What goes out of a host's program: a command, where a CLS is that of an end which said it, or bytes.
pub record GoingOut : Type 0 where
  -- a command makes the moves that `received_out` and `sent_out` give, and what holds of all ends is kept
  pub command_received :
      (name : ℕ → ℕ → ℕ) (link : ℕ) (peer : Host) (stamp : ℕ) (c : Command) (d : DeskState) (r : Receiver) →
      HasSaid c d.entries → AreSound name d.entries → HasReceiver name link d.entries r →
      MayAllReceive (received_out name link c d.entries) r ×
      HasReceiver name link (command_gone peer stamp c d).entries (all_received (received_out name link c d.entries) r)
  pub command_sent :
      (name : ℕ → ℕ → ℕ) (link : ℕ) (peer : Host) (stamp : ℕ) (c : Command) (d : DeskState) (s : Sender) →
      HasSaid c d.entries → AreSound name d.entries → IsSending name link d.entries s →
      MayAllSend (sent_out name link c d.entries s) s ×
      IsSending name link (command_gone peer stamp c d).entries (all_sent (sent_out name link c d.entries s) s)
  pub command_sound :
      (name : ℕ → ℕ → ℕ) (peer : Host) (stamp : ℕ) (c : Command) (d : DeskState) → AreSound name d.entries →
      AreSound name (command_gone peer stamp c d).entries
  -- bytes are sent on the link of their end, and no receiver makes a move
  pub bytes_received :
      (name : ℕ → ℕ → ℕ) (link : ℕ) (peer : Host) (stamp : ℕ) (listening : List Listener) (q : PairState) (e : Entry)
      (size count : ℕ) (r : Receiver) → next_of q ≡ Some (Bytes e size count) → HasReceiver name link q.entries r →
      HasReceiver name link (parcel_gone peer stamp q.busy (Bytes e size count) (desk_of q listening)).entries r
  pub bytes_sent :
      (name : ℕ → ℕ → ℕ) (link : ℕ) (peer : Host) (stamp : ℕ) (listening : List Listener) (q : PairState) (e : Entry)
      (size count : ℕ) (s : Sender) → next_of q ≡ Some (Bytes e size count) → IsSending name link q.entries s →
      MayAllSend (bytes_sent name link e size count) s ×
      IsSending name link (parcel_gone peer stamp q.busy (Bytes e size count) (desk_of q listening)).entries
      (all_sent (bytes_sent name link e size count) s)
  pub bytes_sound :
      (name : ℕ → ℕ → ℕ) (peer : Host) (stamp : ℕ) (listening : List Listener) (q : PairState) (e : Entry)
      (size count : ℕ) → next_of q ≡ Some (Bytes e size count) → AreSound name q.entries →
      AreSound name (parcel_gone peer stamp q.busy (Bytes e size count) (desk_of q listening)).entries

-- The answer to what was sent on a link. The sender of that link is notified, and each end that has to close does so.
pub record Answering : Type 0 where
  -- no receiver makes a move; the sender is notified on its link, and each end closes that has to
  pub received :
      (name : ℕ → ℕ → ℕ) (link l : ℕ) (peer : Host) (t : TurnState) (r : Receiver) →
      HasReceiver name link t.pair.entries r → HasReceiver name link (answered_turn peer answer.Rfnm l t).pair.entries r
  pub sent :
      (name : ℕ → ℕ → ℕ) (link l : ℕ) (peer : Host) (t : TurnState) (s : Sender) → AreSound name t.pair.entries →
      IsSending name link t.pair.entries s →
      MayAllSend (told_on link l ++ closes name (freed l t.pair).busy t.pair.entries) s ×
      IsSending name link (answered_turn peer answer.Rfnm l t).pair.entries
      (all_sent (told_on link l ++ closes name (freed l t.pair).busy t.pair.entries) s)
  pub sound :
      (name : ℕ → ℕ → ℕ) (l : ℕ) (peer : Host) (t : TurnState) → AreSound name t.pair.entries →
      AreSound name (answered_turn peer answer.Rfnm l t).pair.entries

-- A user asks for an end, which has a new number.
pub record CallsOpening : Type 0 where
  -- one that receives, on the lowest free link
  pub receives :
      (name : ℕ → ℕ → ℕ) (link own foreign : ℕ) (q : PairState) (r : Receiver) → is_receive_socket own ≡ true →
      IsNewReceived (name own foreign) (numbers name q.entries) r → HasReceiver name link q.entries r →
      MayAllReceive (asks_for link (name own foreign) (free_link q.entries)) r ×
      HasReceiver name link (receiver_requested own foreign (free_link q.entries) q).entries
      (all_received (asks_for link (name own foreign) (free_link q.entries)) r)
  pub receives_sent :
      (name : ℕ → ℕ → ℕ) (link own foreign : ℕ) (q : PairState) (s : Sender) → is_receive_socket own ≡ true →
      IsSending name link q.entries s →
      IsSending name link (receiver_requested own foreign (free_link q.entries) q).entries s
  pub receives_sound :
      (name : ℕ → ℕ → ℕ) (own foreign : ℕ) (q : PairState) → is_receive_socket own ≡ true →
      is_among (name own foreign) (numbers name q.entries) ≡ false → AreSound name q.entries →
      AreSound name (receiver_requested own foreign (free_link q.entries) q).entries
  -- one that sends: its byte size is known on each link
  pub sends :
      (name : ℕ → ℕ → ℕ) (link own foreign size : ℕ) (q : PairState) (s : Sender) →
      IsNewSent (name own foreign) (numbers name q.entries) s → IsSending name link q.entries s →
      MayAllSend (senders.Ask (name own foreign) size ∷ []) s ×
      IsSending name link (requested (sending_end own foreign size) (command.Str own foreign size) q).entries
      (senders.moved (senders.Ask (name own foreign) size) s)
  pub sends_received :
      (name : ℕ → ℕ → ℕ) (link own foreign size : ℕ) (q : PairState) (r : Receiver) →
      HasReceiver name link q.entries r →
      HasReceiver name link (requested (sending_end own foreign size) (command.Str own foreign size) q).entries r
  pub sends_sound :
      (name : ℕ → ℕ → ℕ) (own foreign size : ℕ) (q : PairState) →
      is_among (name own foreign) (numbers name q.entries) ≡ false → AreSound name q.entries →
      AreSound name (requested (sending_end own foreign size) (command.Str own foreign size) q).entries

-- A user asks something of an end: to grant and to ask back where it receives, and to send.
pub record Using : Type 0 where
  -- a grant is a move of the receiver on the link of its end
  pub grants :
      (name : ℕ → ℕ → ℕ) (link socket messages bits : ℕ) (q : PairState) (e : Entry) (r : Receiver) →
      find (is_mine_on socket) q.entries ≡ Some e → is_open e ≡ true → passes e.allocation messages bits ≡ false →
      HasReceiver name link q.entries r →
      MayAllReceive (on_link link e (receivers.Grant (named name e) messages bits ∷ [])) r ×
      HasReceiver name link (with_end socket (granted messages bits) q).entries
      (all_received (on_link link e (receivers.Grant (named name e) messages bits ∷ [])) r)
  pub grants_sent :
      (name : ℕ → ℕ → ℕ) (link socket messages bits : ℕ) (q : PairState) (e : Entry) (s : Sender) →
      find (is_mine_on socket) q.entries ≡ Some e → is_receive_socket socket ≡ true → IsSending name link q.entries s →
      IsSending name link (with_end socket (granted messages bits) q).entries s
  pub grants_sound :
      (name : ℕ → ℕ → ℕ) (socket messages bits : ℕ) (q : PairState) (e : Entry) →
      find (is_mine_on socket) q.entries ≡ Some e → is_receive_socket socket ≡ true → AreSound name q.entries →
      AreSound name (with_end socket (granted messages bits) q).entries
  -- what is asked back leaves the ends as they are
  pub asks_back :
      (name : ℕ → ℕ → ℕ) (link socket messages bits : ℕ) (q : PairState) (e : Entry) (r : Receiver) →
      find (is_mine_on socket) q.entries ≡ Some e → is_open e ≡ true → HasReceiver name link q.entries r →
      MayAllReceive (on_link link e (receivers.AskBack (named name e) messages bits ∷ [])) r ×
      HasReceiver name link q.entries
      (all_received (on_link link e (receivers.AskBack (named name e) messages bits ∷ [])) r)
  -- bits that are to be sent wait, and that is no move
  pub sends_received :
      (name : ℕ → ℕ → ℕ) (link socket : ℕ) (bits : List Bool) (q : PairState) (e : Entry) (r : Receiver) →
      find (is_mine_on socket) q.entries ≡ Some e → is_receive_socket socket ≡ false →
      HasReceiver name link q.entries r → HasReceiver name link (with_end socket (with_more_bits bits) q).entries r
  pub sends_sent :
      (name : ℕ → ℕ → ℕ) (link socket : ℕ) (bits : List Bool) (q : PairState) (e : Entry) (s : Sender) →
      find (is_mine_on socket) q.entries ≡ Some e → IsSending name link q.entries s →
      IsSending name link (with_end socket (with_more_bits bits) q).entries s
  pub sends_sound :
      (name : ℕ → ℕ → ℕ) (socket : ℕ) (bits : List Bool) (q : PairState) (e : Entry) →
      find (is_mine_on socket) q.entries ≡ Some e → AreSound name q.entries →
      AreSound name (with_end socket (with_more_bits bits) q).entries

-- A user closes an end: one that receives closes on its link, and each sending end that has to close then does so.
pub record ClosingEnds : Type 0 where
  -- an end that receives closes on its link, and each sending end that has to close then does so
  pub received :
      (name : ℕ → ℕ → ℕ) (link socket : ℕ) (q : PairState) (e : Entry) (r : Receiver) →
      find (is_mine_on socket) q.entries ≡ Some e → was_closed e ≡ false → HasReceiver name link q.entries r →
      MayAllReceive (on_link link e (receivers.Close (named name e) ∷ [])) r ×
      HasReceiver name link (closed_end socket q).entries
      (all_received (on_link link e (receivers.Close (named name e) ∷ [])) r)
  pub sent :
      (name : ℕ → ℕ → ℕ) (link socket : ℕ) (q : PairState) (e : Entry) (s : Sender) →
      find (is_mine_on socket) q.entries ≡ Some e → AreSound name q.entries → IsSending name link q.entries s →
      MayAllSend (closes name q.busy (with_end socket called_off q).entries) s ×
      IsSending name link (closed_end socket q).entries
      (all_sent (closes name q.busy (with_end socket called_off q).entries) s)
  pub sound :
      (name : ℕ → ℕ → ℕ) (socket : ℕ) (q : PairState) (e : Entry) → find (is_mine_on socket) q.entries ≡ Some e →
      AreSound name q.entries → AreSound name (closed_end socket q).entries
