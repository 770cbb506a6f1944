-- The laws of src/law.rt: what comes in for the ends on a link, what users ask of them, and how they open and close.
use Rattle.std.specs.List.{list_any}
use Rattle.std.specs.Prelude.{◌*◌, ◌++◌, ◌==◌, ◌∷◌, ◌≡◌, [], Bool, false, filter, find, is_some, List, None, Some, take}
use Rattle.std.specs.Prelude.{true, ℕ}
use Rattle.interface.specs.Host.{Host}
use Rattle.ncp_control.specs.Allocation as counters
use Rattle.ncp_control.specs.DataHeader.{data_bits, header_of}
use Rattle.ncp_control.specs.Numbers.{is_receive_socket}
use Rattle.ncp_control.specs.declared.command.Command.{Command}
use Rattle.ncp_control.specs.declared.command.Command.TheVariants as command
use Rattle.ncp_control.specs.declared.data_header.DataHeader.{DataHeader}
use Rattle.host_pairs.specs.Asked.{closed_end, passes, requested, with_end, with_more_bits}
use Rattle.host_pairs.specs.Commands.{desk_taken, granted}
use Rattle.host_pairs.specs.Data.{data_of, data_taken}
use Rattle.host_pairs.specs.Desk.{desk_of, DeskState}
use Rattle.host_pairs.specs.Desk as desk
use Rattle.host_pairs.specs.Entries.{called_off, entry_at, free_link, has_cls, is_answered, is_mine_on, is_open}
use Rattle.host_pairs.specs.Entries.{is_receiving, must_close, receives_on, receiving_end, sending_end, sends_on}
use Rattle.host_pairs.specs.Entries.{was_closed}
use Rattle.host_pairs.specs.Pair.{PairState}
use Rattle.host_pairs.specs.Parcels.{Bytes, command_gone, next_of, parcel_gone}
use Rattle.host_pairs.specs.declared.entry.Entry.{Entry}
use Rattle.host_pairs.specs.declared.listener.Listener.{Listener}
use Rattle.stream_law.specs.Receivers.{Receiver}
use Rattle.stream_law.specs.Receivers as receivers
use Rattle.stream_law.specs.Senders.{Sender}
use Rattle.stream_law.specs.Senders as senders
use Rattle.stream_law.specs.Words.{All, Cls, Gvb, Ret, Rts, Str}
use Rattle.host_keeps_streams.specs.Closings.{all_received, all_sent, MayAllReceive, MayAllSend, received_close}
use Rattle.host_keeps_streams.specs.Closings.{received_gone, received_open, sent_close, sent_heard, sent_open}
use Rattle.host_keeps_streams.specs.Ends.{HasReceiver, HasSender}
use Rattle.host_keeps_streams.specs.Said.{arrivals, LeavesReceiver, LeavesSender, returned_in, returned_on}

-- What comes in for the end that receives on a link.
pub record Receiving : Type 0 where
  -- a message of data is taken or dropped as the law has it, and its user is notified of just what the law takes
  pub «data» :
      (name : ℕ → ℕ → ℕ) (link : ℕ) (text : List Bool) (h : DataHeader) (d : DeskState) (r : Receiver) →
      header_of text ≡ Some h → HasReceiver name link d.entries r →
      HasReceiver name link (data_taken link text d).entries
      (receivers.moved (receivers.Take h.size (data_of (data_bits h) text)) r)
  pub told :
      (name : ℕ → ℕ → ℕ) (link : ℕ) (text : List Bool) (h : DataHeader) (d : DeskState) (r : Receiver) (c : ℕ) →
      header_of text ≡ Some h → HasReceiver name link d.entries r → d.notices ≡ [] → r.end ≡ Some c →
      (receivers.moved (receivers.Take h.size (data_of (data_bits h) text)) r).taken c
      ≡ r.taken c ++ arrivals (data_taken link text d).notices
  -- what is returned counts as in the law, of whatever connection the law has it
  pub returned :
      (name : ℕ → ℕ → ℕ) (link : ℕ) (peer : Host) (busy : List ℕ) (stamp k messages bits : ℕ) (d : DeskState)
      (r : Receiver) → HasReceiver name link d.entries r →
      HasReceiver name link (desk_taken peer busy stamp (command.Ret link messages bits) d).entries
      (receivers.moved (receivers.Hear (Ret k messages bits)) r)
  -- nothing else but requests and CLS changes it: no other command, and no data on another link
  pub others :
      (name : ℕ → ℕ → ℕ) (link : ℕ) (peer : Host) (busy : List ℕ) (stamp : ℕ) (c : Command) (d : DeskState)
      (r : Receiver) → LeavesReceiver link c → HasReceiver name link d.entries r →
      HasReceiver name link (desk_taken peer busy stamp c d).entries r
  pub elsewhere :
      (name : ℕ → ℕ → ℕ) (link other : ℕ) (text : List Bool) (d : DeskState) (r : Receiver) → (other == link) ≡ false →
      HasReceiver name link d.entries r → HasReceiver name link (data_taken other text d).entries r

-- What comes in for the end that sends on a link, and what goes out of it.
pub record Sending : Type 0 where
  -- a grant adds what the law adds, and what is asked back is taken from its counters and returned as the law has it
  pub granted :
      (name : ℕ → ℕ → ℕ) (link : ℕ) (peer : Host) (busy : List ℕ) (stamp k messages bits : ℕ) (d : DeskState)
      (s : Sender) → HasSender name link d.entries s →
      HasSender name link (desk_taken peer busy stamp (command.All link messages bits) d).entries
      (senders.moved (senders.Hear (All k messages bits)) s)
  pub asked_back :
      (name : ℕ → ℕ → ℕ) (link : ℕ) (peer : Host) (busy : List ℕ) (stamp k messages bits : ℕ) (d : DeskState)
      (s : Sender) → HasSender name link d.entries s →
      HasSender name link (desk_taken peer busy stamp (command.Gvb link messages bits) d).entries
      (senders.moved (senders.Hear (Gvb k messages bits)) s)
  pub returns :
      (name : ℕ → ℕ → ℕ) (link : ℕ) (peer : Host) (busy : List ℕ) (stamp k messages bits : ℕ) (d : DeskState)
      (s : Sender) → HasSender name link d.entries s →
      returned_on link (desk_taken peer busy stamp (command.Gvb link messages bits) d).queue
      ≡ returned_on link d.queue ++ returned_in (senders.says (senders.Hear (Gvb k messages bits)) s)
  -- bytes that go out of an end are what the law lets it send, and the law has that end afterwards
  pub may :
      (name : ℕ → ℕ → ℕ) (link : ℕ) (q : PairState) (e : Entry) (size count : ℕ) (s : Sender) →
      next_of q ≡ Some (Bytes e size count) → e.link ≡ Some link → HasSender name link q.entries s →
      senders.May (senders.Send (name e.own e.foreign) size (take (size * count) e.bits)) s
  pub bytes :
      (name : ℕ → ℕ → ℕ) (link : ℕ) (peer : Host) (stamp : ℕ) (listening : List Listener) (q : PairState) (e : Entry)
      (size count : ℕ) (s : Sender) → next_of q ≡ Some (Bytes e size count) → e.link ≡ Some link →
      HasSender name link q.entries s →
      HasSender name link (parcel_gone peer stamp q.busy (Bytes e size count) (desk_of q listening)).entries
      (senders.moved (senders.Send (name e.own e.foreign) size (take (size * count) e.bits)) s)
  -- nothing else but requests and CLS changes it: no other command, and no data of the peer
  pub others :
      (name : ℕ → ℕ → ℕ) (link : ℕ) (peer : Host) (busy : List ℕ) (stamp : ℕ) (c : Command) (d : DeskState) (s : Sender)
      → LeavesSender link c → HasSender name link d.entries s →
      HasSender name link (desk_taken peer busy stamp c d).entries s
  pub «data» :
      (name : ℕ → ℕ → ℕ) (link other : ℕ) (text : List Bool) (d : DeskState) (s : Sender) →
      HasSender name link d.entries s → HasSender name link (data_taken other text d).entries s

-- What a user asks of an open end: to grant, to ask back, or to send.
pub record Asking : Type 0 where
  -- the law lets the receiver grant what isn't refused, and has that end afterwards
  pub may_grant :
      (name : ℕ → ℕ → ℕ) (link socket messages bits : ℕ) (q : PairState) (e : Entry) (r : Receiver) →
      find (is_mine_on socket) q.entries ≡ Some e → receives_on link e ≡ true → is_open e ≡ true →
      passes e.allocation messages bits ≡ false → HasReceiver name link q.entries r →
      receivers.May (receivers.Grant (name e.own e.foreign) messages bits) r
  pub grant :
      (name : ℕ → ℕ → ℕ) (link socket messages bits : ℕ) (q : PairState) (e : Entry) (r : Receiver) →
      find (is_mine_on socket) q.entries ≡ Some e → receives_on link e ≡ true → HasReceiver name link q.entries r →
      HasReceiver name link (with_end socket (granted messages bits) q).entries
      (receivers.moved (receivers.Grant (name e.own e.foreign) messages bits) r)
  pub may_ask_back :
      (name : ℕ → ℕ → ℕ) (link socket messages bits : ℕ) (q : PairState) (e : Entry) (r : Receiver) →
      find (is_mine_on socket) q.entries ≡ Some e → receives_on link e ≡ true → is_open e ≡ true →
      HasReceiver name link q.entries r → receivers.May (receivers.AskBack (name e.own e.foreign) messages bits) r
  -- a grant on another link changes nothing here, nor does one for an end that sends
  pub elsewhere :
      (name : ℕ → ℕ → ℕ) (link socket messages bits : ℕ) (q : PairState) (e : Entry) (r : Receiver) →
      find (is_mine_on socket) q.entries ≡ Some e → receives_on link e ≡ false → HasReceiver name link q.entries r →
      HasReceiver name link (with_end socket (granted messages bits) q).entries r
  pub apart :
      (name : ℕ → ℕ → ℕ) (link socket messages bits : ℕ) (q : PairState) (e : Entry) (s : Sender) →
      find (is_mine_on socket) q.entries ≡ Some e → sends_on link e ≡ false → HasSender name link q.entries s →
      HasSender name link (with_end socket (granted messages bits) q).entries s
  -- bits that wait to be sent are no matter of the law
  pub send :
      (name : ℕ → ℕ → ℕ) (link socket : ℕ) (bits : List Bool) (q : PairState) (e : Entry) (s : Sender) →
      find (is_mine_on socket) q.entries ≡ Some e → HasSender name link q.entries s →
      HasSender name link (with_end socket (with_more_bits bits) q).entries s

-- How ends on a link open that the host itself asked for. Those with which a listening socket answers are not described
-- here.
pub record Opening : Type 0 where
  -- a user asks for a receiving end, on the lowest free link: the law lets it, if it wasn't asked for nor heard of
  -- before. On another link nothing changes
  pub asked :
      (name : ℕ → ℕ → ℕ) (link own foreign : ℕ) (q : PairState) (r : Receiver) → free_link q.entries ≡ Some link →
      is_receive_socket own ≡ true → r.asked (name own foreign) ≡ false → r.size (name own foreign) ≡ None →
      r.over (name own foreign) ≡ false → HasReceiver name link q.entries r →
      receivers.May (receivers.Ask (name own foreign)) r ×
      HasReceiver name link (requested (receiving_end own foreign link) (command.Rts own foreign link) q).entries
      (receivers.moved (receivers.Ask (name own foreign)) r)
  pub elsewhere :
      (name : ℕ → ℕ → ℕ) (link other own foreign : ℕ) (q : PairState) (r : Receiver) → (other == link) ≡ false →
      HasReceiver name link q.entries r →
      HasReceiver name link (requested (receiving_end own foreign other) (command.Rts own foreign other) q).entries r
  -- a user asks for a sending end, of which the link's isn't one: the law says its byte size
  pub sends :
      (name : ℕ → ℕ → ℕ) (link own foreign size c : ℕ) (q : PairState) (s : Sender) → (s.end ≡ Some c → ⊥) →
      s.size c ≡ None → HasSender name link q.entries s →
      senders.May (senders.Ask c size) s ×
      HasSender name link (requested (sending_end own foreign size) (command.Str own foreign size) q).entries
      (senders.moved (senders.Ask c size) s)
  -- a receiving end's RTS goes out: it opens if the partner's STR was taken
  pub rts_gone :
      (name : ℕ → ℕ → ℕ) (link : ℕ) (peer : Host) (stamp own foreign other : ℕ) (d : DeskState) (e : Entry)
      (r : Receiver) → entry_at own foreign d.entries ≡ Some e → receives_on link e ≡ true →
      (is_some e.partner ≡ true → is_some e.size ≡ true) → HasReceiver name link d.entries r →
      MayAllReceive (received_open (is_some e.partner) (name e.own e.foreign)) r ×
      HasReceiver name link (command_gone peer stamp (command.Rts own foreign other) d).entries
      (all_received (received_open (is_some e.partner) (name e.own e.foreign)) r)
  -- its partner's STR is heard, for the first time: it learns the byte size, and opens if its own RTS has gone out
  pub str_heard :
      (name : ℕ → ℕ → ℕ) (link : ℕ) (peer : Host) (busy : List ℕ) (stamp own foreign size : ℕ) (d : DeskState)
      (e : Entry) (r : Receiver) → entry_at own foreign d.entries ≡ Some e → receives_on link e ≡ true →
      is_some e.partner ≡ false → HasReceiver name link d.entries r →
      MayAllReceive
      (receivers.Hear (Str (name e.own e.foreign) size) ∷ received_open (is_some e.asked) (name e.own e.foreign)) r ×
      HasReceiver name link (desk_taken peer busy stamp (command.Str foreign own size) d).entries
      (all_received
      (receivers.Hear (Str (name e.own e.foreign) size) ∷ received_open (is_some e.asked) (name e.own e.foreign)) r)
  -- an RTS is heard for a sending end, and names a free link: it has the link, and opens if its own STR has gone out.
  -- What the law knows of its connection before has to be so
  pub rts_heard :
      (name : ℕ → ℕ → ℕ) (link : ℕ) (peer : Host) (busy : List ℕ) (stamp own foreign : ℕ) (d : DeskState) (e : Entry)
      (s : Sender) → entry_at own foreign d.entries ≡ Some e → is_receiving e ≡ false →
      list_any (sends_on link) d.entries ≡ false → s.end ≡ None → s.size (name e.own e.foreign) ≡ e.size →
      s.closed (name e.own e.foreign) ≡ has_cls e.closing → is_some e.size ≡ true → e.allocation ≡ counters.nothing →
      e.partner_closed ≡ false → is_some e.partner ≡ false →
      MayAllSend (senders.Hear (Rts (name e.own e.foreign)) ∷ sent_open (is_some e.asked) (name e.own e.foreign)) s ×
      HasSender name link (desk_taken peer busy stamp (command.Rts foreign own link) d).entries
      (all_sent (senders.Hear (Rts (name e.own e.foreign)) ∷ sent_open (is_some e.asked) (name e.own e.foreign)) s)

-- How the end that receives on a link closes.
pub record ReceiverCloses : Type 0 where
  -- its user closes it: that is the law's closing, and what is closed on another link changes nothing
  pub close :
      (name : ℕ → ℕ → ℕ) (link socket : ℕ) (q : PairState) (e : Entry) (r : Receiver) →
      find (is_mine_on socket) q.entries ≡ Some e → receives_on link e ≡ true → was_closed e ≡ false →
      HasReceiver name link q.entries r →
      receivers.May (receivers.Close (name e.own e.foreign)) r ×
      HasReceiver name link (closed_end socket q).entries (receivers.moved (receivers.Close (name e.own e.foreign)) r)
  pub close_elsewhere :
      (name : ℕ → ℕ → ℕ) (link socket : ℕ) (q : PairState) (e : Entry) (r : Receiver) →
      find (is_mine_on socket) q.entries ≡ Some e → receives_on link e ≡ false → HasReceiver name link q.entries r →
      HasReceiver name link (closed_end socket q).entries r
  -- its partner's first CLS is heard: it closes too, if it hasn't, and it goes if its own CLS has gone out
  pub heard :
      (name : ℕ → ℕ → ℕ) (link : ℕ) (peer : Host) (busy : List ℕ) (stamp own foreign : ℕ) (d : DeskState) (e : Entry)
      (r : Receiver) → entry_at own foreign d.entries ≡ Some e → receives_on link e ≡ true → e.partner_closed ≡ false →
      HasReceiver name link d.entries r →
      MayAllReceive (receivers.Hear (Cls (name e.own e.foreign)) ∷ received_close e.closing (name e.own e.foreign)) r ×
      HasReceiver name link (desk_taken peer busy stamp (command.Cls foreign own) d).entries
      (all_received (receivers.Hear (Cls (name e.own e.foreign)) ∷ received_close e.closing (name e.own e.foreign)) r)
  pub heard_elsewhere :
      (name : ℕ → ℕ → ℕ) (link : ℕ) (peer : Host) (busy : List ℕ) (stamp own foreign : ℕ) (d : DeskState) (r : Receiver)
      → ((e : Entry) → entry_at own foreign d.entries ≡ Some e → receives_on link e ≡ false) →
      HasReceiver name link d.entries r →
      HasReceiver name link (desk_taken peer busy stamp (command.Cls foreign own) d).entries r
  -- its own CLS goes out: it goes if it heard one
  pub gone :
      (name : ℕ → ℕ → ℕ) (link : ℕ) (peer : Host) (stamp own foreign : ℕ) (d : DeskState) (e : Entry) (r : Receiver) →
      entry_at own foreign d.entries ≡ Some e → receives_on link e ≡ true → has_cls e.closing ≡ true →
      HasReceiver name link d.entries r →
      MayAllReceive (received_gone e.partner_closed (name e.own e.foreign)) r ×
      HasReceiver name link (command_gone peer stamp (command.Cls own foreign) d).entries
      (all_received (received_gone e.partner_closed (name e.own e.foreign)) r)
  pub gone_elsewhere :
      (name : ℕ → ℕ → ℕ) (link : ℕ) (peer : Host) (stamp own foreign : ℕ) (d : DeskState) (e : Entry) (r : Receiver) →
      entry_at own foreign d.entries ≡ Some e → receives_on link e ≡ false → HasReceiver name link d.entries r →
      HasReceiver name link (command_gone peer stamp (command.Cls own foreign) d).entries r

-- How the end that sends on a link closes.
pub record SenderCloses : Type 0 where
  -- wherever ends that have to close are looked for, it closes if it has to and is drained, and else it doesn't
  pub settled :
      (name : ℕ → ℕ → ℕ) (link : ℕ) (busy : List ℕ) (d : DeskState) (e : Entry) (s : Sender) →
      filter (sends_on link) d.entries ≡ e ∷ [] → HasSender name link d.entries s →
      MayAllSend (sent_close (must_close busy e) (name e.own e.foreign)) s ×
      HasSender name link (desk.settled busy d).entries
      (all_sent (sent_close (must_close busy e) (name e.own e.foreign)) s)
  pub none :
      (name : ℕ → ℕ → ℕ) (link : ℕ) (busy : List ℕ) (d : DeskState) (s : Sender) →
      filter (sends_on link) d.entries ≡ [] → HasSender name link d.entries s →
      HasSender name link (desk.settled busy d).entries s
  -- its user closes it: so it is then
  pub close :
      (name : ℕ → ℕ → ℕ) (link socket : ℕ) (q : PairState) (e : Entry) (s : Sender) →
      find (is_mine_on socket) q.entries ≡ Some e → sends_on link e ≡ true → was_closed e ≡ false →
      HasSender name link q.entries s →
      MayAllSend (sent_close (must_close q.busy (called_off e)) (name e.own e.foreign)) s ×
      HasSender name link (closed_end socket q).entries
      (all_sent (sent_close (must_close q.busy (called_off e)) (name e.own e.foreign)) s)
  -- its partner's first CLS is heard: nothing more is sent, and it closes too when all that it sent is answered
  pub heard :
      (name : ℕ → ℕ → ℕ) (link : ℕ) (peer : Host) (busy : List ℕ) (stamp own foreign : ℕ) (d : DeskState) (e : Entry)
      (s : Sender) → entry_at own foreign d.entries ≡ Some e → sends_on link e ≡ true → e.partner_closed ≡ false →
      HasSender name link d.entries s →
      MayAllSend
      (senders.Hear (Cls (name e.own e.foreign)) ∷
      sent_heard e.closing (is_answered busy e.link) (name e.own e.foreign)) s ×
      HasSender name link (desk_taken peer busy stamp (command.Cls foreign own) d).entries
      (all_sent
      (senders.Hear (Cls (name e.own e.foreign)) ∷
      sent_heard e.closing (is_answered busy e.link) (name e.own e.foreign)) s)
  -- its own CLS goes out: the law had said it before
  pub gone :
      (name : ℕ → ℕ → ℕ) (link : ℕ) (peer : Host) (stamp own foreign : ℕ) (d : DeskState) (e : Entry) (s : Sender) →
      entry_at own foreign d.entries ≡ Some e → sends_on link e ≡ true → has_cls e.closing ≡ true →
      HasSender name link d.entries s →
      HasSender name link (command_gone peer stamp (command.Cls own foreign) d).entries s
  pub gone_elsewhere :
      (name : ℕ → ℕ → ℕ) (link : ℕ) (peer : Host) (stamp own foreign : ℕ) (d : DeskState) (e : Entry) (s : Sender) →
      entry_at own foreign d.entries ≡ Some e → sends_on link e ≡ false → HasSender name link d.entries s →
      HasSender name link (command_gone peer stamp (command.Cls own foreign) d).entries s
