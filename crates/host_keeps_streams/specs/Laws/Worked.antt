-- Worked rows of src/law.rt and src/calls.rt.
use Rattle.std.specs.Prelude.{◌∷◌, ◌≡◌, [], false, None, Some, true}
use Rattle.ncp_control.specs.declared.command.Command.TheVariants as command
use Rattle.host_pairs.specs.Commands.{asked_on_link, asked_with_size}
use Rattle.host_pairs.specs.Entries.{receiving_end, refused_end, sending_end}
use Rattle.host_pairs.specs.Parcels.{asked_at}
use Rattle.host_pairs.specs.declared.entry.Closing.TheVariants as closing
use Rattle.host_pairs.specs.declared.notice.Notice.TheVariants as notice
use Rattle.stream_law.specs.Receivers as receivers
use Rattle.stream_law.specs.Senders as senders
use Rattle.stream_law.specs.Words.{All, Cls, Ret, Rts, Str}
use Rattle.host_keeps_streams.specs.Closings.{all_received, all_sent, MayAllReceive, MayAllSend, received_close}
use Rattle.host_keeps_streams.specs.Closings.{received_gone, received_open, sent_heard, sent_open}
use Rattle.host_keeps_streams.specs.Formed.{FindsFree, HasSaid}
use Rattle.host_keeps_streams.specs.Moves.{asks_for, bytes_sent, closes, data_received, desk, on_link, received_by}
use Rattle.host_keeps_streams.specs.Moves.{received_out, sent_by, sent_out, told_on}
use Rattle.host_keeps_streams.specs.Said.{arrivals, LeavesReceiver, LeavesSender, returned_in, returned_on}

-- Notices and what is said.
pub record WorkedSaid : Type 0 where
  -- the messages in their order, and nothing else
  pub arrivals :
      arrivals (notice.Arrived 16 (true ∷ []) ∷ notice.Returned 16 1 2 ∷ notice.Sent 33 (false ∷ []) ∷
      notice.Arrived 16 [] ∷ []) ≡ (true ∷ []) ∷ [] ∷ []
  -- what is returned on this link
  pub returned :
      returned_on 5 (command.Ret 5 1 2 ∷ command.Ret 7 3 4 ∷ command.All 5 1 1 ∷ command.Ret 5 0 6 ∷ [])
      ≡ (1, 2) ∷ (0, 6) ∷ []
  pub meant :
      (returned_in (Some (Ret 3 1 2)) ≡ (1, 2) ∷ []) × (returned_in (Some (All 3 1 2)) ≡ []) × (returned_in None ≡ [])
  -- a return on the link is a receiver's matter, and no sender's; a grant and what is asked back are a sender's
  pub receivers :
      (LeavesReceiver 5 (command.Ret 5 1 1) → ⊥) × LeavesReceiver 5 (command.Ret 7 1 1) ×
      LeavesReceiver 5 (command.All 5 1 1) × LeavesReceiver 5 (command.Gvb 5 1 1)
  pub senders :
      (LeavesSender 5 (command.All 5 1 1) → ⊥) × (LeavesSender 5 (command.Gvb 5 1 1) → ⊥) ×
      LeavesSender 5 (command.All 7 1 1) × LeavesSender 5 (command.Ret 5 1 1)
  -- requests and CLS are anybody's
  pub requests :
      (LeavesReceiver 5 (command.Str 33 16 8) → ⊥) × (LeavesReceiver 5 (command.Cls 33 16) → ⊥) ×
      (LeavesSender 5 (command.Rts 16 33 7) → ⊥) × (LeavesSender 5 (command.Cls 16 33) → ⊥)

-- What ends do of themselves where they close.
pub record WorkedClosings : Type 0 where
  -- a receiving end answers a CLS by its own, or by nothing where that is queued, and is gone where it has gone out
  pub heard :
      (received_close closing.No 3 ≡ receivers.Close 3 ∷ []) × (received_close closing.Queued 3 ≡ []) ×
      (received_close closing.Sent 3 ≡ receivers.Free 3 ∷ [])
  -- and an end that has one of its two requests opens with the other
  pub opens :
      (received_open true 3 ≡ receivers.Open 3 ∷ []) × (received_open false 3 ≡ []) ×
      (sent_open true 3 ≡ senders.Open 3 ∷ []) × (sent_open false 3 ≡ [])
  pub gone : (received_gone true 3 ≡ receivers.Free 3 ∷ []) × (received_gone false 3 ≡ [])
  -- a sending end answers when it is drained, once
  pub drained :
      (sent_heard closing.No true 3 ≡ senders.Close 3 ∷ []) × (sent_heard closing.Due true 3 ≡ senders.Close 3 ∷ []) ×
      (sent_heard closing.No false 3 ≡ []) × (sent_heard closing.Due false 3 ≡ [])
  pub once : (sent_heard closing.Queued true 3 ≡ []) × (sent_heard closing.Sent true 3 ≡ [])
  -- the first move comes first, and each may be made where those before have been
  pub order : (all_received (receivers.Ask 1 ∷ receivers.Close 1 ∷ []) receivers.opening_receiver).closed ≡ true
  pub back : (all_received (receivers.Close 1 ∷ receivers.Ask 1 ∷ []) receivers.opening_receiver).closed ≡ false
  pub may : MayAllReceive (receivers.Ask 1 ∷ receivers.Close 1 ∷ []) receivers.opening_receiver
  pub twice :
      MayAllReceive (receivers.Ask 1 ∷ receivers.Close 1 ∷ receivers.Close 1 ∷ []) receivers.opening_receiver → ⊥
  pub sent : (all_sent (senders.Ask 1 8 ∷ senders.Close 1 ∷ []) senders.opening_sender).closed 1 ≡ true
  pub sent_twice : MayAllSend (senders.Close 1 ∷ senders.Close 1 ∷ []) senders.opening_sender → ⊥

-- What commands are on a link.
pub record WorkedCommands : Type 0 where
  -- an STR says the byte size on each link, and the end opens on its own, where its RTS has gone out
  pub str :
      received_by (λ own foreign. own) 5 0 (command.Str 33 16 8) (desk (asked_at 6 (receiving_end 16 33 5) ∷ []) [])
      ≡ receivers.Hear (Str 16 8) ∷ receivers.Open 16 ∷ []
  pub str_before :
      received_by (λ own foreign. own) 5 0 (command.Str 33 16 8) (desk (receiving_end 16 33 5 ∷ []) [])
      ≡ receivers.Hear (Str 16 8) ∷ []
  pub str_elsewhere :
      received_by (λ own foreign. own) 7 0 (command.Str 33 16 8) (desk (asked_at 6 (receiving_end 16 33 5) ∷ []) [])
      ≡ receivers.Hear (Str 16 8) ∷ []
  pub str_again :
      received_by (λ own foreign. own) 5 0 (command.Str 33 16 8)
      (desk (asked_with_size 7 8 (receiving_end 16 33 5) ∷ []) []) ≡ []
  -- a socket that listens asks on the lowest free link, 2 or 3; one that nobody waits for is heard and refused
  pub answered :
      received_by (λ own foreign. own) 2 0 (command.Str 33 16 8) (desk [] (record { socket = 16; size = 8 } ∷ []))
      ≡ receivers.Hear (Str 16 8) ∷ receivers.Ask 16 ∷ []
  pub answered_elsewhere :
      received_by (λ own foreign. own) 2 0 (command.Str 33 16 8)
      (desk (receiving_end 18 35 2 ∷ []) (record { socket = 16; size = 8 } ∷ [])) ≡ receivers.Hear (Str 16 8) ∷ []
  pub answered_there :
      received_by (λ own foreign. own) 3 0 (command.Str 33 16 8)
      (desk (receiving_end 18 35 2 ∷ []) (record { socket = 16; size = 8 } ∷ []))
      ≡ receivers.Hear (Str 16 8) ∷ receivers.Ask 16 ∷ []
  pub str_refused :
      received_by (λ own foreign. own) 2 0 (command.Str 33 16 8) (desk [] (record { socket = 18; size = 8 } ∷ []))
      ≡ receivers.Hear (Str 16 8) ∷ []
  -- a CLS is heard on each link, once, and its end closes on its own; that of a sending end is no receiver's
  pub cls :
      received_by (λ own foreign. own) 5 0 (command.Cls 33 16) (desk (receiving_end 16 33 5 ∷ []) [])
      ≡ receivers.Hear (Cls 16) ∷ receivers.Close 16 ∷ []
  pub cls_elsewhere :
      received_by (λ own foreign. own) 7 0 (command.Cls 33 16) (desk (receiving_end 16 33 5 ∷ []) [])
      ≡ receivers.Hear (Cls 16) ∷ []
  pub cls_again :
      received_by (λ own foreign. own) 5 0 (command.Cls 33 16)
      (desk (record (receiving_end 16 33 5) { closing = closing.Queued; partner_closed = true } ∷ []) []) ≡ []
  pub cls_sender :
      received_by (λ own foreign. own) 5 0 (command.Cls 16 33) (desk (asked_on_link 7 5 (sending_end 33 16 8) ∷ []) [])
      ≡ []
  pub ret :
      (received_by (λ own foreign. own) 5 9 (command.Ret 5 1 2) (desk [] []) ≡ receivers.Hear (Ret 9 1 2) ∷ []) ×
      (received_by (λ own foreign. own) 7 9 (command.Ret 5 1 2) (desk [] []) ≡ [])
  -- an RTS is heard on the link that it names; its end opens if its STR has gone out
  pub rts :
      sent_by (λ own foreign. own) 5 0 [] (command.Rts 16 33 5) (desk (asked_at 6 (sending_end 33 16 8) ∷ []) [])
      senders.opening_sender ≡ senders.Hear (Rts 33) ∷ senders.Open 33 ∷ []
  pub rts_before :
      sent_by (λ own foreign. own) 5 0 [] (command.Rts 16 33 5) (desk (sending_end 33 16 8 ∷ []) [])
      senders.opening_sender ≡ senders.Hear (Rts 33) ∷ []
  pub rts_elsewhere :
      sent_by (λ own foreign. own) 7 0 [] (command.Rts 16 33 5) (desk (asked_at 6 (sending_end 33 16 8) ∷ []) [])
      senders.opening_sender ≡ []
  pub rts_used :
      sent_by (λ own foreign. own) 5 0 [] (command.Rts 16 33 5)
      (desk (sending_end 33 16 8 ∷ asked_on_link 7 5 (sending_end 35 18 8) ∷ []) []) senders.opening_sender ≡ []
  -- a socket that listens says its byte size on each link. A request that is refused is closed on each
  pub listens :
      sent_by (λ own foreign. own) 5 0 [] (command.Rts 16 33 5) (desk [] (record { socket = 33; size = 8 } ∷ []))
      senders.opening_sender ≡ senders.Ask 33 8 ∷ senders.Hear (Rts 33) ∷ []
  pub listens_elsewhere :
      sent_by (λ own foreign. own) 7 0 [] (command.Rts 16 33 5) (desk [] (record { socket = 33; size = 8 } ∷ []))
      senders.opening_sender ≡ senders.Ask 33 8 ∷ []
  pub rts_refused :
      sent_by (λ own foreign. own) 5 0 [] (command.Rts 16 33 5) (desk [] []) senders.opening_sender
      ≡ senders.Hear (Rts 33) ∷ senders.Close 33 ∷ []
  pub refused_elsewhere :
      sent_by (λ own foreign. own) 7 0 [] (command.Rts 16 33 5) (desk [] []) senders.opening_sender
      ≡ senders.Close 33 ∷ []
  -- a CLS is heard where the law's end is of its connection, and the end closes on each link when all that it sent is
  -- answered
  pub heard :
      sent_by (λ own foreign. own) 5 0 [] (command.Cls 16 33) (desk (asked_on_link 7 5 (sending_end 33 16 8) ∷ []) [])
      (record senders.opening_sender { end = Some 33 }) ≡ senders.Hear (Cls 33) ∷ senders.Close 33 ∷ []
  pub heard_elsewhere :
      sent_by (λ own foreign. own) 7 0 [] (command.Cls 16 33) (desk (asked_on_link 7 5 (sending_end 33 16 8) ∷ []) [])
      senders.opening_sender ≡ senders.Close 33 ∷ []
  pub heard_other :
      sent_by (λ own foreign. own) 7 0 [] (command.Cls 16 33) (desk (asked_on_link 7 5 (sending_end 33 16 8) ∷ []) [])
      (record senders.opening_sender { end = Some 35 }) ≡ senders.Close 33 ∷ []
  pub outstanding :
      sent_by (λ own foreign. own) 5 0 (5 ∷ []) (command.Cls 16 33)
      (desk (asked_on_link 7 5 (sending_end 33 16 8) ∷ []) []) (record senders.opening_sender { end = Some 33 })
      ≡ senders.Hear (Cls 33) ∷ []
  pub heard_again :
      sent_by (λ own foreign. own) 5 0 [] (command.Cls 16 33)
      (desk (record (asked_on_link 7 5 (sending_end 33 16 8)) { partner_closed = true; closing = closing.Queued } ∷ [])
      []) (record senders.opening_sender { end = Some 33 }) ≡ []
  -- that for an end which was refused frees the law's
  pub freed :
      sent_by (λ own foreign. own) 5 0 [] (command.Cls 16 33) (desk (refused_end 33 16 9 ∷ []) [])
      (record senders.opening_sender { end = Some 33 }) ≡ senders.Hear (Cls 33) ∷ []
  -- a grant is heard on its link
  pub grant :
      (sent_by (λ own foreign. own) 5 9 [] (command.All 5 1 2) (desk [] []) senders.opening_sender
      ≡ senders.Hear (All 9 1 2) ∷ []) ×
      (sent_by (λ own foreign. own) 7 9 [] (command.Gvb 5 1 2) (desk [] []) senders.opening_sender ≡ [])
  -- an RTS on a link that the program has free, and the law hasn't, is what may not come
  pub free : FindsFree 5 (command.Rts 16 33 5) [] (record senders.opening_sender { end = Some 35 }) → ⊥
  pub free_elsewhere : FindsFree 7 (command.Rts 16 33 5) [] (record senders.opening_sender { end = Some 35 })

-- What else the calls are on a link.
pub record WorkedMoves : Type 0 where
  -- data are taken on their link
  pub «data» :
      (data_received 5 5 (true ∷ []) (Some (record { size = 1; count = 0 })) ≡ receivers.Take 1 [] ∷ []) ×
      (data_received 7 5 (true ∷ []) (Some (record { size = 1; count = 0 })) ≡ []) ×
      (data_received 5 5 (true ∷ []) None ≡ [])
  -- an end whose request goes out opens if it had its partner's
  pub rts :
      received_out (λ own foreign. own) 5 (command.Rts 16 33 5) (asked_with_size 7 8 (receiving_end 16 33 5) ∷ [])
      ≡ receivers.Open 16 ∷ []
  pub rts_first : received_out (λ own foreign. own) 5 (command.Rts 16 33 5) (receiving_end 16 33 5 ∷ []) ≡ []
  pub rts_elsewhere :
      received_out (λ own foreign. own) 7 (command.Rts 16 33 5) (asked_with_size 7 8 (receiving_end 16 33 5) ∷ []) ≡ []
  pub str :
      sent_out (λ own foreign. own) 5 (command.Str 33 16 8) (asked_on_link 7 5 (sending_end 33 16 8) ∷ [])
      (record senders.opening_sender { end = Some 33 }) ≡ senders.Open 33 ∷ []
  pub str_first :
      sent_out (λ own foreign. own) 5 (command.Str 33 16 8) (sending_end 33 16 8 ∷ []) senders.opening_sender ≡ []
  pub str_gone :
      sent_out (λ own foreign. own) 5 (command.Str 33 16 8) (asked_on_link 7 5 (sending_end 33 16 8) ∷ [])
      (record senders.opening_sender { end = None }) ≡ []
  -- a receiving end whose CLS goes out is free if it heard one; a sender said its CLS before
  pub cls :
      received_out (λ own foreign. own) 5 (command.Cls 16 33)
      (record (receiving_end 16 33 5) { closing = closing.Queued; partner_closed = true } ∷ []) ≡ receivers.Free 16 ∷ []
  pub cls_first :
      received_out (λ own foreign. own) 5 (command.Cls 16 33)
      (record (receiving_end 16 33 5) { closing = closing.Queued } ∷ []) ≡ []
  pub cls_sender :
      sent_out (λ own foreign. own) 5 (command.Cls 33 16)
      (record (asked_on_link 7 5 (sending_end 33 16 8)) { closing = closing.Queued } ∷ [])
      (record senders.opening_sender { end = Some 33 }) ≡ []
  pub unsaid : HasSaid (command.Cls 16 33) (receiving_end 16 33 5 ∷ []) → ⊥
  -- this many bytes of an end go out on its link
  pub bytes :
      bytes_sent (λ own foreign. own) 5
      (record (asked_on_link 7 5 (sending_end 33 16 1)) { bits = true ∷ false ∷ true ∷ [] }) 1 2
      ≡ senders.Send 33 1 (true ∷ false ∷ []) ∷ []
  pub bytes_elsewhere :
      bytes_sent (λ own foreign. own) 7
      (record (asked_on_link 7 5 (sending_end 33 16 1)) { bits = true ∷ false ∷ true ∷ [] }) 1 2 ≡ []
  -- a receiving end asks on its link, and on no other
  pub asks :
      (asks_for 5 16 (Some 5) ≡ receivers.Ask 16 ∷ []) × (asks_for 7 16 (Some 5) ≡ []) × (asks_for 5 16 None ≡ [])
  pub grants :
      (on_link 5 (receiving_end 16 33 5) (receivers.Grant 16 1 2 ∷ []) ≡ receivers.Grant 16 1 2 ∷ []) ×
      (on_link 7 (receiving_end 16 33 5) (receivers.Grant 16 1 2 ∷ []) ≡ [])
  -- all sending ends close that are due and have no answer to wait for
  pub closes :
      closes (λ own foreign. own) (7 ∷ [])
      (record (asked_on_link 7 5 (sending_end 33 16 8)) { closing = closing.Due } ∷
      record (asked_on_link 7 7 (sending_end 35 18 8)) { closing = closing.Due } ∷
      record (sending_end 37 20 8) { closing = closing.Due } ∷ sending_end 39 22 8 ∷
      record (receiving_end 16 33 5) { closing = closing.Due } ∷ []) ≡ senders.Close 33 ∷ senders.Close 37 ∷ []
  pub told : (told_on 5 5 ≡ senders.Told ∷ []) × (told_on 7 5 ≡ [])
