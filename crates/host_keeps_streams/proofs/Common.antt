-- The names that several files of these proofs take from elsewhere, passed on from one place.
pub use Rattle.host_keeps_streams.specs.Closings.{MayAllReceive, MayAllSend, all_received, all_sent, received_close, received_gone, received_open, sent_open}
pub use Rattle.host_keeps_streams.specs.Ends.{AreReceiver, AreSender, HasReceiver, HasSender, IsLeaving, IsReceiver, IsSender, NoneOpen, has_opened}
pub use Rattle.host_keeps_streams.specs.Formed.{AreFormed, AreSound, IsFormed}
pub use Rattle.host_keeps_streams.specs.Histories.{Answered, AsksBack, Call, Closes, Grants, Hears, IsAllowed, KeepBox, Moment, OpensReceiver, OpensSender, Says, Sends, Takes, ends_by, is_out, received_at, receiver_now, sent_at}
pub use Rattle.host_keeps_streams.specs.Moves.{answers_str, asked_received, asked_sent, asks_for, bytes_sent, closed_received, closes, closes_on, cls_received, data_received, hears_rts, of_end, on_link, received_by, received_out, rts_sent, sent_by, sent_out, str_received, told_on}
pub use Rattle.host_keeps_streams.specs.Names.{AreApart, AreKnown, IsKnown, IsNewReceived, IsNewSent, IsSending, NewNumber, NewReceived, NewSent, is_among, named, numbers}
pub use Rattle.host_keeps_streams.specs.Said.{LeavesReceiver, LeavesSender}
pub use Rattle.host_pairs.proofs.lemmas.{both, not_is, what_goes}
pub use Rattle.host_pairs.specs.Allowed.{MaySend}
pub use Rattle.host_pairs.specs.Asked.{closed_end, passes, receiver_requested, requested, with_end, with_more_bits}
pub use Rattle.host_pairs.specs.Commands.{Ending, Found, Open, Unconnected, all_taken, asked_on_link, asked_with_size, at_end, cls_taken_by, desk_taken, found_in, given_back, granted, gvb_taken, interrupted, receiver_on, ret_taken, returned, rts_heard, rts_taken, rts_taken_by, sender_on, str_heard, str_linked, str_taken, str_taken_by}
pub use Rattle.host_pairs.specs.Data.{arrived_if, data_found, data_of, data_taken, is_acceptable, spent}
pub use Rattle.host_pairs.specs.Desk.{DeskState, desk_of, listener_on}
pub use Rattle.host_pairs.specs.Entries.{called_off, changed_first, close_due, closed_by_partner, closed_when, connection_links, entry_at, free_link, has_cls, is_answered, is_at, is_busy, is_called_off, is_drained, is_due, is_link, is_mine_on, is_open, is_over, is_receiving, is_sent, must_close, receives_on, receiving_end, refused_end, sending_end, sends_on, was_closed}
pub use Rattle.host_pairs.specs.Pair.{PairState}
pub use Rattle.host_pairs.specs.Parcels.{Bytes, asked_at, bits_gone, command_gone, link_of, may_send, may_send_on, next_of, parcel_gone}
pub use Rattle.host_pairs.specs.Turn.{freed}
pub use Rattle.host_pairs.specs.declared.entry.Closing.{Closing}
pub use Rattle.host_pairs.specs.declared.entry.Entry.{Entry}
pub use Rattle.host_pairs.specs.declared.listener.Listener.{Listener}
pub use Rattle.interface.proofs.lemmas.{or_false}
pub use Rattle.interface.specs.Host.{Host}
pub use Rattle.ncp_control.specs.Command.{IsCommand}
pub use Rattle.ncp_control.specs.DataHeader.{data_bits, header_of}
pub use Rattle.ncp_control.specs.Numbers.{is_receive_socket}
pub use Rattle.ncp_control.specs.declared.allocation.Allocation.{Allocation}
pub use Rattle.ncp_control.specs.declared.command.Command.{Command}
pub use Rattle.ncp_control.specs.declared.data_header.DataHeader.{DataHeader}
pub use Rattle.std.proofs.Common.{Bool, List, None, Option, Some, [], ap, append-nil, arith, false, filter, find, if◌then◌else◌, inl, inr, is_some, length, map, nat_le, nat_lt, not, refl, subst, sym, take, true, ℕ, ◌&&◌, ◌*◌, ◌++◌, ◌+◌, ◌==◌, ◌||◌, ◌∙◌, ◌∷◌, ◌≡◌, ◌≤◌, ◌⊎◌}
pub use Rattle.std.proofs.lemmas.Bool.{eqb-true, ne_eqb, or_parts}
pub use Rattle.std.proofs.lemmas.List.{length-take-le}
pub use Rattle.std.proofs.lemmas.List.Elements.{filter-append}
pub use Rattle.std.specs.List.{list_any}
pub use Rattle.stream_law.proofs.lemmas.{at, for_here}
pub use Rattle.stream_law.specs.Receivers.{Receiver}
pub use Rattle.stream_law.specs.Senders.{Sender}
pub use Rattle.stream_law.specs.Words.{covers, for, holds}
