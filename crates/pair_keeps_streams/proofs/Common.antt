-- The names that several files of these proofs take from elsewhere, passed on from one place.
pub use Rattle.host_keeps_streams.proofs.lemmas.{Holds, IsAhead, apart_changed, find_passes, first_is, is_there, leaving_shut, name_of, numbers_mapped, odd_is, own_name, own_parity, own_receiver, shut_one, stays, unlike}
pub use Rattle.host_keeps_streams.specs.Closings.{MayAllReceive, MayAllSend, all_received, all_sent, received_close, received_gone, received_open, sent_open}
pub use Rattle.host_keeps_streams.specs.Ends.{AreReceiver, IsSender, has_opened}
pub use Rattle.host_keeps_streams.specs.Formed.{FindsFree, HasSaid}
pub use Rattle.host_keeps_streams.specs.Histories.{Answered, AsksBack, Call, Closes, Gives, Grants, Hears, IsAllowed, IsTelling, KeepBox, OpensReceiver, OpensSender, Says, Takes, ends_by, gone_by, is_out, received_at, sent_at}
pub use Rattle.host_keeps_streams.specs.Moves.{answers_str, asked_received, asked_sent, asks_for, closed_received, closes, closes_on, cls_received, data_received, hears_rts, of_end, on_link, received_out, rts_sent, sent_out, str_received}
pub use Rattle.host_keeps_streams.specs.Names.{AreApart, is_among, named, numbers}
pub use Rattle.host_pairs.proofs.lemmas.{both}
pub use Rattle.host_pairs.specs.Asked.{receiver_requested, requested, with_end}
pub use Rattle.host_pairs.specs.Commands.{Ending, Found, Open, Unconnected, all_taken, at_end, cls_taken_by, desk_taken, given_back, granted, gvb_taken, interrupted, receiver_on, ret_taken, rts_heard, rts_taken, rts_taken_by, sender_on, str_heard, str_linked, str_taken_by}
pub use Rattle.host_pairs.specs.Data.{arrived_if, data_found, data_of, data_taken, data_text, is_acceptable}
pub use Rattle.host_pairs.specs.Desk.{DeskState, desk_of, listener_on, settled}
pub use Rattle.host_pairs.specs.Entries.{called_off, changed_at, changed_first, closed_by_partner, cls_of, entry_at, free_link, has_cls, is_at, is_busy, is_due, is_link, is_mine_on, is_open, is_receiving, must_close, receives_on, receiving_end, refused_end, sending_end, sends_on}
pub use Rattle.host_pairs.specs.Pair.{PairState}
pub use Rattle.host_pairs.specs.Parcels.{Bytes, command_gone, link_of, next_of}
pub use Rattle.host_pairs.specs.Turn.{freed}
pub use Rattle.host_pairs.specs.declared.entry.Closing.{Closing}
pub use Rattle.host_pairs.specs.declared.entry.Entry.{Entry}
pub use Rattle.host_pairs.specs.declared.listener.Listener.{Listener}
pub use Rattle.interface.specs.Host.{Host}
pub use Rattle.ncp_control.specs.Command.{IsCommand}
pub use Rattle.ncp_control.specs.DataHeader.{IsHeader, data_bits, header_of}
pub use Rattle.ncp_control.specs.Numbers.{is_receive_socket}
pub use Rattle.ncp_control.specs.declared.command.Command.{Command}
pub use Rattle.ncp_control.specs.declared.data_header.DataHeader.{DataHeader}
pub use Rattle.pair_keeps_streams.specs.Words.{closings_in, counted, has_heard, has_said, heard_from, heard_of, one, plain, received_words, receiver_word, receiver_words, said_of, sender_word, sender_words, sent_words, with_closing}
pub use Rattle.std.proofs.Common.{Bool, List, None, Option, Some, [], ap, append-nil, arith, drop, eq-eqb, false, filter, find, if◌then◌else◌, inl, inr, is_some, length, map, nat_le, not, refl, subst, suc, sym, take, true, ℕ, ◌&&◌, ◌*◌, ◌++◌, ◌<◌, ◌==◌, ◌∙◌, ◌∷◌, ◌≡◌, ◌⊎◌}
pub use Rattle.std.proofs.lemmas.Bool.{eqb-true, ne_eqb}
pub use Rattle.std.proofs.lemmas.List.{append_assoc}
pub use Rattle.std.specs.List.{list_any}
pub use Rattle.stream_law.proofs.lemmas.{Exact, Inv, kept, link_free, some_is}
pub use Rattle.stream_law.specs.Receivers.{Receiver}
pub use Rattle.stream_law.specs.Senders.{Sender}
pub use Rattle.stream_law.specs.Streams.{Box, Empty, Receives, Stream, Taken, Waiting, happens}
pub use Rattle.stream_law.specs.Words.{All, Cls, Gvb, Ret, Rts, Str, Word, covers, for, holds, is_size}
