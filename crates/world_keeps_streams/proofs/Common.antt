-- The names that several files of these proofs take from elsewhere, passed on from one place.
pub use Rattle.host_keeps_pairing.proofs.lemmas.{eqb-sym, found_same, put, ready_when}
pub use Rattle.host_keeps_pairing.specs.Ends.{HasEnd, Stand, Standing, at, came_from, end_of, is_past, standing}
pub use Rattle.host_keeps_pairing.specs.Hearing.{AreJoint, IsJoint}
pub use Rattle.host_keeps_pairing.specs.Openings.{all_lives_gone, all_lives_taken, with_openings}
pub use Rattle.host_keeps_pairing.specs.Words.{AllFit, mark_of, marks, marks_in}
pub use Rattle.host_keeps_ranges.proofs.lemmas.{offer_read, pair_range}
pub use Rattle.host_keeps_ranges.specs.Ranges.{AreCommands, IsRanged, IsReadBack}
pub use Rattle.host_keeps_streams.proofs.lemmas.{closed_first, is_there, name_of, numbered_tells}
pub use Rattle.host_keeps_streams.specs.Closings.{MayAllReceive, all_received, all_sent, received_close, received_gone, received_open}
pub use Rattle.host_keeps_streams.specs.Ends.{AreReceiver, AreSender, HasReceiver, IsReceiver, has_opened}
pub use Rattle.host_keeps_streams.specs.Formed.{HasSaid}
pub use Rattle.host_keeps_streams.specs.Histories.{Answered, AreAllowed, HasClosed, Hears, IsHistory, IsTelling, Says, Takes, ends_after, ends_now, gone_by, gone_now, name_now, numbered, receiver_now, sender_now}
pub use Rattle.host_keeps_streams.specs.Names.{IsSending}
pub use Rattle.host_pairs.proofs.lemmas.{both, not_is, what_goes}
pub use Rattle.host_pairs.specs.About.{AreAbout, IsAbout}
pub use Rattle.host_pairs.specs.Allowed.{MayGo}
pub use Rattle.host_pairs.specs.Asked.{closed_end, commanded, contact_notices, contacted, interrupt_of, passes, receiver_requested, requested, with_end, with_more_bits}
pub use Rattle.host_pairs.specs.Commands.{desk_taken}
pub use Rattle.host_pairs.specs.Control.{ERRONEOUS, Legal, Order, Wrong, error, orders_of}
pub use Rattle.host_pairs.specs.Data.{arrived, arrived_if, data_found, data_of, data_taken, is_acceptable, spent, text_faulted}
pub use Rattle.host_pairs.specs.Desk.{DeskState, command_queued, desk_of, listener_on, listens_on, settled, swept}
pub use Rattle.host_pairs.specs.Entries.{changed_first, entry_at, free_link, has_cls, is_answered, is_at, is_busy, is_called_off, is_due, is_ending, is_link, is_mine_on, is_open, is_receiving, is_sent, receives_on, receiving_end, sending_end, sends_on, was_closed}
pub use Rattle.host_pairs.specs.Pair.{PairState}
pub use Rattle.host_pairs.specs.Parcels.{Bytes, Parcel, asked_at, cls_sent, command_gone, commands_gone, link_for, next_of, pair_after, parcel_gone, text_for, with_connections}
pub use Rattle.host_pairs.specs.Turn.{TurnState, answered_turn, command_taken, failed, failed_by, freed, if_ready, is_gone, message_taken, order_taken, orders_taken, reply_notices, reset_notices, settled_turn, with_desk}
pub use Rattle.host_pairs.specs.declared.entry.Closing.{Closing}
pub use Rattle.host_pairs.specs.declared.entry.Entry.{Entry}
pub use Rattle.host_pairs.specs.declared.listener.Listener.{Listener}
pub use Rattle.host_pairs.specs.declared.notice.Notice.{Notice}
pub use Rattle.interface.proofs.lemmas.{and_none, not_false, or_false, or_nothing, same_flow-true, same_host-refl, same_host-true, waits_with}
pub use Rattle.interface.specs.Calls.{Seen}
pub use Rattle.interface.specs.Host.{Host, same_host}
pub use Rattle.interface.specs.Mailboxes.{box_of}
pub use Rattle.interface.specs.Messages.{SinceLastOut, taken_in, went_out}
pub use Rattle.interface.specs.declared.address.Flow.{Flow}
pub use Rattle.interface.specs.declared.crossing.Answer.{Answer}
pub use Rattle.interface.specs.declared.crossing.Crossing.{Crossing}
pub use Rattle.interface.specs.declared.message.HostMessage.{HostMessage}
pub use Rattle.ncp_control.specs.Command.{IsCommand}
pub use Rattle.ncp_control.specs.DataHeader.{IsHeader, data_bits, header_of}
pub use Rattle.ncp_control.specs.Numbers.{is_byte_size, is_receive_socket, is_send_socket}
pub use Rattle.ncp_control.specs.Phases.{failed_phase, is_ready, rfnm_phase}
pub use Rattle.ncp_control.specs.declared.allocation.Allocation.{Allocation}
pub use Rattle.ncp_control.specs.declared.command.Command.{Command}
pub use Rattle.ncp_control.specs.declared.data_header.DataHeader.{DataHeader}
pub use Rattle.ncp_control.specs.declared.phase.Phase.{Phase}
pub use Rattle.net_sim.proofs.lemmas.{Coupled, by_request, coupled, freed_busy, kept_fated, place_same, places_same, program_own, same_host-sym, story_agrees}
pub use Rattle.net_sim.proofs.lemmas.AllOurs.{happened}
pub use Rattle.net_sim.specs.Among.{lives_among}
pub use Rattle.net_sim.specs.Book.{Kept, all_told, changed_when, crossed, life_ended, lives_asked, lives_at, lives_between, lives_on, lives_told, new_life, where_it}
pub use Rattle.net_sim.specs.Clean.{HaveAddresses, IsLawful}
pub use Rattle.net_sim.specs.Mixed.{Happened, MayHappen, mixed_kept}
pub use Rattle.net_sim.specs.Projection.{Agrees, IsApart, event_by, message_on}
pub use Rattle.net_sim.specs.Story.{Asked, Crossed, IsNext, IsStory, Moment, event_in, events_of, places, program}
pub use Rattle.net_sim.specs.Timeline.{contacts_of, crossings_of, seen_box}
pub use Rattle.net_sim.specs.Told.{host_in, notices_by}
pub use Rattle.net_sim.specs.WorkedMoments.{bits_sent, eight_sent, sent_moments}
pub use Rattle.net_sim.specs.WorkedResets.{rst}
pub use Rattle.net_sim.specs.World.{WorldState}
pub use Rattle.net_sim.specs.declared.seat.Seat.{Seat}
pub use Rattle.pair_keeps_streams.proofs.lemmas.{Fetched, Free, IsAsking, IsPosted, Joint, Lies, NotTaken, Party, Post, Steps, all_steps, mirror, opened}
pub use Rattle.pair_keeps_streams.specs.Words.{counted, has_heard, heard_from}
pub use Rattle.pairing_law.proofs.lemmas.{Fresh, Joined, Stands, Stood, asks_once, asks_said, begins_fresh, closes_said, count, every_in, from_asks, stays_same, takes_in_stay}
pub use Rattle.pairing_law.specs.Ends.{End}
pub use Rattle.pairing_law.specs.Links.{Sockets, Who, receiver, sender}
pub use Rattle.pairing_law.specs.Marks.{Ask, Asks, Close, Mark}
pub use Rattle.pairing_law.specs.Partners.{IsIn}
pub use Rattle.pairing_law.specs.Places.{placed_event, tagged, with_box, with_place}
pub use Rattle.pairing_law.specs.Sides.{Side, hears, says}
pub use Rattle.promise.specs.Arrived.{IsCounted}
pub use Rattle.promise.specs.Fates.{IsBeside}
pub use Rattle.promise.specs.Formed.{texts_for}
pub use Rattle.promise.specs.Safe.{Match, control_flow}
pub use Rattle.promise.specs.declared.book.Called.{Called}
pub use Rattle.promise.specs.declared.life.Fate.{Fate}
pub use Rattle.reset_law.proofs.lemmas.{begins_either, carry, contradicts, ready_phase, stays_ready}
pub use Rattle.reset_law.specs.Boxes.{boxes}
pub use Rattle.reset_law.specs.Events.{Event, In, Message, Other}
pub use Rattle.reset_law.specs.Invariant.{is_signal, kind_in}
pub use Rattle.reset_law.specs.Network.{AreOurs, Network, all_ours}
pub use Rattle.reset_law.specs.Pairs.{MaySend, Pair, pair, pair_moved}
pub use Rattle.sockets.proofs.lemmas.{answer_leaves, message_leaves, next_is, next_pair, not_first, pair_changed}
pub use Rattle.sockets.specs.Accepting.{accepted, turn_of}
pub use Rattle.sockets.specs.Pairs.{NcpState, opening_state, owner_of, pair_with, with_pair}
pub use Rattle.sockets.specs.Peers.{AreInOrder}
pub use Rattle.sockets.specs.Requests.{refusal, served}
pub use Rattle.sockets.specs.Sending.{next_in, offered}
pub use Rattle.sockets.specs.Worked.{first, second}
pub use Rattle.sockets.specs.declared.peer.Peer.{Peer}
pub use Rattle.sockets.specs.declared.request.Request.{Request}
pub use Rattle.std.proofs.Common.{Bool, IsTrue, List, None, Option, Some, [], ap, arith, cond, drop, eq-eqb, false, filter, find, if◌then◌else◌, inl, inr, is_some, length, map, nat_le, not, refl, slice_index_or, subst, suc, sym, take, true, zero, ℕ, ◌&&◌, ◌*◌, ◌++◌, ◌+◌, ◌<◌, ◌==◌, ◌||◌, ◌∙◌, ◌∷◌, ◌≡◌, ◌≤◌, ◌⊎◌}
pub use Rattle.std.proofs.lemmas.Bool.{eqb-true}
pub use Rattle.std.proofs.lemmas.List.{append_assoc, length-append, map-append}
pub use Rattle.std.proofs.lemmas.List.Elements.{filter-append}
pub use Rattle.std.proofs.lemmas.Option.{same_Some}
pub use Rattle.std.specs.List.{Contains, flat_map, list_any}
pub use Rattle.std.specs.Prelude.{option_map}
pub use Rattle.stream_law.proofs.lemmas.{Inv, came_inv, for_here, safe_inv, some_is, waiting_of, waits_of}
pub use Rattle.stream_law.specs.Streams.{Stream, opening_stream}
pub use Rattle.stream_law.specs.Within.{IsSafe, message_bits, waiting_in}
pub use Rattle.stream_law.specs.Words.{covers, for, holds}
pub use Rattle.world_keeps_lives.proofs.lemmas.{clash, each_in, map_two, none_some, none_there, open_parts, owner_found, prefix_more}
pub use Rattle.world_keeps_lives.proofs.lemmas.AllOurs.{among_all}
pub use Rattle.world_keeps_lives.proofs.lemmas.Books.{linked_end}
pub use Rattle.world_keeps_lives.proofs.lemmas.Formed.{end_link}
pub use Rattle.world_keeps_lives.specs.Firsts.{IsSentIn}
pub use Rattle.world_keeps_lives.specs.Lives.{AreRefusing, HasOpenEnd, mine_on}
pub use Rattle.world_keeps_lives.specs.WorkedFormed.{gave}
pub use Rattle.world_keeps_pairing.proofs.lemmas.{AText, AnRrp, AnRst, Sort, book_lives, in_book, mail_below, message_pair, odd_send, other_sends, plain_joint, programs_ranged, send_odd, served_in, sort_of, waiting}
pub use Rattle.world_keeps_pairing.specs.Free.{TakesFreeAt, law_events, origin_in, origin_or, place_or}
pub use Rattle.world_keeps_pairing.specs.Lives.{ArePaired, life_of, openings}
pub use Rattle.world_keeps_pairing.specs.Steps.{keeps, steps}
pub use Rattle.world_keeps_streams.specs.Calls.{answer_calls, calls_by, message_calls, next_calls, numbered_by_peer, own_calls, parcel_calls, request_calls}
pub use Rattle.world_keeps_streams.specs.Closes.{IsClosedByPartner, WasClosedByPartner}
pub use Rattle.world_keeps_streams.specs.Rests.{NoneOut}
pub use Rattle.world_keeps_streams.specs.Within.{CountNothingLater, CountsBefore}
