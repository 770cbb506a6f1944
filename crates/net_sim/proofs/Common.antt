-- The names that several files of these proofs take from elsewhere, passed on from one place.
pub use Rattle.bit_messages.specs.Octets.{bits_of, octets_of}
pub use Rattle.host_pairs.proofs.lemmas.{one_found}
pub use Rattle.host_pairs.specs.Asked.{closed_end, commanded, receiver_requested, requested}
pub use Rattle.host_pairs.specs.Commands.{desk_taken}
pub use Rattle.host_pairs.specs.Control.{Legal, Order, Wrong, error, orders_of}
pub use Rattle.host_pairs.specs.Data.{data_taken}
pub use Rattle.host_pairs.specs.Desk.{DeskState, command_queued, desk_of, listens_on, settled}
pub use Rattle.host_pairs.specs.Entries.{changed_first, free_link, is_at, is_busy, is_mine_on, is_open, is_receiving, receiving_end, sending_end}
pub use Rattle.host_pairs.specs.Pair.{PairState}
pub use Rattle.host_pairs.specs.Parcels.{Parcel, next_of, pair_after, parcel_gone}
pub use Rattle.host_pairs.specs.Turn.{TurnState, answered_turn, command_taken, if_ready, message_taken, order_taken, orders_taken}
pub use Rattle.host_pairs.specs.declared.entry.Entry.{Entry}
pub use Rattle.host_pairs.specs.declared.listener.Listener.{Listener}
pub use Rattle.host_pairs.specs.declared.notice.Notice.{Notice}
pub use Rattle.host_services.specs.Named.{MayAsk, NamePeers, NoneRefused}
pub use Rattle.host_services.specs.Services.{ServiceDeskState, ServicesState, no_services, opening_desk}
pub use Rattle.host_services.specs.Turns.{server_begun, user_begun}
pub use Rattle.host_services.specs.TypedLines.{line_bits}
pub use Rattle.host_services.specs.declared.report.Reported.{Reported}
pub use Rattle.icp.specs.declared.fault.StartFault.{StartFault}
pub use Rattle.interface.proofs.lemmas.{and_true, both_ways, or_false, run_below, safe_messages, same_flow-true, same_host-refl}
pub use Rattle.interface.specs.Calls.{Calls, InOrder, Seen, ShowsCrossings, ShowsOffer, ShowsRefusal, ShowsTake, crossing_of, halted, is_halt, is_memory, step_crossings, up_at}
pub use Rattle.interface.specs.Host.{Host, IsAddress, is_host, same_host}
pub use Rattle.interface.specs.Mailboxes.{same_flow}
pub use Rattle.interface.specs.Messages.{SafeMessages}
pub use Rattle.interface.specs.Rest.{RefusesOffer, RestsBeside}
pub use Rattle.interface.specs.declared.address.Flow.{Flow}
pub use Rattle.interface.specs.declared.carrier.CarrierFault.{CarrierFault}
pub use Rattle.interface.specs.declared.crossing.Answer.{Answer}
pub use Rattle.interface.specs.declared.crossing.Crossing.{Crossing}
pub use Rattle.interface.specs.declared.crossing.Inbound.{Inbound}
pub use Rattle.interface.specs.declared.event.NetEvent.{NetEvent}
pub use Rattle.interface.specs.declared.message.HostMessage.{HostMessage}
pub use Rattle.ncp_control.specs.Command.{spelling}
pub use Rattle.ncp_control.specs.DataHeader.{header_of}
pub use Rattle.ncp_control.specs.Numbers.{is_byte_size, is_receive_socket, is_send_socket}
pub use Rattle.ncp_control.specs.Packing.{packed_count}
pub use Rattle.ncp_control.specs.Phases.{is_ready}
pub use Rattle.ncp_control.specs.declared.command.Command.{Command}
pub use Rattle.ncp_control.specs.declared.data_header.DataHeader.{DataHeader}
pub use Rattle.net_sim.specs.Audit.{IsStamped, IsWellFormed, Says}
pub use Rattle.net_sim.specs.Book.{Kept, all_asked, all_crossed, all_reported, all_told, asked, book_told, carried, changed_when, contacts_asked, crossed, fates_where, handed_to, life_ended, lives_asked, lives_at, lives_between, lives_crossed, lives_on, lives_told, lives_with, new_life, returned, where_it}
pub use Rattle.net_sim.specs.Carriers.{AreOfOneEvent, AreStops, shown}
pub use Rattle.net_sim.specs.Clean.{HaveAddresses, IsFresh, IsLawful, IsText, IsUnheard, is_through}
pub use Rattle.net_sim.specs.Findings.{AreAtPeace, AreFed, AreStamped, AreUnmatched, HaveGranted, Shows}
pub use Rattle.net_sim.specs.Inside.Audit.{FoundTwo, grants_hold, has_granted, is_asked, is_match, is_partner, is_place, is_prefix, is_source, is_stamped, is_unmatched, is_well_formed, may_both, messages_hold, partners_hold, same_asked, same_bit, same_own, some_fed, streams_hold}
pub use Rattle.net_sim.specs.Inside.Counts.{AreWithin, IsWithin}
pub use Rattle.net_sim.specs.Inside.Endings.{ends, turns}
pub use Rattle.net_sim.specs.Inside.Growing.{grown}
pub use Rattle.net_sim.specs.Inside.Lives.{LivesState, entered, told_at}
pub use Rattle.net_sim.specs.Inside.Open.{AreKept, AreMarked, Covers, Holds, marked}
pub use Rattle.net_sim.specs.Inside.Parts.{AreDone, AreLive, IsOnce, Serves, Sits, hosts_of, hosts_served, running, runs_out, world_ended}
pub use Rattle.net_sim.specs.Inside.Places.{changed_here, is_open_at}
pub use Rattle.net_sim.specs.Inside.Seats.{emptied_in_order, turned_in_order}
pub use Rattle.net_sim.specs.Inside.Undo.{GoesBack, IsEndNoted, IsNoted, Undo, all_undone, life_back, reopened, undone}
pub use Rattle.net_sim.specs.Projection.{Agrees, AllPlain, ArePlain, IsApart, IsPlain, IsQueued, event_by, event_of, has_asked, has_control, is_alone, is_rrp, is_rst, message_on, names_control, on_control}
pub use Rattle.net_sim.specs.Reports.{IsBacked, IsRunning, ServerIsDone, UserIsDone, told_to}
pub use Rattle.net_sim.specs.SmallLogs.{given_log, moved, taken_log}
pub use Rattle.net_sim.specs.Steps.{RunGives, Runs, StepGives}
pub use Rattle.net_sim.specs.Story.{Asked, Crossed, IsStory, Moment, events_of, places, program}
pub use Rattle.net_sim.specs.Timeline.{Happens, IsAddressed, IsTimeline, contacts_of, crossings_of, events_in, seen_box}
pub use Rattle.net_sim.specs.Told.{host_in, kept_by, kept_in, notices_by, without_reports}
pub use Rattle.net_sim.specs.Whole.{AreServed, Each, IsNamed, seat_in}
pub use Rattle.net_sim.specs.Worked.{asker, crossings, eight, eight_zeros, elsewhere, four, giver, message, over, receiver, sender, stranger, taker}
pub use Rattle.net_sim.specs.WorkedMoments.{eight_sent, rts, str}
pub use Rattle.net_sim.specs.World.{Ask, AskGives, AtProgram, AtSeat, CalmGives, Calms, Carrier, Does, DoesOrHalts, EventGives, Halts, Net, NetEnds, Offer, OfferEnds, OfferGives, Program, Quiet, QuietEnds, Refuses, Repeats, Seat, Server, ServiceSeat, TurnGives, TakeEnds, TakeGives, TurnsOf, TypeGives, Typed, User, WorldFault, WorldState, all_emptied, all_turned, noticed, opening_seats, opening_services, opening_world, seat_of, seated, seats_turned, served_at, serviced, services_in, services_of, stops, tended, up_in, wants_memory, with_carrier, with_program, with_server, with_services, with_user, world_heard, world_moved}
pub use Rattle.net_sim.specs.declared.auditing.said.Audit.{Audit}
pub use Rattle.promise.specs.Formed.{CrossedAt}
pub use Rattle.promise.specs.Safe.{AreTwo, IsGranted, Match, Name, SafeBook, SafeGrants, SafePartners, SafeStreams, Source, before, control_flow, last_out, own_request, partner_request, receives, sends}
pub use Rattle.promise.specs.declared.book.Called.{Called}
pub use Rattle.promise.specs.declared.life.Fate.{Fate}
pub use Rattle.promise.specs.declared.life.Life.{Life}
pub use Rattle.reset_law.proofs.lemmas.{clean_run, ready_phase}
pub use Rattle.reset_law.specs.Boxes.{Box, Fits, Waiting, WaitsWith, at_link, boxes, posted}
pub use Rattle.reset_law.specs.Events.{Contact, Idle, In, Message, Other, Reply, Reset, part_of, place, when}
pub use Rattle.reset_law.specs.Pairs.{Kind, Pair, pair, pair_moved}
pub use Rattle.reset_law.specs.Runs.{Allowed, Needs, WaitsAfterClean}
pub use Rattle.sockets.proofs.lemmas.{pair_changed}
pub use Rattle.sockets.specs.Accepting.{accepted, accepted_answer, accepted_message}
pub use Rattle.sockets.specs.Pairs.{NcpState, opening_state, owner_of, pair_with, with_pair}
pub use Rattle.sockets.specs.Peers.{AreInOrder}
pub use Rattle.sockets.specs.Requests.{at_owner, closed_socket, refusal, served, served_notices}
pub use Rattle.sockets.specs.Sending.{message_for, next_in, next_out, offered, offered_by}
pub use Rattle.sockets.specs.Worked.{first, second, third}
pub use Rattle.sockets.specs.declared.fault.NcpFault.{NcpFault}
pub use Rattle.sockets.specs.declared.peer.Peer.{Peer}
pub use Rattle.sockets.specs.declared.request.Request.{Request}
pub use Rattle.std.proofs.Common.{Bool, Err, IfSome, List, MatchOption, None, Ok, OnOk, Option, Some, [], add-one, ap, arith, cond, drop, eq-eqb, false, filter, find, get_or, if◌then◌else◌, inl, inr, length, map, nat_lt, not, refl, rules, slice_set, subst, suc, sym, take, true, zero, ℕ, ◌%◌, ◌&&◌, ◌*◌, ◌++◌, ◌+◌, ◌-◌, ◌<◌, ◌==◌, ◌||◌, ◌∙◌, ◌∷◌, ◌≡◌, ◌≤◌, ◌⊎◌}
pub use Rattle.std.proofs.Math.Seq.{drop-append_seam, take-append_seam}
pub use Rattle.std.proofs.lemmas.Bool.{cases_lt, eqb-true}
pub use Rattle.std.proofs.lemmas.Grind.{reverse_onto}
pub use Rattle.std.proofs.lemmas.List.{append-nil, drop_more, length-map, length-reverse, map-append, nil_from_length, reverse-append, take-append-drop, take_all, take_more}
pub use Rattle.std.proofs.lemmas.List.Elements.{All-cons, All-head, All-nil, All-push, All-tail, All-weaker}
pub use Rattle.std.specs.Bool.{MatchBool}
pub use Rattle.std.specs.List.{Contains, flat_map, fold, list_all, list_any}
pub use Rattle.std.specs.Option.{option_or}
pub use Rattle.std.specs.Prelude.{is_none, ◌↔◌}
