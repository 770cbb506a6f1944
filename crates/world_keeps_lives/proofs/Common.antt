-- The names that several files of these proofs take from elsewhere, passed on from one place.
pub use Rattle.host_keeps_ranges.proofs.lemmas.{offer_read, pair_range, text_good}
pub use Rattle.host_keeps_ranges.specs.Ranges.{AreCommands, AreOrders, IsOrder, IsReadBack}
pub use Rattle.host_pairs.proofs.lemmas.{both, not_is, what_goes}
pub use Rattle.host_pairs.specs.Allowed.{MayGo}
pub use Rattle.host_pairs.specs.Control.{ERRONEOUS, Legal, NOT_CONNECTED, NO_SOCKET, Order, Wrong, error, orders_of}
pub use Rattle.host_pairs.specs.Data.{data_of, data_taken}
pub use Rattle.host_pairs.specs.Desk.{DeskState, command_queued, desk_of, desk_told, listener_on, listens_on, settled, swept, without_listener}
pub use Rattle.host_pairs.specs.Entries.{changed_first, has_cls, is_ending, is_link, is_mine_on, is_open, is_receiving, receives_on, sends_on}
pub use Rattle.host_pairs.specs.Pair.{PairState}
pub use Rattle.host_pairs.specs.Parcels.{Parcel, asked_at, cls_sent}
pub use Rattle.host_pairs.specs.declared.entry.Closing.{Closing}
pub use Rattle.host_pairs.specs.declared.entry.Entry.{Entry}
pub use Rattle.host_pairs.specs.declared.listener.Listener.{Listener}
pub use Rattle.host_pairs.specs.declared.notice.Notice.{Notice}
pub use Rattle.interface.proofs.lemmas.{contains_head, contains_tail, not_false, not_true, or_false, same_flow-refl, same_flow-true, same_host-refl, same_host-true}
pub use Rattle.interface.specs.Flow.{same_flow}
pub use Rattle.interface.specs.Host.{Host, same_host}
pub use Rattle.interface.specs.declared.address.Flow.{Flow}
pub use Rattle.interface.specs.declared.crossing.Answer.{Answer}
pub use Rattle.interface.specs.declared.crossing.Crossing.{Crossing}
pub use Rattle.interface.specs.declared.message.HostMessage.{HostMessage}
pub use Rattle.ncp_control.specs.Command.{IsCommand, spelling}
pub use Rattle.ncp_control.specs.DataHeader.{data_bits, header_bits, header_of}
pub use Rattle.ncp_control.specs.Numbers.{is_receive_socket, is_send_socket}
pub use Rattle.ncp_control.specs.Phases.{is_ready}
pub use Rattle.ncp_control.specs.declared.allocation.Allocation.{Allocation}
pub use Rattle.ncp_control.specs.declared.command.Command.{Command}
pub use Rattle.ncp_control.specs.declared.data_header.DataHeader.{DataHeader}
pub use Rattle.ncp_control.specs.declared.phase.Phase.{Phase}
pub use Rattle.net_sim.proofs.lemmas.{Coupled, coupled, places_same}
pub use Rattle.net_sim.specs.Among.{beside_among, is_among, lives_among}
pub use Rattle.net_sim.specs.Book.{Kept, all_told, carried, lives_at, where_it}
pub use Rattle.net_sim.specs.Clean.{HaveAddresses}
pub use Rattle.net_sim.specs.Mixed.{Happened, crossed_only, mixed_kept}
pub use Rattle.net_sim.specs.Projection.{Agrees}
pub use Rattle.net_sim.specs.Story.{Asked, Crossed, Follows, IsNext, IsStory, Moment, events_of, places, program}
pub use Rattle.net_sim.specs.Timeline.{crossings_of}
pub use Rattle.net_sim.specs.Told.{host_in, kept_by, kept_in, notices_by}
pub use Rattle.pairing_law.specs.Ends.{End}
pub use Rattle.pairing_law.specs.Marks.{Ask, Close, Mark}
pub use Rattle.promise.specs.Formed.{CrossedAt, HasCrossed, coming, going, request}
pub use Rattle.promise.specs.Safe.{AreHanded, AreTwo, IsGranted, IsPrefix, Name, SafePartners, before, control_flow, own_request, receives, sends}
pub use Rattle.promise.specs.declared.book.Told.{Told}
pub use Rattle.promise.specs.declared.life.Amount.{Amount}
pub use Rattle.promise.specs.declared.life.Life.{Life}
pub use Rattle.reset_law.specs.Network.{AreOurs, Network}
pub use Rattle.reset_law.specs.Pairs.{pair}
pub use Rattle.sockets.proofs.lemmas.{answer_leaves, message_leaves, next_is, next_pair, not_first, offer_leaves, pair_changed}
pub use Rattle.sockets.specs.Accepting.{accepted}
pub use Rattle.sockets.specs.Pairs.{NcpState, opening_state, owner_of, pair_with}
pub use Rattle.sockets.specs.Peers.{AreInOrder}
pub use Rattle.sockets.specs.Sending.{message_for, next_in, offered}
pub use Rattle.sockets.specs.Worked.{first, second}
pub use Rattle.sockets.specs.declared.peer.Peer.{Peer}
pub use Rattle.sockets.specs.declared.request.Request.{Request}
pub use Rattle.std.proofs.Common.{Bool, List, None, Option, Some, [], ap, arith, drop, eq-eqb, false, filter, find, if◌then◌else◌, inl, inr, is_some, length, map, not, refl, slice_index_or, subst, suc, sym, take, true, zero, ℕ, ◌&&◌, ◌*◌, ◌++◌, ◌<◌, ◌==◌, ◌||◌, ◌∙◌, ◌∷◌, ◌≡◌, ◌⊎◌}
pub use Rattle.std.proofs.Math.Nat.{max-le}
pub use Rattle.std.proofs.Math.Seq.{drop-append_seam}
pub use Rattle.std.proofs.lemmas.Bool.{eqb-true, ltb-false, ltb-true}
pub use Rattle.std.proofs.lemmas.List.{append_assoc, length-append, map-append, take-append-drop}
pub use Rattle.std.proofs.lemmas.List.Elements.{Contains-append_left}
pub use Rattle.std.proofs.lemmas.Option.{same_Some}
pub use Rattle.std.specs.List.{Contains, flat_map, list_any}
pub use Rattle.std.specs.Prelude.{IsSome, option_map}
pub use Rattle.world_keeps_lives.specs.Drained.{ClosedFirst, ClosesFirst, all_lives}
pub use Rattle.world_keeps_lives.specs.Firsts.{begun}
pub use Rattle.world_keeps_lives.specs.Lives.{AddsUp, AreRefusing, EachIn, EachOn, HasOpenEnd, IsBounded, IsFreeSocket, IsFresh, IsLifeOf, IsOwned, IsSafe, IsSteady, NoneOf, at_socket, has_opened, mine_on}
pub use Rattle.world_keeps_lives.specs.SomeEnd.{HasSome}
pub use Rattle.world_keeps_pairing.proofs.lemmas.{in_book, mail_below, programs_ranged, served_in}
pub use Rattle.world_keeps_pairing.specs.Laws.Worlds.{among}
