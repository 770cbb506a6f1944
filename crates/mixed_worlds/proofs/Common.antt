-- The names that several files of these proofs take from elsewhere, passed on from one place.
pub use Rattle.host_keeps_pairing.specs.Ends.{Stand, Standing, at, standing}
pub use Rattle.host_keeps_pairing.specs.Words.{mark_of, marks}
pub use Rattle.host_keeps_ranges.proofs.lemmas.{offer_read, pair_range, text_good}
pub use Rattle.host_keeps_ranges.specs.Ranges.{AreOrders, IsOrder, IsReadBack}
pub use Rattle.host_keeps_streams.proofs.lemmas.{find_passes}
pub use Rattle.host_pairs.proofs.lemmas.{both}
pub use Rattle.host_pairs.specs.Control.{Legal, Order, orders_of}
pub use Rattle.host_pairs.specs.Desk.{DeskState, desk_of, listens_on}
pub use Rattle.host_pairs.specs.Entries.{is_mine_on}
pub use Rattle.host_pairs.specs.Pair.{PairState}
pub use Rattle.host_pairs.specs.Parcels.{Parcel}
pub use Rattle.host_pairs.specs.declared.entry.Entry.{Entry}
pub use Rattle.host_pairs.specs.declared.listener.Listener.{Listener}
pub use Rattle.host_pairs.specs.declared.notice.Notice.{Notice}
pub use Rattle.interface.proofs.lemmas.{or_false, safe_messages, same_host-refl, same_host-true}
pub use Rattle.interface.specs.Host.{Host, same_host}
pub use Rattle.interface.specs.declared.address.Flow.{Flow}
pub use Rattle.interface.specs.declared.crossing.Answer.{Answer}
pub use Rattle.interface.specs.declared.crossing.Crossing.{Crossing}
pub use Rattle.interface.specs.declared.message.HostMessage.{HostMessage}
pub use Rattle.mixed_worlds.specs.Arrived.{ArrivedAmong}
pub use Rattle.mixed_worlds.specs.Book.{beside_among, contacts_among, crossed_only, is_among, lives_among, mixed_kept, without_strangers}
pub use Rattle.mixed_worlds.specs.Mixed.{IsMixed}
pub use Rattle.mixed_worlds.specs.Toward.{AreOf}
pub use Rattle.ncp_control.specs.DataHeader.{data_bits, header_bits, header_of}
pub use Rattle.ncp_control.specs.Numbers.{is_receive_socket, is_send_socket}
pub use Rattle.ncp_control.specs.Phases.{is_ready}
pub use Rattle.ncp_control.specs.declared.allocation.Allocation.{Allocation}
pub use Rattle.ncp_control.specs.declared.command.Command.{Command}
pub use Rattle.ncp_control.specs.declared.data_header.DataHeader.{DataHeader}
pub use Rattle.net_sim.proofs.lemmas.{places_same, same_host-sym}
pub use Rattle.net_sim.specs.Book.{Kept}
pub use Rattle.net_sim.specs.Reports.{IsBacked}
pub use Rattle.net_sim.specs.Story.{Asked, Crossed, Moment, places, program}
pub use Rattle.net_sim.specs.Timeline.{contacts_of, crossings_of}
pub use Rattle.net_sim.specs.Told.{host_in, kept_by, kept_in, notices_by}
pub use Rattle.net_sim.specs.Worked.{eight}
pub use Rattle.pairing_law.specs.Ends.{End}
pub use Rattle.pairing_law.specs.Marks.{Ask, Close, Mark}
pub use Rattle.promise.specs.Connections.{JoinedBook}
pub use Rattle.promise.specs.Fates.{AreFated, ClosesWhole, IsBeside}
pub use Rattle.promise.specs.Formed.{CrossedAt}
pub use Rattle.promise.specs.Safe.{Match, control_flow, receives, sends}
pub use Rattle.promise.specs.declared.book.Called.{Called}
pub use Rattle.promise.specs.declared.life.Amount.{Amount}
pub use Rattle.promise.specs.declared.life.Fate.{Fate}
pub use Rattle.promise.specs.declared.life.Life.{Life}
pub use Rattle.reset_law.specs.Network.{AreOurs, Network}
pub use Rattle.sockets.proofs.lemmas.{next_pair}
pub use Rattle.sockets.specs.Accepting.{accepted}
pub use Rattle.sockets.specs.Pairs.{NcpState, opening_state, pair_with}
pub use Rattle.sockets.specs.Peers.{AreInOrder}
pub use Rattle.sockets.specs.Requests.{served}
pub use Rattle.sockets.specs.Sending.{message_for, next_in, offered}
pub use Rattle.sockets.specs.Worked.{first, on_link, second, third}
pub use Rattle.sockets.specs.declared.peer.Peer.{Peer}
pub use Rattle.sockets.specs.declared.request.Request.{Request}
pub use Rattle.std.proofs.Common.{Bool, List, None, Option, Some, [], ap, arith, drop, eq-eqb, false, find, if◌then◌else◌, inl, inr, is_some, length, map, not, refl, subst, sym, take, true, ℕ, ◌&&◌, ◌*◌, ◌++◌, ◌<◌, ◌==◌, ◌∙◌, ◌∷◌, ◌≡◌, ◌⊎◌}
pub use Rattle.std.proofs.Math.Seq.{drop-append_seam}
pub use Rattle.std.proofs.lemmas.Bool.{eqb-true}
pub use Rattle.std.proofs.lemmas.List.{append-nil, append_assoc}
pub use Rattle.std.proofs.lemmas.Option.{same_Some}
pub use Rattle.std.specs.List.{Contains, list_any}
pub use Rattle.world_keeps_lives.proofs.lemmas.{Holds}
pub use Rattle.world_keeps_lives.specs.Lives.{HasOpenEnd, mine_on}
pub use Rattle.world_keeps_lives.specs.SomeEnd.{HasSome}
pub use Rattle.world_keeps_pairing.proofs.lemmas.{even_odd, in_book, send_odd}
pub use Rattle.world_keeps_streams.specs.Sent.{EachWasSent}
pub use Rattle.world_keeps_streams.specs.Within.{CountNothingLater}
