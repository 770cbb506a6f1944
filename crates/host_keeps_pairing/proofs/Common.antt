-- The names that several files of these proofs take from elsewhere, passed on from one place.
pub use Rattle.host_keeps_pairing.specs.Ends.{HasEnd, IsSound, Stand, Standing, at, came_from, due, end_of, is_past, kept_in, standing}
pub use Rattle.host_keeps_pairing.specs.Hearing.{AreFree, AreJoint, after_request}
pub use Rattle.host_keeps_pairing.specs.Known.{Knows, all_known, known_after}
pub use Rattle.host_keeps_pairing.specs.Openings.{AreAmong, all_lives_gone, all_lives_taken, with_openings}
pub use Rattle.host_keeps_pairing.specs.Words.{AllFit, MayAllGo, all_gone, mark_in, mark_of, marks, marks_in}
pub use Rattle.host_pairs.specs.Allowed.{commands_of}
pub use Rattle.host_pairs.specs.Commands.{Ending, Open, Unconnected, asked_on_link, asked_with_size, at_end, changed, closed_once, cls_taken_by, entry_joined, gvb_taken, interrupted, matched_once, receiver_on, ret_taken, rts_heard, rts_taken, rts_taken_by, sender_on, str_heard, str_linked, str_taken_by}
pub use Rattle.host_pairs.specs.Control.{ERRONEOUS, Legal, Order, Wrong, error, orders_of}
pub use Rattle.host_pairs.specs.Data.{arrived_if, data_found, data_taken, is_acceptable}
pub use Rattle.host_pairs.specs.Desk.{DeskState, command_queued, desk_of, settled, swept}
pub use Rattle.host_pairs.specs.Entries.{changed_at, changed_first, close_due, closed_by_partner, closed_when, ending, entry_at, is_at, is_busy, is_due, is_ending, is_over, must_close, opening_by, opening_notices, sends_on}
pub use Rattle.host_pairs.specs.Pair.{PairState}
pub use Rattle.host_pairs.specs.Parcels.{Parcel, cls_sent, command_gone, commands_gone, link_of, pair_after, parcel_gone, request_gone}
pub use Rattle.host_pairs.specs.Turn.{TurnState, answered_turn, failed, failed_by, if_ready, is_gone, message_taken, order_taken, orders_taken, reply_notices, reset_notices, settled_turn, with_desk}
pub use Rattle.host_pairs.specs.declared.entry.Closing.{Closing}
pub use Rattle.host_pairs.specs.declared.entry.Entry.{Entry}
pub use Rattle.host_pairs.specs.declared.listener.Listener.{Listener}
pub use Rattle.host_pairs.specs.declared.notice.Notice.{Notice}
pub use Rattle.interface.proofs.lemmas.{same_host-refl, same_host-true}
pub use Rattle.interface.specs.Host.{Host, same_host}
pub use Rattle.interface.specs.declared.address.Flow.{Flow}
pub use Rattle.interface.specs.declared.crossing.Answer.{Answer}
pub use Rattle.interface.specs.declared.message.HostMessage.{HostMessage}
pub use Rattle.ncp_control.specs.Phases.{is_ready}
pub use Rattle.ncp_control.specs.declared.command.Command.{Command}
pub use Rattle.ncp_control.specs.declared.data_header.DataHeader.{DataHeader}
pub use Rattle.ncp_control.specs.declared.phase.Phase.{Phase}
pub use Rattle.pairing_law.specs.Ends.{End, fits, gone, mark_taken, nothing}
pub use Rattle.pairing_law.specs.Marks.{Ask, Close, Mark}
pub use Rattle.pairing_law.specs.Sides.{Life, lives_taken}
pub use Rattle.sockets.proofs.lemmas.{next_pair, pair_changed}
pub use Rattle.sockets.specs.Accepting.{accepted_answer, turn_of}
pub use Rattle.sockets.specs.Pairs.{NcpState, pair_with, with_pair}
pub use Rattle.sockets.specs.Peers.{AreInOrder}
pub use Rattle.sockets.specs.Sending.{next_in}
pub use Rattle.sockets.specs.declared.peer.Peer.{Peer}
pub use Rattle.sockets.specs.declared.request.Request.{Request}
pub use Rattle.std.proofs.Common.{Bool, List, None, Option, Some, [], ap, cond, drop, false, filter, if◌then◌else◌, inl, inr, is_some, map, nat_le, not, refl, subst, sym, take, true, ℕ, ◌&&◌, ◌++◌, ◌==◌, ◌||◌, ◌∙◌, ◌∷◌, ◌≡◌, ◌≤◌, ◌⊎◌}
pub use Rattle.std.proofs.lemmas.Bool.{eqb-true}
pub use Rattle.std.proofs.lemmas.List.{append-nil, append_assoc}
pub use Rattle.std.specs.List.{flat_map, list_any}
