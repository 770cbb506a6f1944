-- The lemmas of this crate that others may use: the proofs of mixed_worlds, world_keeps_connections,
-- world_keeps_lives, world_keeps_pairing and world_keeps_streams do. All others in proofs/ are its own.
pub use Rattle.host_keeps_pairing.proofs.Calls.{answer_keeps, message_data, message_hears, message_idle, message_replies, message_resets, offer_may, offer_says, opening_has, put}
pub use Rattle.host_keeps_pairing.proofs.Desks.{On, change_away, change_here, ends_swept, found_here, loose, none_here, on_queued, on_settled}
pub use Rattle.host_keeps_pairing.proofs.Endings.{answer_knows, data_told_same, idle_leaves, message_knows, offer_knows, others_leave, request_knows, rrp_leaves, rst_knows}
pub use Rattle.host_keeps_pairing.proofs.Fronts.{untagged_is}
pub use Rattle.host_keeps_pairing.proofs.Lists.{Found, Is, are, at_append, at_one, sockets_of}
pub use Rattle.host_keeps_pairing.proofs.Lists.{eqb-sym, found_at, found_same, marks_append, none_at}
pub use Rattle.host_keeps_pairing.proofs.Partners.{known_match}
pub use Rattle.host_keeps_pairing.proofs.Passes.{one_gone}
pub use Rattle.host_keeps_pairing.proofs.Requests.{none_is, peer_here, request_keeps}
pub use Rattle.host_keeps_pairing.proofs.Stands.{asked_by, closed_by, due_still, heads, live_end, plain, stand_asked}
pub use Rattle.host_keeps_pairing.proofs.Takes.{on_taken}
pub use Rattle.host_keeps_pairing.proofs.Told.{answer_other, data_told, idle_other, message_tells, offer_tells, rrp_other, rst_other}
pub use Rattle.host_keeps_pairing.proofs.Turns.{after_data, after_reply, after_reset, fit_first, one_order, orders_idle, ready_when, reply_idle, rfnm_idle, same_kept, work_of}
