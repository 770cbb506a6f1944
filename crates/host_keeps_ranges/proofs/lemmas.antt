-- The lemmas of this crate that others may use: the proofs of world_keeps_lives, world_keeps_pairing and world_keeps_streams do. All others in proofs/ are its own.
pub use Rattle.host_keeps_ranges.proofs.Calls.{answer_ranged, message_ranged, offer_ranged, offer_read, pair_range}
pub use Rattle.host_keeps_ranges.proofs.Desks.{free_is_link, size_found}
pub use Rattle.host_keeps_ranges.proofs.Orders.{text_good}
pub use Rattle.host_keeps_ranges.proofs.Requests.{request_ranged}
pub use Rattle.host_keeps_ranges.proofs.Takes.{Ranged, ranged_error, ranged_taken}
