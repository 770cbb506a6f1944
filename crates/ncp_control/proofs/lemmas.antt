-- The lemmas of this crate that others may use: the proofs of host_keeps_ranges, host_pairs, host_services, net_sim, pair_keeps_streams and stream_law do. All others in proofs/ are its own.
pub use Rattle.ncp_control.proofs.Counters.{share-le}
pub use Rattle.ncp_control.proofs.Fronts.{longest_front}
pub use Rattle.ncp_control.proofs.Headers.{header_again, octets_enough}
pub use Rattle.ncp_control.proofs.PackedLemmas.{packed_again}
pub use Rattle.ncp_control.proofs.Readings.{spelled_by, word_below}
