-- The lemmas of this crate that others may use: the proofs of host_keeps_pairing, host_keeps_ranges, host_keeps_streams, net_sim, pair_keeps_streams, sockets, world_keeps_connections, world_keeps_lives, world_keeps_pairing and world_keeps_streams do. All others in proofs/ are its own.
pub use Rattle.host_pairs.proofs.ControlLemmas.{control_read, header_covers}
pub use Rattle.host_pairs.proofs.EntryLemmas.{none_found, one_changed, one_found}
pub use Rattle.host_pairs.proofs.GoingLemmas.{all_gone_queue}
pub use Rattle.host_pairs.proofs.GoneLemmas.{none_left}
pub use Rattle.host_pairs.proofs.ListenerLemmas.{beyond_last}
pub use Rattle.host_pairs.proofs.NoticeLemmas.{about_if, answer_told, parcel_kept, text_told}
pub use Rattle.host_pairs.proofs.OpeningLemmas.{both, not_is, opening_is}
pub use Rattle.host_pairs.proofs.ParcelLemmas
pub use Rattle.host_pairs.proofs.ParcelLemmas.{some_is, what_goes}
pub use Rattle.host_pairs.proofs.ReadLemmas.{control_again, signal_again}
pub use Rattle.host_pairs.proofs.TurnLemmas.{quiet_turn}
