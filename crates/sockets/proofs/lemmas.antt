-- The lemmas of this crate that others may use: the proofs of host_keeps_pairing, host_keeps_ranges, net_sim, world_keeps_connections, world_keeps_lives, world_keeps_pairing and world_keeps_streams do. All others in proofs/ are its own.
pub use Rattle.sockets.proofs.NextLemmas.{next_pair}
pub use Rattle.sockets.proofs.NoticeLemmas.{answer_about, message_about, offer_about}
pub use Rattle.sockets.proofs.OtherLemmas.{answer_leaves, message_leaves, offer_leaves}
pub use Rattle.sockets.proofs.PairLemmas.{others_stay, pair_changed}
pub use Rattle.sockets.proofs.ParcelLemmas.{next_is}
pub use Rattle.sockets.proofs.PeerLemmas.{order_placed, order_removed, same_host-true, same_octet}
pub use Rattle.sockets.proofs.RefusalLemmas.{not_first}
