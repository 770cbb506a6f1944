-- The lemmas of this crate that others may use: the proofs of imp_channel, imp_node and subnet do. All others in proofs/ are its own.
pub use Rattle.packetiser.proofs.Holding.{All_left, All_right, added_only, added_table, discarded_only, named_once, rejoined}
pub use Rattle.packetiser.proofs.Packets.{read_again, read_is}
pub use Rattle.packetiser.proofs.Pieces.{body_sized, few_pieces, piece_fits}
pub use Rattle.packetiser.proofs.Rejoining.{joined_whole, packets_are}
pub use Rattle.packetiser.proofs.Slots.{without_table}
