-- The lemmas of this crate that others may use: the proofs of imp_node and subnet do. All others in proofs/ are its own.
pub use Rattle.imp_channel.proofs.Holding.{ContentHas, LineHas, PutHas, fresh_carried, have_packets, opening_has, opening_packets, packets_have, received_has, resent_has, submitted_has}
