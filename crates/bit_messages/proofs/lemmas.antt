-- The lemmas of this crate that others may use: the proofs of host_keeps_ranges, host_pairs, host_services, icp, ncp_control, net_sim, packetiser, script, subnet and terminal do. All others in proofs/ are its own.
pub use Rattle.bit_messages.proofs.BodyLemmas.{IsSplit, split_text, text_of-body}
pub use Rattle.bit_messages.proofs.OctetLemmas.{bits_again, length-bits_of, octet_again, octet_below, octet_bits_again, octets_again, octets_below, octets_of-append}
pub use Rattle.bit_messages.proofs.PackedLemmas.{bits_of-append, packs_octets}
