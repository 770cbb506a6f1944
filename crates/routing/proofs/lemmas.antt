-- The lemmas of this crate that others may use: the proofs of imp_channel, subnet and subnet_trace do. All others in proofs/ are its own.
pub use Rattle.routing.proofs.Nexts.{claims-shown, distance-other, next-nowhere, vector-is}
pub use Rattle.routing.proofs.VectorLemmas.{is_vector-true, vector_tested}
