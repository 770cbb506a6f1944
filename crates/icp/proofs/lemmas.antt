-- The lemmas of this crate that others may use: the proofs of net_sim do. All others in proofs/ are its own.
pub use Rattle.icp.proofs.Playing.{server_after, server_comes, user_after, user_comes}
pub use Rattle.icp.proofs.ServerLemmas.{ServerDone, server_done, server_over}
pub use Rattle.icp.proofs.UserLemmas.{UserDone, user_done, user_over}
