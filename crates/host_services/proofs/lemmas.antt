-- The lemmas of this crate that others may use: the proofs of net_sim do. All others in proofs/ are its own.
pub use Rattle.host_services.proofs.Asking.{server_asked_all, server_named_all, told_asked, user_asked_all, user_named_all}
