-- The lemmas of this crate that others may use: the proofs of command_line do. All others in proofs/ are its own.
pub use Rattle.book_log.proofs.Networks.{alone, log_some, ran_some}
pub use Rattle.book_log.proofs.Once.{book_once, strangers_once}
pub use Rattle.book_log.proofs.Printed.{fates_back, lives_back}
