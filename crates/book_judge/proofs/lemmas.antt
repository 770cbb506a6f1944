-- The lemmas of this crate that others may use: the proofs of command_line do. All others in proofs/ are its own.
pub use Rattle.book_judge.proofs.Ends.Contacts.{made_with}
pub use Rattle.book_judge.proofs.Ends.Together.{suited_with}
pub use Rattle.book_judge.proofs.FirstLives.Lost.{closed_front}
pub use Rattle.book_judge.proofs.Crossed.Made.{made_formed, made_front, made_twice}
pub use Rattle.book_judge.proofs.Crossed.Mailboxes.{run_front}
pub use Rattle.book_judge.proofs.Identities.Named.{contains_cases}
pub use Rattle.book_judge.proofs.FirstLives.Strangers.{toward_front}
pub use Rattle.book_judge.proofs.Ends.Suited.{suited_front}
